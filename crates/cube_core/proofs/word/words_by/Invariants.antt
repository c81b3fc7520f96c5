use Rattle.std.proofs.Common.{◌≡◌, ℕ, ◌<◌, length, get_or}
use Rattle.cube_core.proofs.word.words_by.Given as goal

abbrev pub invariant-loop-place : goal.invariant-loop-place
invariant-loop-place g l = (length l.words ≡ 16) × ((k : ℕ) → k < l.place → goal.F-post g l.word k (get_or l.words k 0))
