use Rattle.std.proofs.Common.{◌≡◌, ℕ, ◌<◌, get_or, false}
use Rattle.clause_core.specs.Text.{is_blank}
use Rattle.clause_core.proofs.text.word_len.Given as goal

abbrev pub invariant-loop-index : goal.invariant-loop-index
invariant-loop-index l = (k : ℕ) → k < l.index → is_blank (get_or l.text k 0) ≡ false
