use Rattle.std.proofs.Common.{◌≡◌, ℕ, ◌<◌, false}
use Rattle.reach_encoding.specs.Decode.{is_chosen}
use Rattle.reach_encoding.proofs.decode.first_chosen.Given as goal

abbrev pub invariant-loop-control : goal.invariant-loop-control
invariant-loop-control l = (c : ℕ) → c < l.control → is_chosen l.controls l.v l.cell c ≡ false
