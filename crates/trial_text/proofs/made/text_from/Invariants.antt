use Rattle.std.proofs.Common.{◌≡◌, ◌++◌, ◌-◌, codes}
use Rattle.trial_text.specs.Made.{rows_of}
use Rattle.trial_text.proofs.made.text_from.Given as goal

-- with the rows that are still to be drawn the text is whole
abbrev pub invariant-loop : goal.invariant-loop
invariant-loop g l = l.text.items ++ rows_of (24 - l.counter) (g.R.Rng.stream l.rng) ≡ codes ".i 6\n.o 16\n" ++ rows_of 24 (g.R.Rng.stream l.fn.rng)
