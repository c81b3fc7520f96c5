use Rattle.std.proofs.Common.{◌≡◌, ◌++◌, ◌-◌, map}
use Rattle.trial_text.specs.Made.{digit_of, drawn, left_after}
use Rattle.trial_text.proofs.made.push_digits.Given as goal

-- with what is still to be drawn the text is whole
abbrev pub invariant-loop : goal.invariant-loop
invariant-loop g l =
    (l.text.items ++ map (digit_of l.plane) (drawn (l.end - l.counter) (g.R.Rng.stream l.rng)) ≡ l.initial.text.items ++ map (digit_of l.plane) (drawn (l.end - l.initial.counter) (g.R.Rng.stream l.initial.rng)))
    × (left_after (l.end - l.counter) (g.R.Rng.stream l.rng) ≡ left_after (l.end - l.initial.counter) (g.R.Rng.stream l.initial.rng))
