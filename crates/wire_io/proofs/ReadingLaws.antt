-- How many bytes a source lost in the calls so far.
use Rattle.std.specs.Prelude.{◌≡◌, ℕ, List, ◌++◌, ◌+◌, ◌≤◌, length}
use Rattle.std.specs.declared.option.Option.{Option}
use Rattle.std.proofs.Common.{arith, length-append}
use Rattle.wire_io.specs.Told.{Loses, LosesCount, LosesUpTo}
use Rattle.wire_io.specs.Laws.{Loses-append}

pub LosesCount-append : (a b c : Option (List ℕ)) (xs ys : List ℕ) (n : ℕ) → Loses a b xs → Loses b c ys → length xs + length ys ≡ n → LosesCount a c n
LosesCount-append a b c xs ys n first second many = record {
  front = xs ++ ys;
  many = omega (arith, length-append xs ys);
  lost = Loses-append a b c xs ys first second;
}

pub LosesUpTo-append : (a b c : Option (List ℕ)) (xs ys : List ℕ) (n : ℕ) → Loses a b xs → Loses b c ys → length xs + length ys ≤ n → LosesUpTo a c n
LosesUpTo-append a b c xs ys n first second few = record {
  front = xs ++ ys;
  few = omega (arith, length-append xs ys);
  lost = Loses-append a b c xs ys first second;
}
