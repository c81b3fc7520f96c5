-- A letter and a number make a name.
use Rattle.std.proofs.Common.{ℕ, ◌^◌, ◌≤◌, ◌<◌, List, [], ◌∷◌, arith}
use Rattle.std.specs.Prelude.{All}
use Rattle.std.specs.Fmt.{decimal}
use Rattle.std.specs.Str.Parse.{AllDigits}
use Rattle.std.proofs.lemmas.Fmt.{decimal_is_IsNumeral}
use Rattle.std.proofs.lemmas.Str.Parse.{digit_from_value}
use Rattle.std.proofs.lemmas.List.Elements.{All-cons, All-nil}
use Rattle.pla_reader.specs.Name.{IsName, IsNameByte}

All-digits : (ds : List ℕ) → AllDigits 10 ds → All IsNameByte ds
All-digits [] h = All-nil IsNameByte
All-digits (d ∷ ds) h = let range = digit_from_value d h.0 in All-cons IsNameByte d ds (omega (arith, range), omega (arith, range)) (All-digits ds h.1)

pub IsName-numbered : (letter n : ℕ) → 33 ≤ letter → letter ≤ 126 → n < 2 ^ 64 → IsName (letter ∷ decimal n)
IsName-numbered letter n low high few = record {
  some = omega arith;
  each = All-cons IsNameByte letter (decimal n) (low, high) (All-digits (decimal n) (decimal_is_IsNumeral n few).0.1);
}
