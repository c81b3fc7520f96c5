-- The last of the words.
use Rattle.std.proofs.Common.{◌≡◌, ℕ, zero, suc, ◌-◌, List, [], ◌∷◌, length, map, slice_get, Option, Some, None, String, string_bytes, Ok, Err, Result, IfOk, MatchResult, ap, sym, ◌∙◌, subst, arith}
use Rattle.std.specs.Global.{Global}
use Rattle.lattice_process.specs.Words.{last_of}

abbrev option_or : {X : Type 0} → X → Option X → X
option_or x None = x
option_or x (Some y) = y

one_less : (n : ℕ) → suc (suc n) - 1 ≡ suc (suc n - 1)
one_less n = omega arith

-- what stands at the last place is the last of the words
pub last_some : (words : List (String Global)) (word : String Global) → slice_get words (length words - 1) ≡ Some word → last_of (map string_bytes words) ≡ string_bytes word
last_some [] word at = ap (λ o. option_or [] (map_bytes o)) at where
  map_bytes : Option (String Global) → Option (List ℕ)
  map_bytes None = None
  map_bytes (Some w) = Some (string_bytes w)
last_some (one ∷ []) word at = ap (λ o. string_bytes (option_or one o)) at
last_some (one ∷ (next ∷ words)) word at = last_some (next ∷ words) word (subst (λ n. slice_get (one ∷ (next ∷ words)) n ≡ Some word) (one_less (length words)) at)

-- a copy of the word at the last place is the last of the words
pub last_copied : {E : Type 0} (R : E → Type 0) (words : List (String Global)) (word : String Global) (copied : Result (String Global) E) → MatchResult copied (λ t. string_bytes t ≡ string_bytes word) R → Some word ≡ slice_get words (length words - 1) → IfOk copied (λ path. string_bytes path ≡ last_of (map string_bytes words))
last_copied R words word (Ok t) same at = same ∙ sym (last_some words word (sym at))
last_copied R words word (Err e) same at = tt
