-- The name of an output, as it is read and as it is written.
use Rattle.std.proofs.Common.{◌≡◌, ℕ, ◌<◌, true, false, List, length, get_or, map, refl, sym, ap, ◌∙◌, Some}
use Rattle.std.specs.Prelude.{slice_get}
use Rattle.std.specs.Option.{option_map}
use Rattle.std.specs.Str.{bytes_eq}
use Rattle.std.specs.declared.option.Option.{Option}
use Rattle.std.proofs.lemmas.Bool.{true≢false}
use Rattle.std.proofs.lemmas.Option.{slice_get-map, slice_get_read}
use Rattle.std.proofs.lemmas.Slice.Eq.{bytes_eq-Decides}
use Rattle.pla_reader.specs.Names.{bytes_of}
use Rattle.pla_reader.specs.declared.name.Name.{Name}

one_some : {X : Type 0} (o : Option X) (a b : X) → o ≡ Some a → o ≡ Some b → a ≡ b
one_some o a b p q = cc

name_at : (names keys : List Name) (k : ℕ) (name : Name) → names ≡ keys → k < length names → name ≡ get_or names k name → slice_get (map bytes_of keys) k ≡ Some (bytes_of name)
name_at names keys k name same within is =
    slice_get-map bytes_of keys k ∙ ap (option_map bytes_of) (ap (λ l. slice_get l k) (sym same) ∙ slice_get_read names (length names) k name refl within is)

pub same_name : (names keys : List Name) (k : ℕ) (name : Name) (a b wanted : List ℕ) → names ≡ keys → k < length names → name ≡ get_or names k name → a ≡ bytes_of name → b ≡ wanted
    → true ≡ bytes_eq a b → slice_get (map bytes_of keys) k ≡ Some wanted
same_name names keys k name a b wanted same within is a_is b_is equal =
    name_at names keys k name same within is ∙ ap Some (sym a_is ∙ (bytes_eq-Decides a b).0 (sym equal) ∙ b_is)

pub other_name : (names keys : List Name) (k : ℕ) (name : Name) (a b wanted : List ℕ) → names ≡ keys → k < length names → name ≡ get_or names k name → a ≡ bytes_of name → b ≡ wanted
    → false ≡ bytes_eq a b → slice_get (map bytes_of keys) k ≡ Some wanted → ⊥
other_name names keys k name a b wanted same within is a_is b_is different wants =
    let e : bytes_of name ≡ wanted = one_some _ _ _ (name_at names keys k name same within is) wants in
    let yes : bytes_eq a b ≡ true = (bytes_eq-Decides a b).1 (a_is ∙ e ∙ sym b_is) in
    true≢false (sym yes ∙ sym different)
