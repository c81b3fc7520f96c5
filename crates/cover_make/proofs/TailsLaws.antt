-- A list of cubes that is gone through from the first to the last, with what the later ones have at hand.
use Rattle.std.proofs.Common.{◌≡◌, ℕ, ◌+◌, ◌<◌, Bool, true, false, cond, List, [], ◌∷◌, ◌++◌, length, get_or, drop, refl, sym, ap, ap₂, ◌∙◌, arith, add-one, length-append}
use Rattle.std.specs.FinSet as set
use Rattle.std.specs.Cmp.{nat_cmp_total}
use Rattle.std.proofs.Math.Seq.{drop-cons, drop-length}
use Rattle.std.proofs.lemmas.List.{same_from_push, append-nil, append_assoc}
use Rattle.cube_core.specs.Cube.{Product, members_of_cube}
use Rattle.cube_core.specs.Members.{Assignments, IsWithin}
use Rattle.cover_make.specs.Cubes.{table_of}
use Rattle.cover_make.specs.Cover.{covers, irredundant_part}
use Rattle.cover_make.specs.Tails.{tails_of}
use Rattle.cover_make.proofs.CubesLaws.{table_of-nil, table_of-cons, table_of-push, table_of-append}

-- what is behind a place is the cube there and what is behind it
pub drop-here : (cubes : List Product) (i : ℕ) (c : Product) → i < length cubes → c ≡ get_or cubes i c → drop i cubes ≡ c ∷ drop (i + 1) cubes
drop-here cubes i c within is = drop-cons cubes i c within ∙ ap₂ (λ d n. d ∷ drop n cubes) (sym is) (sym (add-one i))

-- one turn of a loop that goes from the last place to the first
pub tails_of-grown : (inputs : ℕ) (cubes : List Product) (i j : ℕ) (c : Product) (old new : List Assignments) (behind copied : Assignments) → j ≡ i + 1 → i < length cubes → c ≡ get_or cubes i c
    → old ≡ tails_of inputs (drop j cubes) → behind ≡ table_of inputs (drop j cubes) → copied ≡ behind → new ≡ old ++ copied ∷ [] → new ≡ tails_of inputs (drop i cubes)
tails_of-grown inputs cubes i j c old new behind copied next within is before has same now =
    now ∙ ap₂ (λ ts t. ts ++ t ∷ []) (before ∙ ap (λ n. tails_of inputs (drop n cubes)) next) (same ∙ has ∙ ap (λ n. table_of inputs (drop n cubes)) next) ∙ sym (ap (tails_of inputs) (drop-here cubes i c within is))

pub behind-grown : (inputs : ℕ) (cubes : List Product) (i j : ℕ) (c : Product) (old new : Assignments) → j ≡ i + 1 → i < length cubes → c ≡ get_or cubes i c
    → old ≡ table_of inputs (drop j cubes) → new ≡ set.union old (members_of_cube inputs c) → new ≡ table_of inputs (drop i cubes)
behind-grown inputs cubes i j c old new next within is before now =
    now ∙ ap (λ s. set.union s (members_of_cube inputs c)) (before ∙ ap (λ n. table_of inputs (drop n cubes)) next) ∙ sym (ap (table_of inputs) (drop-here cubes i c within is) ∙ table_of-cons inputs c (drop (i + 1) cubes))

pub drop-whole : (cubes : List Product) (n : ℕ) → n ≡ length cubes → drop n cubes ≡ []
drop-whole cubes n e = ap (λ m. drop m cubes) e ∙ drop-length cubes

-- So many cubes are gone through: those that are kept are in a list, and what they have and what the later ones have are at hand.
pub record IsKeptBelow (inputs : ℕ) (need : Assignments) (cubes done : List Product) (before : Assignments) (tails : List Assignments) (place : ℕ) : Type 0 where
  pub whole : irredundant_part inputs need [] cubes ≡ done ++ irredundant_part inputs need done (drop place cubes)
  pub before_is : before ≡ table_of inputs done
  pub tails_are : tails ≡ tails_of inputs (drop place cubes)

pub IsKeptBelow-none : (inputs : ℕ) (need : Assignments) (cubes : List Product) (before : Assignments) (tails : List Assignments)
    → before ≡ set.empty → tails ≡ tails_of inputs cubes → IsKeptBelow inputs need cubes [] before tails 0
IsKeptBelow-none inputs need cubes before tails none all = record { whole = refl; before_is = none ∙ sym (table_of-nil inputs); tails_are = all }

-- what the later ones have comes off the end
popped : (inputs : ℕ) (cubes : List Product) (i : ℕ) (c : Product) (old new : List Assignments) (later : Assignments) → i < length cubes → c ≡ get_or cubes i c
    → old ≡ tails_of inputs (drop i cubes) → old ≡ new ++ later ∷ [] → (new ≡ tails_of inputs (drop (i + 1) cubes)) × (later ≡ table_of inputs (drop (i + 1) cubes))
popped inputs cubes i c old new later within is before now =
    same_from_push new (tails_of inputs (drop (i + 1) cubes)) later (table_of inputs (drop (i + 1) cubes)) (sym now ∙ before ∙ ap (tails_of inputs) (drop-here cubes i c within is))

pub some-tails : (inputs : ℕ) (cubes : List Product) (i : ℕ) (c : Product) (tails : List Assignments) → i < length cubes → c ≡ get_or cubes i c
    → tails ≡ tails_of inputs (drop i cubes) → 0 < length tails
some-tails inputs cubes i c tails within is before =
    let e : length tails ≡ length (tails_of inputs (drop (i + 1) cubes)) + 1 =
    ap length (before ∙ ap (tails_of inputs) (drop-here cubes i c within is)) ∙ length-append (tails_of inputs (drop (i + 1) cubes)) (table_of inputs (drop (i + 1) cubes) ∷ []) in
    omega arith

-- the test of the loop is whether the others cover
covers-at : (inputs : ℕ) (need : Assignments) (done rest : List Product) (before later joined : Assignments) → before ≡ table_of inputs done → later ≡ table_of inputs rest
    → joined ≡ set.union before later → joined ≡ table_of inputs (done ++ rest)
covers-at inputs need done rest before later joined b l j = j ∙ ap₂ set.union b l ∙ sym (table_of-append inputs done rest)

-- the cube goes, since the others cover need
pub IsKeptBelow-dropped : (inputs : ℕ) (need : Assignments) (cubes done : List Product) (before later joined : Assignments) (tails rest : List Assignments) (i : ℕ) (c : Product)
    → IsKeptBelow inputs need cubes done before tails i → i < length cubes → c ≡ get_or cubes i c → tails ≡ rest ++ later ∷ [] → joined ≡ set.union before later
    → IsWithin need joined → IsKeptBelow inputs need cubes done before rest (i + 1)
IsKeptBelow-dropped inputs need cubes done before later joined tails rest i c h within is popping joining all =
    let off = popped inputs cubes i c tails rest later within is h.tails_are popping in
    let others : joined ≡ table_of inputs (done ++ drop (i + 1) cubes) = covers-at inputs need done (drop (i + 1) cubes) before later joined h.before_is off.1 joining in
    let passes : covers inputs (done ++ drop (i + 1) cubes) need ≡ true = ap (set.is_subset need) (sym others) ∙ set.contains-is_subset nat_cmp_total need joined all in
    record {
      whole = h.whole ∙ ap (λ cs. done ++ irredundant_part inputs need done cs) (drop-here cubes i c within is)
          ∙ ap (λ b. done ++ cond b (irredundant_part inputs need done (drop (i + 1) cubes)) (c ∷ irredundant_part inputs need (done ++ c ∷ []) (drop (i + 1) cubes))) passes;
      before_is = h.before_is;
      tails_are = off.0;
    }

-- the cube stays, since the others do not cover need
pub IsKeptBelow-held : (inputs : ℕ) (need : Assignments) (cubes done : List Product) (before later joined more : Assignments) (tails rest : List Assignments) (i : ℕ) (c : Product)
    → IsKeptBelow inputs need cubes done before tails i → i < length cubes → c ≡ get_or cubes i c → tails ≡ rest ++ later ∷ [] → joined ≡ set.union before later
    → (IsWithin need joined → ⊥) → more ≡ set.union before (members_of_cube inputs c) → IsKeptBelow inputs need cubes (done ++ c ∷ []) more rest (i + 1)
IsKeptBelow-held inputs need cubes done before later joined more tails rest i c h within is popping joining none growing =
    let off = popped inputs cubes i c tails rest later within is h.tails_are popping in
    let others : joined ≡ table_of inputs (done ++ drop (i + 1) cubes) = covers-at inputs need done (drop (i + 1) cubes) before later joined h.before_is off.1 joining in
    let fails : covers inputs (done ++ drop (i + 1) cubes) need ≡ false =
    ap (set.is_subset need) (sym others) ∙ not_passed (set.is_subset need joined) (λ passes. none (set.is_subset-contains nat_cmp_total need joined passes)) in
    record {
      whole = h.whole ∙ ap (λ cs. done ++ irredundant_part inputs need done cs) (drop-here cubes i c within is)
          ∙ ap (λ b. done ++ cond b (irredundant_part inputs need done (drop (i + 1) cubes)) (c ∷ irredundant_part inputs need (done ++ c ∷ []) (drop (i + 1) cubes))) fails
          ∙ sym (append_assoc done (c ∷ []) (irredundant_part inputs need (done ++ c ∷ []) (drop (i + 1) cubes)));
      before_is = growing ∙ ap (λ s. set.union s (members_of_cube inputs c)) h.before_is ∙ sym (table_of-push inputs done c);
      tails_are = off.0;
    }
  where
    not_passed : (b : Bool) → (b ≡ true → ⊥) → b ≡ false
    not_passed true f = absurd (f refl)
    not_passed false f = refl

pub IsKeptBelow-all : (inputs : ℕ) (need : Assignments) (cubes done : List Product) (before : Assignments) (tails : List Assignments) (place : ℕ)
    → IsKeptBelow inputs need cubes done before tails place → place ≡ length cubes → done ≡ irredundant_part inputs need [] cubes
IsKeptBelow-all inputs need cubes done before tails place h end =
    sym (h.whole ∙ ap (λ cs. done ++ irredundant_part inputs need done cs) (drop-whole cubes place end) ∙ append-nil done)
