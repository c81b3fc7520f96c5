-- A report that is printed verifies: each of its lattices realises its output.
use Rattle.std.proofs.Common.{◌≡◌, ℕ, suc, zero, ◌+◌, ◌<◌, ◌≤◌, List, [], ◌∷◌, ◌++◌, length, get_or, take, drop, refl, sym, ap, ◌∙◌, subst, arith, length-append, add-zero, zero-add, Some, None}
use Rattle.std.specs.Prelude.{All, slice_get}
use Rattle.std.specs.declared.option.Option.{Option}
use Rattle.std.proofs.lemmas.Option.{slice_get_within, slice_get-get_or}
use Rattle.cube_core.specs.Function.{Function, IsFunction}
use Rattle.lattice_grid.specs.Lattice.{IsOver}
use Rattle.lattice_grid.specs.Realise.{Realises}
use Rattle.lattice_grid.specs.Pairs.{pairs_of}
use Rattle.lattice_grid.specs.Lattice.{Lattice}
use Rattle.lattice_grid.proofs.Tools.{all_bits, over_full, pairs_of-Realises, IsOver-read}
use Rattle.dual_product.proofs.Tools.{dual_of-Realises, dual_of-IsOver}
use Rattle.pla_reader.specs.Parts.{Parts, IsPla}
use Rattle.report_text.specs.declared.answer.Answer.TheVariants.{Found}
use Rattle.std.specs.Prelude.{IfSome}
use Rattle.lattice_grid.specs.Rails.{IsOverRails}
use Rattle.path_meaning.specs.Defective.{RealisesIn}
use Rattle.path_meaning.proofs.Tools.{realising_plainly}
use Rattle.report_text.specs.declared.answer.Version.TheVariants.{Two}
use Rattle.report_text.specs.Form.{lattice_of}
use Rattle.report_text.specs.Report.{BlockParts}
use Rattle.four_lattice.specs.Lattices.{made_by, blocks_by, report_by}
use Rattle.four_lattice.specs.Verified.{Basis, array_in, least_output, IsRight, AreRight, IsVerified}
use Rattle.four_lattice.specs.declared.lattices.Construction.{Construction}
use Rattle.four_lattice.specs.declared.lattices.Construction.TheVariants.{Pairs, Dual}
use Rattle.four_lattice.proofs.VerifiedLaws.{cut_front, cut_rest, least_output-push}

-- what a construction makes is over the inputs and realises the function
made_by-IsOver : (how : Construction) (f : Function) → IsFunction f → IsOver f.inputs (made_by how f)
made_by-IsOver Pairs f h = IsOver-read f h (pairs_of f) refl
made_by-IsOver Dual f h = dual_of-IsOver f h

made_by-Realises : (how : Construction) (f : Function) → IsFunction f → Realises (made_by how f) f
made_by-Realises Pairs f h = pairs_of-Realises f h
made_by-Realises Dual f h = dual_of-Realises f h

-- The block at a place is that of the name and the function there.
record IsMade (how : Construction) (first : ℕ) (names : List (List ℕ)) (functions : List Function) (k : ℕ) (block : BlockParts) : Type 0 where
  function : Function
  output : block.output ≡ first + k
  name : slice_get names k ≡ Some block.name
  function_is : slice_get functions k ≡ Some function
  answer : block.answer ≡ Found (made_by how function)

head_is : (a b : BlockParts) (later rest : List BlockParts) → a ∷ later ≡ b ∷ rest → a ≡ b
head_is a b later rest e = ap (λ l. get_or l 0 a) e

no_cons : (a : BlockParts) (later : List BlockParts) → [] ≡ a ∷ later → ⊥
no_cons a later e = let n = ap length e in omega (arith, n)

block_made : (how : Construction) (first : ℕ) (names : List (List ℕ)) (functions : List Function) (k : ℕ) (block : BlockParts) (rest : List BlockParts)
    → drop k (blocks_by how first names functions) ≡ block ∷ rest → IsMade how first names functions k block
block_made how first [] functions zero block rest e = absurd (no_cons block rest e)
block_made how first [] functions (suc k) block rest e = absurd (no_cons block rest e)
block_made how first (name ∷ names) [] zero block rest e = absurd (no_cons block rest e)
block_made how first (name ∷ names) [] (suc k) block rest e = absurd (no_cons block rest e)
block_made how first (name ∷ names) (f ∷ functions) zero block rest e =
    let is = head_is (record { output = first; name = name; answer = Found (made_by how f); proofs = [] }) block (blocks_by how (suc first) names functions) rest e in
    record {
      function = f;
      output = sym (ap (λ b. b.output) is) ∙ sym (add-zero first);
      name = ap (λ b. Some b.name) is;
      function_is = refl;
      answer = sym (ap (λ b. b.answer) is);
    }
block_made how first (name ∷ names) (f ∷ functions) (suc k) block rest e =
    let h = block_made how (suc first) names functions k block rest e in
    let output = h.output in
    record { function = h.function; output = omega (arith, output); name = h.name; function_is = h.function_is; answer = h.answer }

some_is : (f g : Function) → Some f ≡ Some g → f ≡ g
some_is f g e = cc

all_at : (P : Function → Type 0) (fs : List Function) (k : ℕ) (f : Function) → All P fs → slice_get fs k ≡ Some f → P f
all_at P fs k f all e =
    let within = slice_get_within fs k f e in
    let same : Some (get_or fs k f) ≡ Some f = sym (slice_get-get_or fs k f within) ∙ e in
    subst P (some_is (get_or fs k f) f same) (all k f within)

-- over the inputs, and so over all literals
over_all : (n : ℕ) (g : Lattice) → n ≤ 10 → IsOver n g → IsOverRails n 1048575 g
over_all n g few h = (over_full n 1048575 g (λ i within. all_bits i (omega (arith, few, within)))).0 h

-- a PLA, and a text of version 2 with all literals allowed
abbrev with_all : Parts → Basis
with_all parts = record { parts = parts; version = Two; rails = 1048575 }

-- a block that is made of the PLA's names and functions is right where it may stand
made_right : (how : Construction) (parts : Parts) (k least : ℕ) (block : BlockParts) → IsPla parts → IsMade how 0 parts.output_names parts.functions k block → least ≤ k → IsRight (with_all parts) least block
made_right how parts k least block pla h low =
    let f = h.function in
    let place : block.output ≡ k = h.output ∙ zero-add k in
    let kept = all_at IsFunction parts.functions k f pla.kept h.function_is in
    let inputs = all_at (λ g. g.inputs ≡ parts.inputs) parts.functions k f pla.each h.function_is in
    record {
      function = f;
      of_output = record {
        later = subst (λ n. least ≤ n) (sym place) low;
        name = ap (slice_get parts.output_names) place ∙ h.name;
        function = ap (slice_get parts.functions) place ∙ h.function_is;
      };
      over = subst (λ a. IfSome (lattice_of a) (IsOverRails parts.inputs 1048575)) (sym h.answer)
          (subst (λ n. IsOverRails n 1048575 (made_by how f)) inputs (over_all f.inputs (made_by how f) kept.few (made_by-IsOver how f kept)));
      realises = subst (λ a. IfSome (lattice_of a) (λ g. RealisesIn g f (array_in a))) (sym h.answer) ((realising_plainly (made_by how f) f).1 (made_by-Realises how f kept));
    }

-- the block at a place, and the blocks before it
record Cut (bs : List BlockParts) (k : ℕ) : Type 0 where
  block : BlockParts
  there : drop k bs ≡ block ∷ drop (suc k) bs
  front : take (suc k) bs ≡ take k bs ++ block ∷ []

cut_at : (bs : List BlockParts) (k : ℕ) → k < length bs → Cut bs k
cut_at [] k h = absurd (omega (arith, h))
cut_at (b ∷ bs) zero h = record { block = b; there = refl; front = refl }
cut_at (b ∷ bs) (suc k) h =
    let c = cut_at bs k (omega (arith, h)) in
    record { block = c.block; there = c.there; front = ap (λ l. b ∷ l) c.front }

-- before place k of all blocks, the least output that may follow is at most k
least_before : (how : Construction) (names : List (List ℕ)) (functions : List Function) (k : ℕ) → k ≤ length (blocks_by how 0 names functions)
    → least_output (take k (blocks_by how 0 names functions)) ≤ k
least_before how names functions zero few = omega arith
least_before how names functions (suc k) few =
    let all = blocks_by how 0 names functions in
    let c = cut_at all k (omega (arith, few)) in
    let made = block_made how 0 names functions k c.block (drop (suc k) all) c.there in
    let output = made.output in
    let least = ap least_output c.front ∙ least_output-push (take k all) c.block in
    omega (arith, output, least)

-- all blocks
all_right : (how : Construction) (parts : Parts) → IsPla parts
    → AreRight (with_all parts) (blocks_by how 0 parts.output_names parts.functions) (length (blocks_by how 0 parts.output_names parts.functions))
all_right how parts pla before block rest whole few =
    let all = blocks_by how 0 parts.output_names parts.functions in
    let made = block_made how 0 parts.output_names parts.functions (length before) block rest (cut_rest all before rest block whole) in
    let low = least_before how parts.output_names parts.functions (length before) (omega (arith, few)) in
    made_right how parts (length before) (least_output before) block pla made (subst (λ bs. least_output bs ≤ length before) (cut_front all before rest block whole) low)

-- a list of at most one block
one_at : (xs before rest : List BlockParts) (block : BlockParts) → take 1 xs ≡ before ++ block ∷ rest → (before ≡ []) × (more : List BlockParts) × (xs ≡ block ∷ more)
one_at [] [] rest block e = absurd (no_cons block rest e)
one_at [] (b ∷ before) rest block e = absurd (no_cons b (before ++ block ∷ rest) e)
one_at (x ∷ xs) [] rest block e = (refl, xs, ap (λ b. b ∷ xs) (head_is x block [] rest e))
one_at (x ∷ xs) (b ∷ before) rest block e =
    let long = ap length e in
    let sum = length-append before (block ∷ rest) in
    absurd (omega (arith, long, sum))

one_right : (how : Construction) (k : ℕ) (parts : Parts) → IsPla parts → (many : ℕ) → AreRight (with_all parts) (take 1 (drop k (blocks_by how 0 parts.output_names parts.functions))) many
one_right how k parts pla many before block rest whole few =
    let all = blocks_by how 0 parts.output_names parts.functions in
    let one = one_at (drop k all) before rest block whole in
    let made = block_made how 0 parts.output_names parts.functions k block one.1 one.2 in
    made_right how parts k (least_output before) block pla made (subst (λ bs. least_output bs ≤ k) (sym one.0) (omega arith))

-- the report of the lattices of the chosen outputs verifies
pub printed : (how : Construction) (output : Option ℕ) (parts : Parts) → IsPla parts → IsVerified parts (report_by how output parts)
printed how None parts pla = record { names = refl; blocks = all_right how parts pla }
printed how (Some k) parts pla =
    record { names = refl; blocks = one_right how k parts pla (length (take 1 (drop k (blocks_by how 0 parts.output_names parts.functions)))) }
