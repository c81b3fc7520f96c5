-- Blocks that are tested one after the other; a report verifies or has one refusal.
use Rattle.std.proofs.Common.{◌≡◌, ◌≢◌, ℕ, suc, ◌+◌, ◌*◌, ◌<◌, ◌≤◌, ◌⊎◌, inl, inr, List, [], ◌∷◌, ◌++◌, length, get_or, take, drop, map, refl, sym, ap, ◌∙◌, subst, arith, drop-cons, add-one, zero-add, length-append, Some, None, Bool, true, false, not}
use Rattle.std.proofs.lemmas.List.{take_more, take-append-drop, map-append, length-map, length-take, drop-map, take-map}
use Rattle.std.proofs.lemmas.List.Sums.{sum_by-append}
use Rattle.std.proofs.lemmas.Bool.{cases_order}
use Rattle.std.proofs.lemmas.Option.{slice_get_within, slice_get-map, slice_get_read, slice_get_past}
use Rattle.std.proofs.lemmas.Bool.{true≢false}
use Rattle.std.proofs.lemmas.Slice.Eq.{bytes_eq-Decides}
use Rattle.std.specs.Str.{bytes_eq}
use Rattle.std.specs.Option.{option_map}
use Rattle.std.specs.declared.option.Option.{Option}
use Rattle.pla_reader.specs.Names.{bytes_of}
use Rattle.pla_reader.specs.declared.name.Name.{Name}
use Rattle.std.proofs.Math.Seq.{take-append_seam, drop-append_seam}
use Rattle.std.specs.Prelude.{slice_get, Result, Ok, Err, OnOk, IfErr, MatchResult}
use Rattle.std.specs.Prelude.{IfSome, All}
use Rattle.std.proofs.lemmas.List.Elements.{All-head, All-drop}
use Rattle.cube_core.specs.Function.{Function}
use Rattle.lattice_grid.specs.Defects.{Defects}
use Rattle.lattice_grid.specs.Lattice.{Lattice}
use Rattle.lattice_grid.specs.Rails.{IsOverRails}
use Rattle.path_meaning.specs.Defective.{RealisesIn}
use Rattle.path_meaning.specs.Failing.{IsLeastFailureIn, FailsIn}
use Rattle.pla_reader.specs.Parts.{Parts, IsPla}
use Rattle.report_text.specs.declared.answer.Block.{Block}
use Rattle.report_text.specs.declared.answer.Version.{Version}
use Rattle.report_text.specs.declared.answer.Version.TheVariants.{One, Two}
use Rattle.report_text.specs.Form.{lattice_of}
use Rattle.report_text.specs.Report.{BlockParts, ReportParts, parts_of_block, lines_in}
use Rattle.four_lattice.specs.Verified.{Basis, basis_of, array_in, least_output, IsOf, IsRight, AreRight, first_line, line_after, IsLatticeRefused, IsBlockRefused, HasRefusedBlock, IsVerified, IsDenied}
use Rattle.four_lattice.specs.declared.verify.VerifyRefusal.{VerifyRefusal}
use Rattle.four_lattice.specs.declared.verify.VerifyRefusal.TheVariants.{Inputs, Output, Literal, Wrong, NoMemory}

-- a list that is cut at an element
pub cut_front : {X : Type 0} (xs before rest : List X) (x : X) → xs ≡ before ++ x ∷ rest → take (length before) xs ≡ before
cut_front xs before rest x e = ap (take (length before)) e ∙ take-append_seam before (x ∷ rest)

pub cut_rest : {X : Type 0} (xs before rest : List X) (x : X) → xs ≡ before ++ x ∷ rest → drop (length before) xs ≡ x ∷ rest
cut_rest xs before rest x e = ap (drop (length before)) e ∙ drop-append_seam before (x ∷ rest)

head_of : {X : Type 0} (x y : X) (xs ys : List X) → x ∷ xs ≡ y ∷ ys → x ≡ y
head_of x y xs ys e = ap (λ l. get_or l 0 x) e

pub least_output-push : (before : List BlockParts) (block : BlockParts) → least_output (before ++ block ∷ []) ≡ suc block.output
least_output-push [] block = refl
least_output-push (first ∷ []) block = refl
least_output-push (first ∷ next ∷ before) block = least_output-push (next ∷ before) block

line_after-push : (version : Version) (before : List BlockParts) (block : BlockParts) → line_after version (before ++ block ∷ []) ≡ line_after version before + lines_in version block
line_after-push version before block =
    let sums = sum_by-append (λ b. lines_in version b) before (block ∷ []) in
    omega (arith, sums)

below_or_last : (m k : ℕ) → m < suc k → (m < k) ⊎ (m ≡ k)
below_or_last m k few = elim (cases_order m k) [ inl e ↦ inr e | inr h ↦ elim h [ inl less ↦ inl less | inr more ↦ absurd (omega (arith, few, more)) ] ]

AreRight-none : (basis : Basis) (blocks : List BlockParts) → AreRight basis blocks 0
AreRight-none basis blocks before block rest whole few = absurd (omega (arith, few))

AreRight-more : (basis : Basis) (blocks : List BlockParts) (k : ℕ) (block : BlockParts) (later : List BlockParts) → AreRight basis blocks k → drop k blocks ≡ block ∷ later
    → IsRight basis (least_output (take k blocks)) block → AreRight basis blocks (suc k)
AreRight-more basis blocks k block later right here now before other rest whole few = elim (below_or_last (length before) k few) [
  | inl less ↦ right before other rest whole less
  | inr n_is ↦
      let front : take k blocks ≡ before = ap (λ m. take m blocks) (sym n_is) ∙ cut_front blocks before rest other whole in
      let there : drop k blocks ≡ other ∷ rest = ap (λ m. drop m blocks) (sym n_is) ∙ cut_rest blocks before rest other whole in
      let is : block ≡ other = head_of block other later rest (sym here ∙ there) in
      subst (λ b. IsRight basis (least_output before) b) is (subst (λ bs. IsRight basis (least_output bs) block) front now)
]

first_few : (version : Version) → first_line version ≤ 4
first_few One = omega arith
first_few Two = omega arith

-- The first k blocks are tested; the next output is at least this one, and the next block begins on this line.
pub record IsTested (basis : Basis) (blocks : List Block) (k least line : ℕ) : Type 0 where
  pub right : AreRight basis (map parts_of_block blocks) k
  pub least_is : least ≡ least_output (take k (map parts_of_block blocks))
  pub line_is : line ≡ line_after basis.version (take k (map parts_of_block blocks))
  pub few : k ≤ least
  pub low : least ≤ 64
  pub lines : line ≤ least * 1048578 + 4

pub IsTested-none : (basis : Basis) (blocks : List Block) → IsTested basis blocks 0 0 (first_line basis.version)
IsTested-none basis blocks = let early = first_few basis.version in record {
  right = AreRight-none basis (map parts_of_block blocks);
  least_is = refl;
  line_is = sym (zero-add (first_line basis.version));
  few = omega arith;
  low = omega arith;
  lines = omega (arith, early);
}

-- the block at a place, in the list without where it lies
parts_at : (blocks : List Block) (k : ℕ) (block : Block) → k < length blocks → block ≡ get_or blocks k block
    → drop k (map parts_of_block blocks) ≡ parts_of_block block ∷ map parts_of_block (drop (suc k) blocks)
parts_at blocks k block within is =
    drop-map parts_of_block k blocks ∙ ap (map parts_of_block) (drop-cons blocks k block within) ∙ ap (λ b. parts_of_block b ∷ map parts_of_block (drop (suc k) blocks)) (sym is)

-- what each block may say
pub block_at : (P : BlockParts → Type 0) (blocks : List Block) (k : ℕ) (block : Block) → k < length blocks → block ≡ get_or blocks k block → All P (map parts_of_block blocks)
    → P (parts_of_block block)
block_at P blocks k block within is all =
    All-head P (parts_of_block block) (map parts_of_block (drop (suc k) blocks)) (subst (All P) (parts_at blocks k block within is) (All-drop P k (map parts_of_block blocks) all))

front_at : (blocks : List Block) (k : ℕ) (block : Block) → k < length blocks → block ≡ get_or blocks k block
    → take (k + 1) (map parts_of_block blocks) ≡ take k (map parts_of_block blocks) ++ parts_of_block block ∷ []
front_at blocks k block within is =
    take-map parts_of_block (k + 1) blocks ∙ ap (map parts_of_block) (take_more blocks k block within) ∙ map-append parts_of_block (take k blocks) (get_or blocks k block ∷ [])
    ∙ ap (λ b. map parts_of_block (take k blocks) ++ parts_of_block b ∷ []) (sym is)
    ∙ ap (λ bs. bs ++ parts_of_block block ∷ []) (sym (take-map parts_of_block k blocks))

pub output_low : (basis : Basis) (least : ℕ) (block : BlockParts) → IsPla basis.parts → IsRight basis least block → block.output < 64
output_low basis least block pla right =
    let within = slice_get_within basis.parts.functions block.output right.function right.of_output.function in
    let many = pla.functions in
    let few = pla.few_outputs in
    omega (arith, within, many, few)

pub IsTested-more : (basis : Basis) (blocks : List Block) (k least line lines : ℕ) (block : Block) → k < length blocks → block ≡ get_or blocks k block → IsPla basis.parts
    → IsTested basis blocks k least line → IsRight basis least (parts_of_block block) → lines ≡ lines_in basis.version (parts_of_block block) → lines ≤ 1048578
    → IsTested basis blocks (k + 1) (block.output + 1) (line + lines)
IsTested-more basis blocks k least line lines block within is pla h right lines_are short =
    let all = map parts_of_block blocks in
    let front = front_at blocks k block within is in
    let later = right.of_output.later in
    let low = output_low basis least (parts_of_block block) pla right in
    let few = h.few in
    let at = h.line_is in
    let bound = h.lines in
    let push = line_after-push basis.version (take k all) (parts_of_block block) in
    record {
      right = subst (AreRight basis all) (sym (add-one k)) (AreRight-more basis all k (parts_of_block block) (map parts_of_block (drop (suc k) blocks)) h.right (parts_at blocks k block within is)
          (subst (λ n. IsRight basis n (parts_of_block block)) h.least_is right));
      least_is = sym (ap least_output front ∙ least_output-push (take k all) (parts_of_block block) ∙ sym (add-one block.output));
      line_is = sym (ap (line_after basis.version) front ∙ push ∙ sym (ap (λ n. n + lines) at ∙ ap (λ n. line_after basis.version (take k all) + n) lines_are));
      few = omega (arith, later, few);
      low = omega (arith, low);
      lines = omega (arith, later, bound, short);
    }

pub refused_at : (basis : Basis) (blocks : List Block) (k least line : ℕ) (block : Block) (refusal : VerifyRefusal) → k < length blocks → block ≡ get_or blocks k block
    → IsTested basis blocks k least line → IsBlockRefused basis least line (parts_of_block block) refusal → HasRefusedBlock basis (map parts_of_block blocks) refusal
refused_at basis blocks k least line block refusal within is h refused =
    let all = map parts_of_block blocks in
    let long : length (take k all) ≡ k = let a = length-take k all in let b = length-map blocks parts_of_block in omega (arith, a, b, within) in
    record {
      before = take k all;
      block = parts_of_block block;
      rest = map parts_of_block (drop (suc k) blocks);
      whole = sym (take-append-drop k all) ∙ ap (λ bs. take k all ++ bs) (parts_at blocks k block within is);
      earlier = subst (AreRight basis all) (sym long) h.right;
      refused = subst (λ n. IsBlockRefused basis n (line_after basis.version (take k all)) (parts_of_block block) refusal) h.least_is
          (subst (λ n. IsBlockRefused basis least n (parts_of_block block) refusal) h.line_is refused);
    }

-- why a lattice is not right, as why its block is not
pub lattice_refused : (basis : Basis) (least line : ℕ) (block : BlockParts) (f : Function) → IsOf basis.parts least block f
    → (refusal : VerifyRefusal) → IsLatticeRefused basis.parts.inputs basis.rails line block.answer f refusal → IsBlockRefused basis least line block refusal
lattice_refused basis least line block f of_output (Inputs at) h = h
lattice_refused basis least line block f of_output (Output at) h = absurd h
lattice_refused basis least line block f of_output (Literal at) h = (h.0, h.1, f, record { lattice = h.2; of_output = of_output }, h.3)
lattice_refused basis least line block f of_output (Wrong at x) h = (h.0, h.1, f, record { lattice = h.2; of_output = of_output }, h.3, h.4)
lattice_refused basis least line block f of_output NoMemory h = h

-- what two facts of an Ok give, and what a fact of an Err gives
pub on_ok_both : {T E P Q R : Type 0} (r : Result T E) → (P → Q → R) → OnOk r P → OnOk r Q → OnOk r R
on_ok_both (Ok x) f p q = f p q
on_ok_both (Err e) f p q = tt

pub if_err_more : {T E : Type 0} {P Q : E → Type 0} (r : Result T E) → ((e : E) → P e → Q e) → IfErr r P → IfErr r Q
if_err_more (Ok x) f p = tt
if_err_more (Err e) f p = f e p

-- the function of a block is one alone
one_function : (basis : Basis) (least : ℕ) (block : BlockParts) (f g : Function) → IsOf basis.parts least block f → IsOf basis.parts least block g → f ≡ g
one_function basis least block f g a b =
    let p = a.function in
    let q = b.function in
    cc

no_failure : (g : Lattice) (array : Option Defects) (f : Function) (x : ℕ) → RealisesIn g f array → FailsIn g array f x → ⊥
no_failure g array f x r fails = elim fails [ inl h ↦ h.1 (r.on x h.0) | inr h ↦ r.off x h.0 h.1 ]

-- what is said of the lattice of a block
of_lattice : (o : Option Lattice) (g : Lattice) (P : Lattice → Type 0) → o ≡ Some g → IfSome o P → P g
of_lattice o g P e h = subst (λ z. IfSome z P) e h

one_lattice : (o : Option Lattice) (g h : Lattice) → o ≡ Some g → o ≡ Some h → g ≡ h
one_lattice o g h p q = cc

-- a block is not both right and refused
not_both : (basis : Basis) (least line : ℕ) (block : BlockParts) (refusal : VerifyRefusal) → IsRight basis least block → IsBlockRefused basis least line block refusal → ⊥
not_both basis least line block (Inputs at) right refused = refused
not_both basis least line block (Output at) right refused = refused.1 right.function right.of_output
not_both basis least line block (Literal at) right refused =
    refused.4 (of_lattice (lattice_of block.answer) refused.1 (IsOverRails basis.parts.inputs basis.rails) refused.3.lattice right.over)
not_both basis least line block (Wrong at x) right refused =
    let same = one_function basis least block right.function refused.2 right.of_output refused.3.of_output in
    no_failure refused.1 (array_in block.answer) refused.2 x
    (subst (λ f. RealisesIn refused.1 f (array_in block.answer)) same
    (of_lattice (lattice_of block.answer) refused.1 (λ g. RealisesIn g right.function (array_in block.answer)) refused.3.lattice right.realises)) refused.5.fails
not_both basis least line block NoMemory right refused = refused

one_least : (g : Lattice) (array : Option Defects) (f : Function) (x y : ℕ) → IsLeastFailureIn g array f x → IsLeastFailureIn g array f y → x ≡ y
one_least g array f x y a b = elim (cases_order x y) [
  | inl same ↦ same
  | inr other ↦ elim other [ inl less ↦ absurd (b.least x less a.fails) | inr more ↦ absurd (a.least y more b.fails) ]
]

-- a block has one refusal
one_block_refusal : (basis : Basis) (least line : ℕ) (block : BlockParts) (a b : VerifyRefusal) → IsBlockRefused basis least line block a → IsBlockRefused basis least line block b → a ≡ b
one_block_refusal basis least line block (Inputs at) b p q = absurd p
one_block_refusal basis least line block NoMemory b p q = absurd p
one_block_refusal basis least line block (Output at) (Inputs other) p q = absurd q
one_block_refusal basis least line block (Output at) NoMemory p q = absurd q
one_block_refusal basis least line block (Output at) (Output other) p q = ap Output (p.0 ∙ sym q.0)
one_block_refusal basis least line block (Output at) (Literal other) p q = absurd (p.1 q.2 q.3.of_output)
one_block_refusal basis least line block (Output at) (Wrong other x) p q = absurd (p.1 q.2 q.3.of_output)
one_block_refusal basis least line block (Literal at) (Inputs other) p q = absurd q
one_block_refusal basis least line block (Literal at) NoMemory p q = absurd q
one_block_refusal basis least line block (Literal at) (Output other) p q = absurd (q.1 p.2 p.3.of_output)
one_block_refusal basis least line block (Literal at) (Literal other) p q = ap Literal (p.0 ∙ sym q.0)
one_block_refusal basis least line block (Literal at) (Wrong other x) p q =
    let same = one_lattice (lattice_of block.answer) q.1 p.1 q.3.lattice p.3.lattice in
    absurd (p.4 (subst (IsOverRails basis.parts.inputs basis.rails) same q.4))
one_block_refusal basis least line block (Wrong at x) (Inputs other) p q = absurd q
one_block_refusal basis least line block (Wrong at x) NoMemory p q = absurd q
one_block_refusal basis least line block (Wrong at x) (Output other) p q = absurd (q.1 p.2 p.3.of_output)
one_block_refusal basis least line block (Wrong at x) (Literal other) p q =
    let same = one_lattice (lattice_of block.answer) p.1 q.1 p.3.lattice q.3.lattice in
    absurd (q.4 (subst (IsOverRails basis.parts.inputs basis.rails) same p.4))
one_block_refusal basis least line block (Wrong at x) (Wrong other y) p q =
    let same = one_function basis least block q.2 p.2 q.3.of_output p.3.of_output in
    let lattice = one_lattice (lattice_of block.answer) q.1 p.1 q.3.lattice p.3.lattice in
    let assign = one_least p.1 (array_in block.answer) p.2 x y p.5
    (subst (λ g. IsLeastFailureIn g (array_in block.answer) p.2 y) lattice (subst (λ f. IsLeastFailureIn q.1 (array_in block.answer) f y) same q.5)) in
    ap (λ l. Wrong l x) (p.0 ∙ sym q.0) ∙ ap (Wrong other) assign

-- the first refused block is one alone
one_refused_block : (basis : Basis) (blocks : List BlockParts) (a b : VerifyRefusal) → HasRefusedBlock basis blocks a → HasRefusedBlock basis blocks b → a ≡ b
one_refused_block basis blocks a b p q = elim (cases_order (length p.before) (length q.before)) [
  | inl same ↦
      let fronts : p.before ≡ q.before = sym (cut_front blocks p.before p.rest p.block p.whole) ∙ ap (λ n. take n blocks) same ∙ cut_front blocks q.before q.rest q.block q.whole in
      let tails : p.block ∷ p.rest ≡ q.block ∷ q.rest = sym (cut_rest blocks p.before p.rest p.block p.whole) ∙ ap (λ n. drop n blocks) same ∙ cut_rest blocks q.before q.rest q.block q.whole in
      let is = head_of p.block q.block p.rest q.rest tails in
      one_block_refusal basis (least_output q.before) (line_after basis.version q.before) q.block a b
      (subst (λ l. IsBlockRefused basis (least_output l) (line_after basis.version l) q.block a) fronts (subst (λ l. IsBlockRefused basis (least_output p.before) (line_after basis.version p.before) l a) is p.refused)) q.refused
  | inr other ↦ elim other [
    | inl less ↦ absurd (not_both basis (least_output p.before) (line_after basis.version p.before) p.block a (q.earlier p.before p.block p.rest p.whole less) p.refused)
    | inr more ↦ absurd (not_both basis (least_output q.before) (line_after basis.version q.before) q.block b (p.earlier q.before q.block q.rest q.whole more) q.refused)
  ]
]

-- the place of an element is within the list
within_whole : {X : Type 0} (xs before rest : List X) (x : X) → xs ≡ before ++ x ∷ rest → length before < length xs
within_whole xs before rest x e =
    let whole = ap length e in
    let sum = length-append before (x ∷ rest) in
    omega (arith, whole, sum)

-- a report has one refusal
pub one_denial : (parts : Parts) (report : ReportParts) (a b : VerifyRefusal) → IsDenied parts report a → IsDenied parts report b → a ≡ b
one_denial parts report a b p q = elim p [
  | inl h ↦ elim q [ inl k ↦ h.1 ∙ sym k.1 | inr k ↦ absurd (h.0 k.0) ]
  | inr h ↦ elim q [ inl k ↦ absurd (k.0 h.0) | inr k ↦ one_refused_block (basis_of parts report) report.blocks a b h.1 k.1 ]
]

-- a report that verifies has no refusal
pub no_denial : (parts : Parts) (report : ReportParts) (refusal : VerifyRefusal) → IsVerified parts report → IsDenied parts report refusal → ⊥
no_denial parts report refusal v d = elim d [
  | inl h ↦ h.0 v.names
  | inr h ↦
      let block = h.1 in
      not_both (basis_of parts report) (least_output block.before) (line_after report.version block.before) block.block refusal
      (v.blocks block.before block.block block.rest block.whole (within_whole report.blocks block.before block.rest block.block block.whole)) block.refused
]

-- the name at a place, where the list is seen by its bytes
name_at : (names keys : List Name) (k : ℕ) (name : Name) → names ≡ keys → k < length names → name ≡ get_or names k name → slice_get (map bytes_of keys) k ≡ Some (bytes_of name)
name_at names keys k name same within is =
    slice_get-map bytes_of keys k ∙ ap (option_map bytes_of) (ap (λ l. slice_get l k) (sym same) ∙ slice_get_read names (length names) k name refl within is)

one_some : (o : Option (List ℕ)) (a b : List ℕ) → o ≡ Some a → o ≡ Some b → a ≡ b
one_some o a b p q = cc

no_some : (o : Option (List ℕ)) (a : List ℕ) → o ≡ Some a → o ≡ None → ⊥
no_some o a p q = cc

pub same_name : (names keys : List Name) (k : ℕ) (name : Name) (a b wanted : List ℕ) → names ≡ keys → k < length names → name ≡ get_or names k name → a ≡ bytes_of name → b ≡ wanted
    → true ≡ bytes_eq a b → slice_get (map bytes_of keys) k ≡ Some wanted
same_name names keys k name a b wanted same within is a_is b_is equal =
    name_at names keys k name same within is ∙ ap Some (sym a_is ∙ (bytes_eq-Decides a b).0 (sym equal) ∙ b_is)

pub other_name : (names keys : List Name) (k : ℕ) (name : Name) (a b wanted : List ℕ) → names ≡ keys → k < length names → name ≡ get_or names k name → a ≡ bytes_of name → b ≡ wanted
    → false ≡ bytes_eq a b → slice_get (map bytes_of keys) k ≡ Some wanted → ⊥
other_name names keys k name a b wanted same within is a_is b_is different wants =
    let e : bytes_of name ≡ wanted = one_some _ _ _ (name_at names keys k name same within is) wants in
    let yes : bytes_eq a b ≡ true = (bytes_eq-Decides a b).1 (a_is ∙ e ∙ sym b_is) in
    true≢false (sym yes ∙ sym different)

pub past_names : (names keys : List Name) (k : ℕ) (wanted : List ℕ) → names ≡ keys → length names ≤ k → slice_get (map bytes_of keys) k ≡ Some wanted → ⊥
past_names names keys k wanted same past wants =
    no_some _ wanted wants (slice_get-map bytes_of keys k ∙ ap (option_map bytes_of) (ap (λ l. slice_get l k) (sym same) ∙ slice_get_past names k past))

-- names that are equal up to a place, and there
names_to : (names : List Name) (k : ℕ) (name : Name) → k < length names → name ≡ get_or names k name → map bytes_of (take (k + 1) names) ≡ map bytes_of (take k names) ++ bytes_of name ∷ []
names_to names k name within is =
    ap (map bytes_of) (take_more names k name within) ∙ map-append bytes_of (take k names) (get_or names k name ∷ []) ∙ ap (λ n. map bytes_of (take k names) ++ bytes_of n ∷ []) (sym is)

pub names_more : (names others : List Name) (k : ℕ) (name other : Name) → k < length names → k < length others → name ≡ get_or names k name → other ≡ get_or others k other
    → bytes_of name ≡ bytes_of other → map bytes_of (take k names) ≡ map bytes_of (take k others) → map bytes_of (take (k + 1) names) ≡ map bytes_of (take (k + 1) others)
names_more names others k name other within there is are same before =
    names_to names k name within is ∙ ap (λ l. l ++ bytes_of name ∷ []) before ∙ ap (λ b. map bytes_of (take k others) ++ b ∷ []) same ∙ sym (names_to others k other there are)

pub names_differ : (names others : List Name) (k : ℕ) (name other : Name) → k < length names → k < length others → name ≡ get_or names k name → other ≡ get_or others k other
    → map bytes_of names ≡ map bytes_of others → bytes_of name ≡ bytes_of other
names_differ names others k name other within there is are same =
    one_some _ _ _ (name_at names names k name refl within is) (ap (λ l. slice_get l k) same ∙ name_at others others k other refl there are)

-- whether a refusal is want of memory
is_memory : (refusal : VerifyRefusal) → (refusal ≡ NoMemory) ⊎ (refusal ≢ NoMemory)
is_memory (Inputs line) = inr (λ e. cc)
is_memory (Output line) = inr (λ e. cc)
is_memory (Literal line) = inr (λ e. cc)
is_memory (Wrong line assign) = inr (λ e. cc)
is_memory NoMemory = inl refl

pub only_denial : (result : Result ℕ VerifyRefusal) (parts : Parts) (report : ReportParts) → OnOk result (IsVerified parts report) → IfErr result (λ refusal. refusal ≢ NoMemory → IsDenied parts report refusal)
    → (refusal : VerifyRefusal) → IsDenied parts report refusal → MatchResult result (λ _. ⊥) (λ other. (other ≡ refusal) ⊎ (other ≡ NoMemory))
only_denial (Ok many) parts report verified refused refusal denied = no_denial parts report refusal verified denied
only_denial (Err other) parts report verified refused refusal denied = elim (is_memory other) [
  | inl memory ↦ inr memory
  | inr fault ↦ inl (one_denial parts report other refusal (refused fault) denied)
]

-- the blocks of a report, seen without where they lie
pub AreRight-all : (basis : Basis) (blocks items : List Block) → blocks ≡ items → AreRight basis (map parts_of_block blocks) (length blocks) → AreRight basis (map parts_of_block items) (length (map parts_of_block items))
AreRight-all basis blocks items same right =
    subst (AreRight basis (map parts_of_block items)) (sym (length-map items parts_of_block)) (subst (λ bs. AreRight basis (map parts_of_block bs) (length bs)) same right)

not_false : (x : Bool) → not x ≡ false → x ≡ true
not_false true e = refl
not_false false e = sym e

-- bytes that are compared
pub same_bytes : (a b : List ℕ) (ne : Bool) → ne ≡ not (bytes_eq a b) → ne ≡ false → a ≡ b
same_bytes a b ne e is = (bytes_eq-Decides a b).0 (not_false (bytes_eq a b) (sym e ∙ is))

pub other_bytes : (a b : List ℕ) (ne : Bool) → ne ≡ not (bytes_eq a b) → ne ≡ true → a ≡ b → ⊥
other_bytes a b ne e is same = let yes = (bytes_eq-Decides a b).1 same in true≢false (sym is ∙ e ∙ ap not yes)
