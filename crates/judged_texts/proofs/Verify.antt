-- A report verifies, or is denied.
use Rattle.std.proofs.Common.{◌≡◌, ◌⊎◌, ℕ, suc, ◌<◌, inl, inr, List, [], ◌∷◌, ◌++◌, length, length-append, get_or, take, drop, refl, sym, ap, ◌∙◌, subst, arith, Some, None, append_assoc, append-nil, slice_get}
use Rattle.std.proofs.lemmas.Bool.{cases_order}
use Rattle.std.proofs.lemmas.List.Elements.{All-head, All-tail}
use Rattle.std.specs.Prelude.{IfSome, All}
use Rattle.std.specs.declared.option.Option.{Option}
use Rattle.cube_core.specs.Function.{Function}
use Rattle.cube_core.proofs.Tools.{below_or_above}
use Rattle.lattice_grid.specs.Control.{NamesBelow}
use Rattle.lattice_grid.specs.declared.control.Control.{Control}
use Rattle.lattice_grid.specs.declared.control.Control.TheVariants.{Zero, One, Plain, Bar}
use Rattle.lattice_grid.specs.Lattice.{Lattice, IsLattice}
use Rattle.lattice_grid.specs.Rails.{IsOverRails, MayStand, is_allowed}
use Rattle.path_meaning.specs.Defective.{RealisesIn}
use Rattle.pla_reader.specs.Parts.{Parts}
use Rattle.report_text.specs.Bounds.{IsAnswer, IsReport}
use Rattle.report_text.specs.Form.{lattice_of}
use Rattle.report_text.specs.Report.{BlockParts, ReportParts}
use Rattle.report_text.specs.declared.answer.Answer.{Answer}
use Rattle.report_text.specs.declared.answer.Answer.TheVariants.{Found, Minimum, Undecided, Mapped, NoneMapped, MapUndecided, NoRails}
use Rattle.four_lattice.proofs.Tools.{cut_front, cut_rest}
use Rattle.four_lattice.specs.Verified.{Basis, basis_of, array_in, least_output, IsOf, IsRight, AreRight, line_after, IsBlockRefused, HasRefusedBlock, IsVerified, IsDenied}
use Rattle.four_lattice.specs.declared.verify.VerifyRefusal.{VerifyRefusal}
use Rattle.four_lattice.specs.declared.verify.VerifyRefusal.TheVariants.{Inputs, Output, Literal, Wrong}
use Rattle.judged_texts.proofs.Decided.{IsDecided, both_or_not, true_or_not, less_or_not, same_or_not, lists_or_not, given_or_not, some_or_none, all_or_not}
use Rattle.judged_texts.proofs.Failing.{IsBelow, HasFunctions, below_at, Fits, realised_or_not}

-- a lattice on an array has the array's size
pub array_fits : (answer : Answer) (g : Lattice) → IsAnswer answer → lattice_of answer ≡ Some g → Fits g (array_in answer)
array_fits (Found h) g is e = tt
array_fits (Minimum h) g is e = tt
array_fits (Undecided h least at after) g is e = tt
array_fits (Mapped h a) g is e = let same : h ≡ g = cc in sym is.2 ∙ ap (λ (l : Lattice). l.size) same
array_fits (NoneMapped a) g is e = tt
array_fits (MapUndecided a after) g is e = tt
array_fits (NoRails on off) g is e = tt

-- a block is right or refused
abbrev IsBlockTold : Basis → ℕ → ℕ → BlockParts → Type 0
IsBlockTold basis least line block = IsRight basis least block ⊎ ((r : VerifyRefusal) × IsBlockRefused basis least line block r)

-- an answer's lattice is one
pub lattice_kept : (answer : Answer) (g : Lattice) → IsAnswer answer → lattice_of answer ≡ Some g → IsLattice g
lattice_kept (Found h) g is e = let same : h ≡ g = cc in subst IsLattice same is
lattice_kept (Minimum h) g is e = let same : h ≡ g = cc in subst IsLattice same is
lattice_kept (Undecided h least at after) g is e = let same : h ≡ g = cc in subst IsLattice same is.0
lattice_kept (Mapped h a) g is e = let same : h ≡ g = cc in subst IsLattice same is.0
lattice_kept (NoneMapped a) g is e = cc
lattice_kept (MapUndecided a after) g is e = cc
lattice_kept (NoRails on off) g is e = cc

named_or_not : (n : ℕ) (c : Control) → IsDecided (NamesBelow n c)
named_or_not n Zero = inl tt
named_or_not n One = inl tt
named_or_not n (Plain i) = less_or_not i n
named_or_not n (Bar i) = less_or_not i n

over_or_not : (n rails : ℕ) (g : Lattice) → IsDecided (IsOverRails n rails g)
over_or_not n rails g = all_or_not (MayStand n rails) (λ c. both_or_not (named_or_not n c) (true_or_not (is_allowed rails c))) g.cells

lattice_told : (basis : Basis) (least line : ℕ) (block : BlockParts) (f : Function) (o : Option Lattice) → lattice_of block.answer ≡ o → IsOf basis.parts least block f → IsBelow f → IsAnswer block.answer
    → IsBlockTold basis least line block
lattice_told basis least line block f None e of_output below answer = inl (record {
  function = f;
  of_output = of_output;
  over = subst (λ o. IfSome o (IsOverRails basis.parts.inputs basis.rails)) (sym e) tt;
  realises = subst (λ o. IfSome o (λ g. RealisesIn g f (array_in block.answer))) (sym e) tt;
})
lattice_told basis least line block f (Some g) e of_output below answer = elim (over_or_not basis.parts.inputs basis.rails g) [
  | inr not ↦ inr (Literal line, (refl, g, f, record { lattice = e; of_output = of_output }, not))
  | inl over ↦ elim (realised_or_not g (array_in block.answer) f below (lattice_kept block.answer g answer e) (array_fits block.answer g answer e)) [
    | inr fails ↦ inr (Wrong line fails.0, (refl, g, f, record { lattice = e; of_output = of_output }, over, fails.1))
    | inl realises ↦ inl (record {
      function = f;
      of_output = of_output;
      over = subst (λ o. IfSome o (IsOverRails basis.parts.inputs basis.rails)) (sym e) over;
      realises = subst (λ o. IfSome o (λ g. RealisesIn g f (array_in block.answer))) (sym e) realises;
    })
  ]
]

gone : (o : Option Function) (f : Function) → o ≡ None → o ≡ Some f → ⊥
gone o f p q = cc

of_or_not : (parts : Parts) (least : ℕ) (block : BlockParts) → IsDecided ((f : Function) × IsOf parts least block f)
of_or_not parts least block = elim (below_or_above block.output least) [
  | inl less ↦ inr (λ h. let later = h.1.later in omega (arith, later, less))
  | inr later ↦ elim (given_or_not (slice_get parts.output_names block.output) block.name) [
    | inr not ↦ inr (λ h. not h.1.name)
    | inl name ↦ elim (some_or_none (slice_get parts.functions block.output)) [
      | inr none ↦ inr (λ h. gone (slice_get parts.functions block.output) h.0 none h.1.function)
      | inl f ↦ inl (f.0, record { later = later; name = name; function = f.1 })
    ]
  ]
]

block_told : (basis : Basis) (least line : ℕ) (block : BlockParts) → HasFunctions basis.parts → IsAnswer block.answer → IsBlockTold basis least line block
block_told basis least line block has answer = elim (of_or_not basis.parts least block) [
  | inr none ↦ inr (Output line, (refl, λ f of_output. none (f, of_output)))
  | inl some ↦ lattice_told basis least line block some.0 (lattice_of block.answer) refl some.1 (below_at basis.parts.functions block.output some.0 has.each some.1.function) answer
]

head_of : {X : Type 0} (x y : X) (xs ys : List X) → x ∷ xs ≡ y ∷ ys → x ≡ y
head_of x y xs ys e = ap (λ l. get_or l 0 x) e

below_or_last : (m k : ℕ) → m < suc k → (m < k) ⊎ (m ≡ k)
below_or_last m k few = elim (cases_order m k) [ inl e ↦ inr e | inr h ↦ elim h [ inl less ↦ inl less | inr more ↦ absurd (omega (arith, few, more)) ] ]

right_more : (basis : Basis) (blocks before : List BlockParts) (block : BlockParts) (later : List BlockParts) → blocks ≡ before ++ block ∷ later → AreRight basis blocks (length before)
    → IsRight basis (least_output before) block → AreRight basis blocks (length (before ++ block ∷ []))
right_more basis blocks before block later split right here front other rest whole few =
    let many = length-append before (block ∷ []) in
    let less : length front < suc (length before) = omega (arith, few, many) in
    elim (below_or_last (length front) (length before) less) [
      | inl less ↦ right front other rest whole less
      | inr same ↦
          let fronts : before ≡ front = sym (cut_front blocks before later block split) ∙ ap (λ m. take m blocks) (sym same) ∙ cut_front blocks front rest other whole in
          let tails : block ∷ later ≡ other ∷ rest = sym (cut_rest blocks before later block split) ∙ ap (λ m. drop m blocks) (sym same) ∙ cut_rest blocks front rest other whole in
          subst (λ b. IsRight basis (least_output front) b) (head_of block other later rest tails) (subst (λ bs. IsRight basis (least_output bs) block) fronts here)
    ]

blocks_told : (basis : Basis) (blocks before later : List BlockParts) → HasFunctions basis.parts → All (λ b. IsAnswer b.answer) later → blocks ≡ before ++ later → AreRight basis blocks (length before)
    → AreRight basis blocks (length blocks) ⊎ ((r : VerifyRefusal) × HasRefusedBlock basis blocks r)
blocks_told basis blocks before [] has each split right = inl (subst (AreRight basis blocks) (ap length (sym (split ∙ append-nil before))) right)
blocks_told basis blocks before (block ∷ later) has each split right =
    elim (block_told basis (least_output before) (line_after basis.version before) block has (All-head (λ b. IsAnswer b.answer) block later each)) [
      | inr refused ↦ inr (refused.0, record { before = before; block = block; rest = later; whole = split; earlier = right; refused = refused.1 })
      | inl here ↦ blocks_told basis blocks (before ++ block ∷ []) later has (All-tail (λ b. IsAnswer b.answer) block later each) (split ∙ sym (append_assoc before (block ∷ []) later)) (right_more basis blocks before block later split right here)
    ]

answers_of : (report : ReportParts) → IsReport report → All (λ b. IsAnswer b.answer) report.blocks
answers_of report is = λ k d within. (is.blocks k d within).answer

pub verified_or_denied : (parts : Parts) (report : ReportParts) → HasFunctions parts → IsReport report → IsVerified parts report ⊎ ((r : VerifyRefusal) × IsDenied parts report r)
verified_or_denied parts report has is = elim (lists_or_not (lists_or_not same_or_not) report.input_names parts.input_names) [
  | inr not ↦ inr (Inputs 2, inl (not, refl))
  | inl names ↦ elim (blocks_told (basis_of parts report) report.blocks [] report.blocks has (answers_of report is) refl (λ before block rest whole few. absurd (omega (arith, few)))) [
    | inl right ↦ inl (record { names = names; blocks = right })
    | inr refused ↦ inr (refused.0, inr (names, refused.1))
  ]
]
