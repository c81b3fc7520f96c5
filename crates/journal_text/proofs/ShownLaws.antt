-- What refuted sections show of lattices.
use Rattle.std.proofs.Common.{◌≡◌, ℕ, ◌*◌, ◌≤◌, List, map, refl, sym, ap, subst, arith, None, Some}
use Rattle.std.proofs.lemmas.List.Elements.{All-contains}
use Rattle.clause_core.specs.Formula.{Formula}
use Rattle.lattice_grid.specs.Defects.{Defects, IsArray}
use Rattle.lattice_grid.specs.Rectangle.{Size, IsSize}
use Rattle.lrat_replay.specs.Laws.{Refutes}
use Rattle.lrat_replay.specs.declared.line.LineKind.{LineKind}
use Rattle.lrat_replay.specs.declared.line.LineKind.TheVariants.{Add}
use Rattle.lrat_replay.proofs.Tools.{refutation_sound}
use Rattle.reach_encoding.specs.Encoding.{Question as Asked, IsQuestion, encoding, HasSolution}
use Rattle.reach_encoding.specs.Solved.{question_of}
use Rattle.reach_encoding.proofs.Tools.{excluded_below, solution_of}
use Rattle.journal_text.specs.declared.target.Target.{Target}
use Rattle.journal_text.specs.declared.target.Target.TheVariants.{Whole, Marked}
use Rattle.journal_text.specs.Bounds.{IsTarget, IsPart, IsAsked}
use Rattle.journal_text.specs.Parts.{Question, size_of, array_of}
use Rattle.journal_text.specs.Proved.{formula_of}
use Rattle.journal_text.specs.Shown.{ExcludesBelow, ExcludesOnArray}

whole-sized : (t : Target) → IsTarget t → array_of t ≡ None → IsSize (size_of t) × ((size_of t).rows * (size_of t).cols ≤ 32768)
whole-sized (Whole s) h e = h
whole-sized (Marked a) h e = absurd (cc e)

marked-array : (t : Target) (a : Defects) → IsTarget t → array_of t ≡ Some a → IsArray a × (size_of t ≡ a.size)
marked-array (Whole s) a h e = absurd (cc e)
marked-array (Marked b) a h e = let same : b ≡ a = cc e in (subst IsArray same h, ap (λ (z : Defects). z.size) same)

small_area : (a b : ℕ) → a ≤ 16 → b ≤ 16 → a * b ≤ 256
small_area a b p q = grind arith

unsolved : (formula : Formula) (lines : List LineKind) → Refutes formula lines → HasSolution formula → ⊥
unsolved formula lines refuted solution = refutation_sound formula lines refuted solution.0 solution.1

pub excludes_below : ExcludesBelow
excludes_below version rails output f parts least function bounds covered g right small =
    let cover = covered g.size right.lattice.size small in
    let t = cover.0 in
    let h = cover.2 in
    let asked : IsAsked h.section = All-contains (IsPart version) parts (Question h.section) bounds h.is_in in
    let sized = whole-sized h.section.target asked.target h.no_array in
    let same : encoding (question_of f rails t) ≡ formula_of rails f h.section = λ i. encoding (record { function = f; rails = rails; size = sym h.size_is i; array = sym h.no_array i }) in
    excluded_below f rails g.size t function (subst IsSize h.size_is sized.0) (subst (λ (s : Size). s.rows * s.cols ≤ 32768) h.size_is sized.1) cover.1
    (λ solution. unsolved (formula_of rails f h.section) (map (λ x. Add x) h.section.steps) h.holds.refutes (subst HasSolution same solution))
    (record { lattice = g; kept = right.lattice; size_is = refl; over = right.over; realises = right.realises })

pub excludes_on : ExcludesOnArray
excludes_on version rails output f parts a function bounds h g right =
    let asked : IsAsked h.section = All-contains (IsPart version) parts (Question h.section) bounds h.is_in in
    let marked = marked-array h.section.target a asked.target h.array_is in
    let array = marked.0 in
    let area = small_area a.size.rows a.size.cols array.few_rows array.few_cols in
    let q : Asked = record { function = f; rails = rails; size = a.size; array = Some a } in
    let question : IsQuestion q = record { function = function; size = record { some_rows = array.some_rows; some_cols = array.some_cols; few = omega (arith, area) }; few = omega (arith, area); array = refl } in
    let same : encoding q ≡ formula_of rails f h.section = λ i. encoding (record { function = f; rails = rails; size = sym marked.1 i; array = sym h.array_is i }) in
    unsolved (formula_of rails f h.section) (map (λ x. Add x) h.section.steps) h.holds.refutes
    (subst HasSolution same (solution_of q question (record { lattice = g; kept = right.lattice; size_is = sym right.realises.same_size; over = right.over; realises = right.realises })))
