use Rattle.std.proofs.Common.{◌≡◌, ap, ◌∙◌, sym}
use Rattle.std.specs.FinSet as set
use Rattle.std.proofs.lemmas.Bool.{false≢true}
use Rattle.std.proofs.lemmas.Result.{IfOk-weaker}
use Rattle.cube_core.specs.Function.{Function}
use Rattle.cover_make.specs.Cover.{off_cover_of}
use Rattle.lattice_grid.specs.declared.control.Control.TheVariants.{Zero, One}
use Rattle.lattice_grid.specs.Pairs.{single}
use Rattle.dual_product.specs.Dual.{dual_between, on_cover_of, dual_of}
use Rattle.dual_product.proofs.DualLaws.{dual_of-none, dual_of-all, dual_of-some, same_function}
use Rattle.dual_product.proofs.dual.build.Goals as goal

pub returns-then-is_empty-clause-cells : goal.returns-then-is_empty-clause-cells
returns-then-is_empty-clause-cells c =
    let none : c.args.spec.now.on ≡ set.empty = sym c.on.ensures ∙ c.is_empty.ensures.0 c.if-is_empty.true in
    IfOk-weaker c.single_cell.result (λ grid. grid ≡ single Zero) (λ grid. grid ≡ dual_of c.args.spec.now) (λ grid e. e ∙ sym (dual_of-none c.args.spec.now none)) c.single_cell.ensures

pub returns-then-is_empty-2-clause-cells : goal.returns-then-is_empty-2-clause-cells
returns-then-is_empty-2-clause-cells c =
    let some : c.args.spec.now.on ≡ set.empty → ⊥ = λ h. false≢true (sym c.if-is_empty.false ∙ c.is_empty.ensures.1 (c.on.ensures ∙ h)) in
    let none : c.args.spec.now.off ≡ set.empty = sym c.off.ensures ∙ c.is_empty-else-is_empty.ensures.0 c.if-is_empty-2.true in
    IfOk-weaker c.single_cell-then-is_empty-2.result (λ grid. grid ≡ single One) (λ grid. grid ≡ dual_of c.args.spec.now) (λ grid e. e ∙ sym (dual_of-all c.args.spec.now some none)) c.single_cell-then-is_empty-2.ensures

pub returns-else-is_empty-2-clause-cells : goal.returns-else-is_empty-2-clause-cells
returns-else-is_empty-2-clause-cells c =
    let some : c.args.spec.now.on ≡ set.empty → ⊥ = λ h. false≢true (sym c.if-is_empty.false ∙ c.is_empty.ensures.1 (c.on.ensures ∙ h)) in
    let more : c.args.spec.now.off ≡ set.empty → ⊥ = λ h. false≢true (sym c.if-is_empty-2.false ∙ c.is_empty-else-is_empty.ensures.1 (c.off.ensures ∙ h)) in
    let read : Function = record { inputs = c.inputs-inputs.result; on = c.on-else-is_empty-2.result.now; off = c.off-else-is_empty-2.result.now } in
    let same : read ≡ c.args.spec.now = same_function c.args.spec.now _ _ _ c.inputs-inputs.ensures.same c.on-else-is_empty-2.ensures c.off-else-is_empty-2.ensures in
    IfOk-weaker c.between_covers.result (λ grid. grid ≡ dual_between (on_cover_of read).cubes (off_cover_of (on_cover_of read))) (λ grid. grid ≡ dual_of c.args.spec.now)
    (λ grid e. e ∙ ap (λ (f : Function). dual_between (on_cover_of f).cubes (off_cover_of (on_cover_of f))) same ∙ sym (dual_of-some c.args.spec.now some more)) c.between_covers.ensures
