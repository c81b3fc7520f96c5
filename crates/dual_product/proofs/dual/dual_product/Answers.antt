use Rattle.std.proofs.Common.{◌≡◌}
use Rattle.std.proofs.lemmas.Result.{IfOk-weaker}
use Rattle.lattice_grid.specs.Lattice.{IsOver}
use Rattle.lattice_grid.specs.Realise.{Realises}
use Rattle.dual_product.specs.Dual.{dual_of}
use Rattle.dual_product.proofs.DualLaws.{dual_of-IsOver, dual_of-Realises}
use Rattle.dual_product.proofs.dual.dual_product.Goals as goal

pub returns-clause-over : goal.returns-clause-over
returns-clause-over c =
    IfOk-weaker c.build.result (λ grid. grid ≡ dual_of c.args.spec.now) (IsOver c.args.spec.now.inputs) (λ grid e. rw e (dual_of-IsOver c.args.spec.now c.build.ensures.function)) c.build.ensures.cells

pub returns-clause-realises : goal.returns-clause-realises
returns-clause-realises c =
    IfOk-weaker c.build.result (λ grid. grid ≡ dual_of c.args.spec.now) (λ grid. Realises grid c.args.spec.now) (λ grid e. rw e (dual_of-Realises c.args.spec.now c.build.ensures.function)) c.build.ensures.cells
