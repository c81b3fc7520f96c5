use Rattle.std.proofs.Common.{◌<◌, ◌∙◌, length, get_or, sym, ap, subst}
use Rattle.lattice_grid.specs.declared.control.Control.TheVariants.{Zero}
use Rattle.lattice_grid.specs.Control.{NamesBelow}
use Rattle.lattice_grid.proofs.Tools.{names_at_number}
use Rattle.reach_encoding.specs.Encoding.{many_controls}
use Rattle.reach_encoding.proofs.task.Task.control_value.Goals as goal

pub bounds-deref-number : goal.bounds-deref-number
bounds-deref-number c = subst (λ n. c.args.number < n) (sym (ap length (c.deref.ensures.0 ∙ c.self.invariant.allowing) ∙ ap many_controls c.self.view_is)) c.requires.control

pub value-requires : goal.value-requires
value-requires c =
    subst (λ xs. NamesBelow 10 (get_or xs c.args.number Zero)) (sym (c.deref.ensures.0 ∙ c.self.invariant.allowing))
    (names_at_number _ _ c.args.number c.self.invariant.question.function.few)
