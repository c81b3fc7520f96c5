use Rattle.std.proofs.Common.{◌≤◌, ◌∙◌, ap, sym, subst, Some}
use Rattle.std.specs.Prelude.{slice_range, slice_index}
use Rattle.clause_core.proofs.PiecesLaws.{cut_at, pieces_at}
use Rattle.clause_core.proofs.clauses.piece.Goals as goal

pub part-requires-clause-order : goal.part-requires-clause-order
part-requires-clause-order c = subst (λ n. n ≤ slice_index c.args.ends.now c.args.index) (sym c.start_of-start.ensures) (cut_at 0 c.args.ends.now _ c.args.index c.requires.cut c.requires.inside).0

pub part-requires-clause-within : goal.part-requires-clause-within
part-requires-clause-within c = (cut_at 0 c.args.ends.now _ c.args.index c.requires.cut c.requires.inside).1

pub returns : goal.returns
returns c = pieces_at c.args.lits.now 0 c.args.ends.now c.args.index c.requires.inside
    ∙ ap (λ n. Some (slice_range c.args.lits.now n (slice_index c.args.ends.now c.args.index))) (sym c.start_of-start.ensures) ∙ ap Some (sym c.part.ensures)
