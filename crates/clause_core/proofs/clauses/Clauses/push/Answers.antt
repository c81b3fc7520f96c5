use Rattle.std.proofs.Common.{◌++◌, ◌∷◌, [], ap, ◌∙◌}
use Rattle.clause_core.proofs.PiecesLaws.{cut_more, pieces_more}
use Rattle.clause_core.proofs.clauses.Clauses.push.Goals as goal

pub invariant_of-self-2 : goal.invariant_of-self-2
invariant_of-self-2 c =
    let pushed = rw c.unwrap.ensures at c.push.ensures.items in
    cut_more c.self.inside.lits.items c.args.clause.now c.extend_from_slice.new.self.items c.self.inside.ends.items c.push.new.self.items c.len.result c.self.invariant
    c.in_ok-extend_from_slice.ensures.items (c.len.ensures ∙ c.extend_from_slice.new.self.ok.0) (pushed ∙ ap (λ e. e ++ c.len.result ∷ []) c.reserve.ensures.items)

pub returns-clause-ok : goal.returns-clause-ok
returns-clause-ok c =
    let pushed = rw c.unwrap.ensures at c.push.ensures.items in
    pieces_more c.self.inside.lits.items c.args.clause.now c.extend_from_slice.new.self.items c.self.inside.ends.items c.push.new.self.items c.len.result c.self.invariant
    c.in_ok-extend_from_slice.ensures.items (c.len.ensures ∙ c.extend_from_slice.new.self.ok.0) (pushed ∙ ap (λ e. e ++ c.len.result ∷ []) c.reserve.ensures.items)
    ∙ ap (λ e. e ++ c.args.clause.now ∷ []) c.self.view_is
