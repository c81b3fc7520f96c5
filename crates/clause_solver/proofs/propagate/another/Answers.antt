use Rattle.std.proofs.Common.{◌≡◌, inl, inr, true, [], get_or, sym, ap, ◌∙◌, subst, Option, None, Some}
use Rattle.std.specs.Prelude.{IfSome, IfNone}
use Rattle.std.proofs.lemmas.Option.{slice_get-get_or}
use Rattle.clause_core.specs.Literal.{Literal, flip, has}
use Rattle.clause_solver.specs.Trail.{known_by, oldest}
use Rattle.clause_solver.proofs.Propagation.{all_over, over_has}
use Rattle.clause_solver.proofs.Visits.{rest_in, rest_apart, rest_whole}
use Rattle.clause_solver.proofs.propagate.another.Goals as goal

some_weaker : (r : Option Literal) (P Q : Literal → Type 0) → ((x : Literal) → P x → Q x) → IfSome r P → IfSome r Q
some_weaker None P Q f h = tt
some_weaker (Some x) P Q f h = f x h

none_weaker : (r : Option Literal) (P Q : Type 0) → (P → Q) → IfNone r P → IfNone r Q
none_weaker None P Q f h = f h
none_weaker (Some x) P Q f h = tt

pub open_literal-requires : goal.open_literal-requires
open_literal-requires c =
    let work = c.args.work.now in
    let clause = get_or work.clauses c.args.place [] in
    let found = slice_get-get_or work.clauses c.args.place [] c.requires.inside in
    over_has work.trail.vars clause c.other_of-rest.result (all_over work.trail.vars work.clauses c.args.place clause c.requires.over found)
    (rest_in clause c.args.pair (known_by (oldest work.looked work.trail.values)) (known_by work.trail.values) (c.requires.watched clause found) c.args.other c.other_of-rest.result c.requires.stays c.other_of-rest.ensures)

pub returns-then-pair-clause-some : goal.returns-then-pair-clause-some
returns-then-pair-clause-some c =
    let work = c.args.work.now in
    let rest = c.other_of-rest.result in
    some_weaker c.open_literal.result _ _ (λ lit h. λ clause found.
    let watched = c.requires.watched clause found in (
      subst (λ x. has clause x ≡ true) (sym h.0) (rest_in clause c.args.pair (known_by (oldest work.looked work.trail.values)) (known_by work.trail.values) watched c.args.other rest c.requires.stays c.other_of-rest.ensures),
      ap (λ x. known_by work.trail.values (flip x)) h.0 ∙ h.1,
      λ e. rest_apart clause c.args.pair (known_by (oldest work.looked work.trail.values)) (known_by work.trail.values) watched c.args.other rest c.requires.stays c.other_of-rest.ensures (sym h.0 ∙ e),
    )) c.open_literal.ensures.some

pub returns-then-pair-clause-none : goal.returns-then-pair-clause-none
returns-then-pair-clause-none c =
    let work = c.args.work.now in
    let rest = c.other_of-rest.result in
    none_weaker c.open_literal.result _ _ (λ h. λ clause found l l_in.
    elim (rest_whole clause c.args.pair (known_by (oldest work.looked work.trail.values)) (known_by work.trail.values) (c.requires.watched clause found) c.args.other rest c.requires.stays c.other_of-rest.ensures c.if-pair.true l l_in) [
      | inl e ↦ inl e
      | inr e ↦ inr (ap (λ x. known_by work.trail.values (flip x)) (sym e) ∙ h)
    ]) c.open_literal.ensures.none

pub other_not_false-requires : goal.other_not_false-requires
other_not_false-requires c = all_over c.args.work.now.trail.vars c.args.work.now.clauses c.args.place c.clause-clause.result.now c.requires.over c.clause-clause.ensures
