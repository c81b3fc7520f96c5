use Rattle.std.proofs.Common.{◌≡◌, ◌+◌, ◌++◌, ◌∷◌, [], length, map, pos, ◌∙◌, sym, ap, subst, false, arith}
use Rattle.clause_core.specs.Formula.{IsOver}
use Rattle.lrat_replay.specs.Book.{some_flip, after_addition}
use Rattle.lrat_replay.specs.Ledger.{IsKeptOrAdded}
use Rattle.clause_solver.specs.Trail.{Track}
use Rattle.clause_solver.specs.Copy.{IsCopy}
use Rattle.clause_solver.specs.Watching.{IsLearning}
use Rattle.lrat_replay.specs.Marks.{room}
use Rattle.clause_solver.proofs.Steps.{false_no_tautology, asserting_new, asserting_tells, learns_one, up_to_one, accepts, formula_same}
use Rattle.clause_solver.proofs.Learning.{learning}
use Rattle.clause_solver.proofs.conflict.learn_conflict.Goals as goal

pub learn-requires-clause-over : goal.learn-requires-clause-over
learn-requires-clause-over g c =
    subst (λ n. IsOver n c.deref.result.now) c.requires.ready.vars
    (subst (IsOver c.args.work.now.trail.vars) (sym c.deref.ensures.value) c.in_ok-analyse.ensures.over)

pub learn-requires-clause-no_tautology : goal.learn-requires-clause-no_tautology
learn-requires-clause-no_tautology g c =
    subst (λ w. some_flip w w ≡ false) (sym c.deref.ensures.value) (false_no_tautology c.args.work.now.trail.values c.requires.working.fresh c.analyse.new.analysis.clause.items c.in_ok-analyse.ensures.is_false)

pub returns-in_err-learn-clause-at_most : goal.returns-in_err-learn-clause-at_most
returns-in_err-learn-clause-at_most g c =
    let clause = c.analyse.new.analysis.clause.items in
    let ids = c.analyse.new.analysis.hints.items in
    let is = c.deref.ensures.value in
    let over = subst (λ n. IsOver n clause) c.requires.ready.vars c.in_ok-analyse.ensures.over in
    let taut = false_no_tautology c.args.work.now.trail.values c.requires.working.fresh clause c.in_ok-analyse.ensures.is_false in
    let accepted = accepts (g.L.Ledger.book c.args.ledger.now) c.args.work.now.clauses c.requires.ready.copy clause ids c.in_ok-analyse.ensures.accepted over taut c.requires.few in
    let fresh = asserting_new (g.L.Ledger.book c.args.ledger.now) c.args.work.now.clauses c.requires.ready.copy c.args.work.now.trail.values c.requires.working.fresh c.requires.working.reasons c.requires.decided c.args.start c.requires.newest clause c.in_ok-analyse.ensures.asserts in
    up_to_one (g.L.Ledger.book c.args.ledger.now) (g.L.Ledger.book c.learn.new.ledger) (length c.args.work.now.clauses + 1) clause (map pos ids) 1 accepted fresh (omega arith)
    (subst (IsKeptOrAdded (g.L.Ledger.book c.args.ledger.now) (g.L.Ledger.book c.learn.new.ledger) (length c.args.work.now.clauses + 1)) is c.learn.ensures.either)

pub returns-clause-at_most : goal.returns-clause-at_most
returns-clause-at_most g c =
    let clause = c.analyse.new.analysis.clause.items in
    let ids = c.analyse.new.analysis.hints.items in
    let is = c.deref.ensures.value in
    let over = subst (λ n. IsOver n clause) c.requires.ready.vars c.in_ok-analyse.ensures.over in
    let taut = false_no_tautology c.args.work.now.trail.values c.requires.working.fresh clause c.in_ok-analyse.ensures.is_false in
    let accepted = accepts (g.L.Ledger.book c.args.ledger.now) c.args.work.now.clauses c.requires.ready.copy clause ids c.in_ok-analyse.ensures.accepted over taut c.requires.few in
    let fresh = asserting_new (g.L.Ledger.book c.args.ledger.now) c.args.work.now.clauses c.requires.ready.copy c.args.work.now.trail.values c.requires.working.fresh c.requires.working.reasons c.requires.decided c.args.start c.requires.newest clause c.in_ok-analyse.ensures.asserts in
    up_to_one (g.L.Ledger.book c.args.ledger.now) (g.L.Ledger.book c.learn.new.ledger) (length c.args.work.now.clauses + 1) clause (map pos ids) 1 accepted fresh (omega arith)
    (subst (IsKeptOrAdded (g.L.Ledger.book c.args.ledger.now) (g.L.Ledger.book c.learn.new.ledger) (length c.args.work.now.clauses + 1)) is c.learn.ensures.either)

pub returns-clause-learned : goal.returns-clause-learned
returns-clause-learned g c =
    let clause = c.analyse.new.analysis.clause.items in
    let ids = c.analyse.new.analysis.hints.items in
    let is = c.deref.ensures.value in
    let over = subst (λ n. IsOver n clause) c.requires.ready.vars c.in_ok-analyse.ensures.over in
    let taut = false_no_tautology c.args.work.now.trail.values c.requires.working.fresh clause c.in_ok-analyse.ensures.is_false in
    let accepted = accepts (g.L.Ledger.book c.args.ledger.now) c.args.work.now.clauses c.requires.ready.copy clause ids c.in_ok-analyse.ensures.accepted over taut c.requires.few in
    let fresh = asserting_new (g.L.Ledger.book c.args.ledger.now) c.args.work.now.clauses c.requires.ready.copy c.args.work.now.trail.values c.requires.working.fresh c.requires.working.reasons c.requires.decided c.args.start c.requires.newest clause c.in_ok-analyse.ensures.asserts in
    let tells = asserting_tells (g.L.Ledger.book c.args.ledger.now) c.args.work.now.clauses c.requires.ready.copy c.args.work.now.trail.values c.requires.working.fresh c.requires.working.reasons c.requires.decided c.args.start c.requires.newest clause c.in_ok-analyse.ensures.asserts in
    learns_one (g.L.Ledger.book c.args.ledger.now) (g.L.Ledger.book c.learn.new.ledger) (length c.args.work.now.clauses + 1) clause (map pos ids) accepted fresh tells
    (c.in_ok-learn.ensures.learned ∙ ap (after_addition (g.L.Ledger.book c.args.ledger.now) (length c.args.work.now.clauses + 1)) is)

pub returns-in_err-settle_learned-clause-at_most : goal.returns-in_err-settle_learned-clause-at_most
returns-in_err-settle_learned-clause-at_most g c =
    let clause = c.analyse.new.analysis.clause.items in
    let ids = c.analyse.new.analysis.hints.items in
    let is = c.deref.ensures.value in
    let over = subst (λ n. IsOver n clause) c.requires.ready.vars c.in_ok-analyse.ensures.over in
    let taut = false_no_tautology c.args.work.now.trail.values c.requires.working.fresh clause c.in_ok-analyse.ensures.is_false in
    let accepted = accepts (g.L.Ledger.book c.args.ledger.now) c.args.work.now.clauses c.requires.ready.copy clause ids c.in_ok-analyse.ensures.accepted over taut c.requires.few in
    let fresh = asserting_new (g.L.Ledger.book c.args.ledger.now) c.args.work.now.clauses c.requires.ready.copy c.args.work.now.trail.values c.requires.working.fresh c.requires.working.reasons c.requires.decided c.args.start c.requires.newest clause c.in_ok-analyse.ensures.asserts in
    up_to_one (g.L.Ledger.book c.args.ledger.now) (g.L.Ledger.book c.learn.new.ledger) (length c.args.work.now.clauses + 1) clause (map pos ids) 1 accepted fresh (omega arith)
    (subst (IsKeptOrAdded (g.L.Ledger.book c.args.ledger.now) (g.L.Ledger.book c.learn.new.ledger) (length c.args.work.now.clauses + 1)) is c.learn.ensures.either)

pub settle_learned-requires-clause-learning : goal.settle_learned-requires-clause-learning
settle_learned-requires-clause-learning g c =
    let clause = c.analyse.new.analysis.clause.items in
    subst (IsLearning _) (sym c.deref-3.ensures.value)
    (learning c.args.work.now c.requires.working c.args.start c.requires.start c.requires.decided clause c.analyse.new.analysis.after c.next_decision-keep.result c.in_ok-analyse.ensures.over c.in_ok-analyse.ensures.led c.in_ok-analyse.ensures.anchor
    c.next_decision-keep.ensures.from c.next_decision-keep.ensures.within c.next_decision-keep.ensures.ends c.next_decision-keep.ensures.before c.next_decision-keep.ensures.decided
    c.learn.new.clauses (c.in_ok-learn.ensures.clauses ∙ ap (λ w. c.args.work.now.clauses ++ w ∷ []) c.deref.ensures.value) c.back.new.self c.back.ensures c.args.work.now.seen)

pub returns-clause-ready : goal.returns-clause-ready
returns-clause-ready g c =
    let book = g.L.Ledger.book c.learn.new.ledger in
    let advanced = c.in_ok-settle_learned.ensures.advanced in
    let vars : c.settle_learned.new.work.trail.vars ≡ c.args.work.now.trail.vars = advanced.vars ∙ ap (λ (t : Track). t.vars) c.back.ensures in
    let seen = ap room advanced.seen in
    record {
      whole = c.in_ok-learn.ensures.whole;
      copy = subst (IsCopy book) (sym advanced.clauses) c.in_ok-learn.ensures.copy;
      over = c.in_ok-settle_learned.ensures.working.over;
      vars = vars ∙ c.requires.ready.vars ∙ ap (λ f. f.vars) (sym (formula_same (g.L.Ledger.book c.args.ledger.now) book (length c.args.work.now.clauses + 1) c.deref.result.now c.in_ok-learn.ensures.learned));
      room = omega (arith, c.requires.ready.room, vars, seen);
    }
