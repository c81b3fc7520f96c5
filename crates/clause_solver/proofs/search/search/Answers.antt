use Rattle.std.proofs.Common.{◌+◌, ◌-◌, ◌<◌, ◌*◌, length, ◌∙◌, refl, sym, ap, subst, inl, inr, arith, Ok}
use Rattle.clause_solver.specs.Trail.{Track, unassigned}
use Rattle.clause_solver.specs.Search.{LearnsNew}
use Rattle.clause_solver.proofs.Searching.{working_begun, goes_begun}
use Rattle.clause_solver.proofs.Rounds.{learns_none, learns_more, up_to_more, origin_more, round_measure, unassigned_few}
use Rattle.clause_solver.proofs.search.search.Goals as goal

pub returns-in_err-next_round-clause-at_most : goal.returns-in_err-next_round-clause-at_most
returns-in_err-next_round-clause-at_most g c =
    up_to_more (g.L.Ledger.book c.args.ledger.now) (g.L.Ledger.book c.loop-analysis.ledger) (g.L.Ledger.book c.next_round.new.ledger) c.loop-analysis.learned (c.args.budget - c.loop-analysis.learned) c.args.budget
    c.loop-analysis.invariant.learns c.next_round.ensures.at_most (omega (arith, c.loop-analysis.invariant.within))

pub returns-in-Satisfied-clause-at_most : goal.returns-in-Satisfied-clause-at_most
returns-in-Satisfied-clause-at_most g c =
    up_to_more (g.L.Ledger.book c.args.ledger.now) (g.L.Ledger.book c.loop-analysis.ledger) (g.L.Ledger.book c.next_round.new.ledger) c.loop-analysis.learned (c.args.budget - c.loop-analysis.learned) c.args.budget
    c.loop-analysis.invariant.learns c.next_round.ensures.at_most (omega (arith, c.loop-analysis.invariant.within))

pub returns-in-Refuted-clause-at_most : goal.returns-in-Refuted-clause-at_most
returns-in-Refuted-clause-at_most g c =
    up_to_more (g.L.Ledger.book c.args.ledger.now) (g.L.Ledger.book c.loop-analysis.ledger) (g.L.Ledger.book c.next_round.new.ledger) c.loop-analysis.learned (c.args.budget - c.loop-analysis.learned) c.args.budget
    c.loop-analysis.invariant.learns c.next_round.ensures.at_most (omega (arith, c.loop-analysis.invariant.within))

pub returns-in-Spent-clause-at_most : goal.returns-in-Spent-clause-at_most
returns-in-Spent-clause-at_most g c =
    up_to_more (g.L.Ledger.book c.args.ledger.now) (g.L.Ledger.book c.loop-analysis.ledger) (g.L.Ledger.book c.next_round.new.ledger) c.loop-analysis.learned (c.args.budget - c.loop-analysis.learned) c.args.budget
    c.loop-analysis.invariant.learns c.next_round.ensures.at_most (omega (arith, c.loop-analysis.invariant.within))

pub loop-analysis-smaller-in-Learned : goal.loop-analysis-smaller-in-Learned
loop-analysis-smaller-in-Learned g c =
    let round = rw c.in-Learned.is at c.in_ok-next_round.ensures.so in
    let few : c.loop-analysis.learned < c.args.budget = (let s = round.some in omega arith) in
    round_measure c.args.budget c.loop-analysis.learned (2 * c.args.work.now.trail.vars + 3) (unassigned c.loop-analysis.work.trail) (unassigned c.next_round.new.work.trail) few
    (unassigned_few c.next_round.new.work.trail c.args.work.now.trail.vars (round.vars ∙ c.loop-analysis.invariant.vars))

pub loop-analysis-preserved-in-Learned : goal.loop-analysis-preserved-in-Learned
loop-analysis-preserved-in-Learned g c =
    let round = rw c.in-Learned.is at c.in_ok-next_round.ensures.so in
    record {
      within = let s = round.some in omega arith;
      working = c.next_round.ensures.working (inl (c.in_ok-next_round.was ∙ ap Ok c.in-Learned.is));
      goes = round.goes;
      learns = learns_more (g.L.Ledger.book c.args.ledger.now) (g.L.Ledger.book c.loop-analysis.ledger) (g.L.Ledger.book c.next_round.new.ledger) c.loop-analysis.learned 1 (c.loop-analysis.learned + 1) c.loop-analysis.invariant.learns round.learns refl;
      many = let r = round.grown in let m = c.loop-analysis.invariant.many in omega arith;
      vars = round.vars ∙ c.loop-analysis.invariant.vars;
      later = omega (arith, c.loop-analysis.invariant.later, c.next_round.ensures.later);
      origin = origin_more (g.L.Ledger.origin c.args.ledger.now) (g.L.Ledger.origin c.loop-analysis.ledger) (g.L.Ledger.origin c.next_round.new.ledger) c.loop-analysis.invariant.origin c.next_round.ensures.origin;
    }

pub loop-analysis-init : goal.loop-analysis-init
loop-analysis-init g c = record {
  within = omega arith;
  working = working_begun (g.L.Ledger.book c.args.ledger.now) (g.L.Ledger.broken c.args.ledger.now) c.args.work.now c.requires.ready c.back.new.self c.back.ensures c.in_ok-work.field-0 (omega (arith, c.in_ok-work.ensures.width, c.vars.ensures.value)) c.in_ok-work.ensures.none c.in_ok-work.ensures.empty;
  goes = goes_begun (g.L.Ledger.book c.args.ledger.now) (g.L.Ledger.broken c.args.ledger.now) c.args.work.now c.requires.ready c.back.new.self c.back.ensures;
  learns = learns_none (g.L.Ledger.book c.args.ledger.now);
  many = omega arith;
  vars = ap (λ (t : Track). t.vars) c.back.ensures;
  later = omega arith;
  origin = inl refl;
}

pub loop-analysis-preserved : goal.loop-analysis-preserved
loop-analysis-preserved g c =
    let round = rw c.in-Decided.is at c.in_ok-next_round.ensures.so in
    record {
      within = c.loop-analysis.invariant.within;
      working = c.next_round.ensures.working (inr (c.in_ok-next_round.was ∙ ap Ok c.in-Decided.is));
      goes = round.goes;
      learns = subst (λ b. LearnsNew (g.L.Ledger.book c.args.ledger.now) b c.loop-analysis.learned) (sym round.book) c.loop-analysis.invariant.learns;
      many = ap length round.clauses ∙ c.loop-analysis.invariant.many;
      vars = round.vars ∙ c.loop-analysis.invariant.vars;
      later = omega (arith, c.loop-analysis.invariant.later, c.next_round.ensures.later);
      origin = origin_more (g.L.Ledger.origin c.args.ledger.now) (g.L.Ledger.origin c.loop-analysis.ledger) (g.L.Ledger.origin c.next_round.new.ledger) c.loop-analysis.invariant.origin c.next_round.ensures.origin;
    }
