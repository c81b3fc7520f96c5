use Rattle.std.proofs.Common.{◌≡◌, subst, true, ◌==◌, length, ℕ, Bool}
use Rattle.clause_core.specs.Literal.{clause_is_true}
use Rattle.clause_core.specs.Formula.{Satisfies}
use Rattle.lrat_replay.specs.Marks.{room}
use Rattle.lrat_replay.proofs.ReplayLaws.{replay_added, implied, ok_part, turned_true, turned_not}
use Rattle.lrat_replay.proofs.replay.Replay.step.Goals as goal

pub invariant_of-self-then-is_empty : goal.invariant_of-self-then-is_empty
invariant_of-self-then-is_empty c =
    replay_added c.self.inside.store (room c.self.inside.marks) c.self.inside.reached c.self.invariant c.args.id c.args.clause.now c.args.hints.now c.push.new.self (room c.test.new.marks) true
    c.in_ok-test.ensures.accepted (ok_part c.push.result c.if-is_err.ensures.value c.push.ensures.ok) c.in_ok-test.ensures.room (turned_true c.self.inside.reached (length c.args.clause.now == 0) c.if-is_empty.ensures)

pub invariant_of-self-else-is_empty : goal.invariant_of-self-else-is_empty
invariant_of-self-else-is_empty c =
    replay_added c.self.inside.store (room c.self.inside.marks) c.self.inside.reached c.self.invariant c.args.id c.args.clause.now c.args.hints.now c.push.new.self (room c.test.new.marks) c.self.inside.reached
    c.in_ok-test.ensures.accepted (ok_part c.push.result c.if-is_err.ensures.value c.push.ensures.ok) c.in_ok-test.ensures.room (turned_not c.self.inside.reached (length c.args.clause.now == 0) c.if-is_empty.ensures)

pub returns-then-is_empty-clause-implied : goal.returns-then-is_empty-clause-implied
returns-then-is_empty-clause-implied c =
    subst (λ b. (v : ℕ → Bool) → Satisfies v b.formula → clause_is_true v c.args.clause.now ≡ true) c.self.view_is
    (implied c.self.inside.store c.args.id c.args.clause.now c.args.hints.now c.self.invariant.history c.in_ok-test.ensures.accepted)

pub returns-else-is_empty-clause-implied : goal.returns-else-is_empty-clause-implied
returns-else-is_empty-clause-implied c =
    subst (λ b. (v : ℕ → Bool) → Satisfies v b.formula → clause_is_true v c.args.clause.now ≡ true) c.self.view_is
    (implied c.self.inside.store c.args.id c.args.clause.now c.args.hints.now c.self.invariant.history c.in_ok-test.ensures.accepted)
