use Rattle.std.proofs.Common.{◌≡◌, ◌↔◌, ◌∙◌, sym, ap, true, not, subst}
use Rattle.lrat_replay.specs.Marks.{known_of}
use Rattle.lrat_replay.specs.New.{IsNew}
use Rattle.lrat_replay.proofs.SubsetLaws.{new_exactly, never_new, some_literal, no_literal}
use Rattle.lrat_replay.proofs.replay.Replay.is_new.Goals as goal
use Rattle.lrat_replay.proofs.replay.Replay.is_new.Goals.{then-not-is_empty, else-not-is_empty}

pub returns-clause-is_new : goal.returns-clause-is_new
returns-clause-is_new c = elim c.if-not-is_empty.branch [
  | then-not-is_empty w ↦
      subst (λ r. (r ≡ true) ↔ IsNew c.args.self.now c.args.clause.now) (sym w.result-is)
      (subst (λ b. (not w.has_within.result ≡ true) ↔ IsNew b c.args.clause.now) c.self.view_is
      (new_exactly c.self.inside.store c.args.clause.now (known_of c.mark_all.new.marks) w.has_within.result (some_literal c.args.clause.now (sym c.is_empty.ensures ∙ w.if-not-is_empty.true)) c.mark_all.ensures.marked w.has_within.ensures))
  | else-not-is_empty w ↦
      subst (λ r. (r ≡ true) ↔ IsNew c.args.self.now c.args.clause.now) (sym (w.result-is ∙ ap not (w.if-not-is_empty.false)))
      (never_new c.args.self.now c.args.clause.now (no_literal c.args.clause.now (sym c.is_empty.ensures ∙ w.if-not-is_empty.false)))
]
