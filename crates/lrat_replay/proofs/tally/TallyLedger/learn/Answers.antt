use Rattle.std.proofs.Common.{◌∙◌, sym, arith}
use Rattle.lrat_replay.proofs.TallyLaws.{fits, added, kept}
use Rattle.lrat_replay.proofs.tally.TallyLedger.learn.Goals as goal

pub overflow_add-self : goal.overflow_add-self
overflow_add-self g c =
    let f = fits (g.L.Ledger.book c.args.self.now.inner) (g.L.Ledger.book c.learn-result.new.self) c.args.id c.args.clause.now c.args.hints.now c.args.self.now.count c.requires.accepted c.learn-result.ensures.either c.args.self.now.exact c.args.self.now.few in omega arith

pub invariant_of-self : goal.invariant_of-self
invariant_of-self g c =
    let r = added (g.L.Ledger.book c.args.self.now.inner) (g.L.Ledger.book c.learn-result.new.self) c.args.id c.args.clause.now c.args.hints.now c.args.self.now.count c.requires.accepted c.learn-result.ensures.either c.args.self.now.exact c.args.self.now.few (sym c.last_id.ensures ∙ c.if-last_id-id.true) in record { exact = r.0; few = r.1 }

pub invariant_of-self-else-last_id-id : goal.invariant_of-self-else-last_id-id
invariant_of-self-else-last_id-id g c =
    let r = kept (g.L.Ledger.book c.args.self.now.inner) (g.L.Ledger.book c.learn-result.new.self) c.args.id c.args.clause.now c.args.hints.now c.args.self.now.count c.requires.accepted c.learn-result.ensures.either c.args.self.now.exact c.args.self.now.few (λ e. c.if-last_id-id.false (c.last_id.ensures ∙ e)) in record { exact = r.0; few = r.1 }
