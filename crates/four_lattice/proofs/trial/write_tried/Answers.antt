use Rattle.std.proofs.Common.{rules}
use Rattle.pla_reader.specs.Parts.{parts_of}
use Rattle.four_lattice.proofs.TrialLaws.{tried-whole, tried-early, tried-line}
use Rattle.four_lattice.proofs.trial.write_tried.Goals as goal

pub returns-in_err-tally-clause-stopped : goal.returns-in_err-tally-clause-stopped
returns-in_err-tally-clause-stopped g c =
    let st = tried-early c.args.number c.args.conflicts (parts_of c.args.pla.now) c.in_err-tally.field-0.0.fault _ _ (rw c.all.ensures.bits at c.in_err-tally.ensures.stopped) in
    search (rules, st)

pub returns-then-is_err-clause-stopped : goal.returns-then-is_err-clause-stopped
returns-then-is_err-clause-stopped g c =
    tried-line c.args.number c.args.conflicts (parts_of c.args.pla.now) c.in_ok-tally.tally c.in_ok-tally.steps _ _ _ _ _ c.requires.empty (rw c.all.ensures.bits at c.in_ok-tally.ensures.wrote) c.in_ok-tally.ensures.counted
    c.write_summary.ensures.front c.write_summary.ensures.cause.later (search rules)

pub returns-clause-wrote : goal.returns-clause-wrote
returns-clause-wrote g c =
    tried-whole c.args.number c.args.conflicts (parts_of c.args.pla.now) c.in_ok-tally.tally c.in_ok-tally.steps _ _ _ _ _ c.requires.empty (rw c.all.ensures.bits at c.in_ok-tally.ensures.wrote) c.in_ok-tally.ensures.counted
    (search rules) c.write_summary.ensures.cause.later
