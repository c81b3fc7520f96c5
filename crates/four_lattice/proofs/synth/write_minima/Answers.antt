use Rattle.std.proofs.Common.{rules, ◌≤◌}
use Rattle.four_lattice.proofs.SynthLaws.{asked-of, heads-stopped, blocks-stopped, ends-stopped, answers-whole}
use Rattle.four_lattice.proofs.TrialLaws.{has-steps}
use Rattle.four_lattice.proofs.synth.write_minima.Goals as goal

pub returns-in_err-writer-clause-stopped : goal.returns-in_err-writer-clause-stopped
returns-in_err-writer-clause-stopped g c =
    let few : c.args.rails ≤ 1048575 = search rules in
    let st = heads-stopped _ c.args.output c.in_err-writer.field-0.0.fault _ _ _ _ (asked-of c.args.pla.now c.args.rails c.args.conflicts c.requires.pla few) c.requires.there c.in_err-writer.ensures.stopped in
    search (rules, st)

pub returns-in_err-tally-clause-stopped : goal.returns-in_err-tally-clause-stopped
returns-in_err-tally-clause-stopped g c =
    let few : c.args.rails ≤ 1048575 = search rules in
    let st = blocks-stopped _ c.args.output c.in_err-tally.field-0.0.fault _ _ _ _ _ _ (asked-of c.args.pla.now c.args.rails c.args.conflicts c.requires.pla few) c.in_ok-writer.ensures.heads
    c.in_err-tally.ensures.stopped in
    search (rules, st)

pub returns-in_err-journal-clause-stopped : goal.returns-in_err-journal-clause-stopped
returns-in_err-journal-clause-stopped g c =
    let few : c.args.rails ≤ 1048575 = search rules in
    let st = ends-stopped _ c.args.output c.in_ok-tally.tally c.in_err-journal.field-0.0.fault _ _ _ _ _ _ _ _ (asked-of c.args.pla.now c.args.rails c.args.conflicts c.requires.pla few) c.in_ok-writer.ensures.heads
    c.in_ok-tally.ensures.wrote c.in_err-journal.ensures.stopped in
    search (rules, st)

pub returns-clause-wrote : goal.returns-clause-wrote
returns-clause-wrote g c =
    let few : c.args.rails ≤ 1048575 = search rules in
    answers-whole _ c.args.output c.in_ok-tally.tally _ _ _ _ _ _ _ _ (asked-of c.args.pla.now c.args.rails c.args.conflicts c.requires.pla few) c.in_ok-writer.ensures.heads c.in_ok-tally.ensures.wrote c.in_ok-journal.ensures.ends

pub returns-clause-counted : goal.returns-clause-counted
returns-clause-counted g c = has-steps _ _ c.steps-steps.result (rw c.in_ok-tally.ensures.whole at c.steps-steps.ensures.spelled) c.in_ok-journal.ensures.ends.journal_gained
