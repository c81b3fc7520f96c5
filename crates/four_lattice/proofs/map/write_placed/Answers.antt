use Rattle.std.proofs.Common.{rules, Some}
use Rattle.four_lattice.proofs.SynthLaws.{asked_on-of, heads-stopped, blocks-stopped, ends-stopped, answers-whole, wrote-one, stopped-one}
use Rattle.four_lattice.proofs.map.write_placed.Goals as goal

pub returns-in_err-writer-clause-stopped : goal.returns-in_err-writer-clause-stopped
returns-in_err-writer-clause-stopped g c =
    let h = asked_on-of c.args.pla.now c.args.array c.args.conflicts c.requires.pla in
    let st = heads-stopped _ (Some c.args.output) c.in_err-writer.field-0.0.fault _ _ _ _ h c.requires.there (rw c.all.ensures.bits at c.in_err-writer.ensures.stopped) in
    search (rules, st)

pub returns-in_err-tally-clause-stopped : goal.returns-in_err-tally-clause-stopped
returns-in_err-tally-clause-stopped g c =
    let h = asked_on-of c.args.pla.now c.args.array c.args.conflicts c.requires.pla in
    let heads = rw c.all.ensures.bits at c.in_ok-writer.ensures.heads in
    let st = blocks-stopped _ (Some c.args.output) c.in_err-tally.field-0.0.fault _ _ _ _ _ _ h heads (stopped-one _ c.args.output _ _ _ _ _ h c.in_err-tally.ensures.stopped) in
    search (rules, st)

pub returns-in_err-journal-clause-stopped : goal.returns-in_err-journal-clause-stopped
returns-in_err-journal-clause-stopped g c =
    let h = asked_on-of c.args.pla.now c.args.array c.args.conflicts c.requires.pla in
    let heads = rw c.all.ensures.bits at c.in_ok-writer.ensures.heads in
    let st = ends-stopped _ (Some c.args.output) c.in_ok-tally.tally c.in_err-journal.field-0.0.fault _ _ _ _ _ _ _ _ h heads (wrote-one c.right_where_shown.ensures.adds _ c.args.output _ _ _ _ _ c.requires.pla c.in_ok-tally.ensures.wrote) c.in_err-journal.ensures.stopped in
    search (rules, st)

pub returns-clause-wrote : goal.returns-clause-wrote
returns-clause-wrote g c =
    let h = asked_on-of c.args.pla.now c.args.array c.args.conflicts c.requires.pla in
    let heads = rw c.all.ensures.bits at c.in_ok-writer.ensures.heads in
    answers-whole _ (Some c.args.output) c.in_ok-tally.tally _ _ _ _ _ _ _ _ h heads (wrote-one c.right_where_shown.ensures.adds _ c.args.output _ _ _ _ _ c.requires.pla c.in_ok-tally.ensures.wrote) c.in_ok-journal.ensures.ends
