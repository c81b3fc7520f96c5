use Rattle.std.proofs.Common.{◌++◌, arith}
use Rattle.lrat_replay.specs.Marks.{known_of}
use Rattle.lrat_replay.proofs.ListsLaws.{none_of_more, none_within, none_exactly}
use Rattle.lrat_replay.proofs.subset.some_within.Goals as goal

pub loop-lit-preserved : goal.loop-lit-preserved
loop-lit-preserved c =
    none_of_more (known_of c.args.marks.now) (c.args.formula.now.clauses ++ c.args.steps.now) c.args.clause.now c.loop-lit.lit-index c.lit-item.result c.code.result c.loop-lit-test.true c.lit-item.is c.code.ensures
    (c.some_listed-in-loop-lit.ensures.none c.if-some_listed-2.false) c.loop-lit.invariant

pub returns : goal.returns
returns c =
    let known = known_of c.args.marks.now in
    let clauses = c.args.formula.now.clauses ++ c.args.steps.now in
    none_exactly known clauses (none_within known clauses c.args.clause.now c.loop-lit.lit-index c.requires.marked (omega (arith, c.loop-lit-test.false)) (c.some_listed.ensures.none c.if-some_listed.false) c.loop-lit.invariant)
