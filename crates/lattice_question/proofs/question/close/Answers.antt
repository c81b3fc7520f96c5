use Rattle.journal_text.specs.Origin.{origin_of}
use Rattle.lattice_question.proofs.Closing.{satisfied_so, spent_so, none_so}
use Rattle.lattice_question.proofs.question.close.Goals as goal

pub returns-in_ok-grid-in-Satisfied-clause-closed : goal.returns-in_ok-grid-in-Satisfied-clause-closed
returns-in_ok-grid-in-Satisfied-clause-closed g c =
    satisfied_so c.args.rails c.args.spec.now c.args.budget c.args.target.now c.args.section.book.formula c.requires.formula (g.K.Sink.got c.in_ok-grid-in-Satisfied.writer.sink) (origin_of (g.K.Sink.got c.args.section.sink)) c.in_ok-grid-in-Satisfied.grid
    c.in_ok-grid-in-Satisfied.ensures.closed

pub returns-in_ok-steps-in-Refuted-clause-so : goal.returns-in_ok-steps-in-Refuted-clause-so
returns-in_ok-steps-in-Refuted-clause-so g c =
    let none = (rw c.in-Refuted.is at c.requires.verdict).1 in
    (none_so c.solved.ensures.lattices c.args.spec.now c.args.rails c.args.target.now c.args.section.book.formula c.requires.question c.requires.formula none, c.in_ok-steps-in-Refuted.ensures.some, c.in_ok-steps-in-Refuted.ensures.few)

pub returns-in_ok-close_spent-in-Spent-clause-closed : goal.returns-in_ok-close_spent-in-Spent-clause-closed
returns-in_ok-close_spent-in-Spent-clause-closed g c =
    spent_so c.args.rails c.args.spec.now c.args.budget c.args.target.now c.args.section.book.formula c.requires.formula (g.K.Sink.got c.in_ok-close_spent-in-Spent.field-0.sink) (origin_of (g.K.Sink.got c.args.section.sink)) c.requires.budget
    c.in_ok-close_spent-in-Spent.ensures.closed
