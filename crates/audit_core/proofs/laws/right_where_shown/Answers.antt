use Rattle.audit_core.proofs.WrittenLaws.{right_sections, right_answers, adds_right}
use Rattle.audit_core.proofs.laws.right_where_shown.Goals as goal

pub returns-clause-sections : goal.returns-clause-sections
returns-clause-sections c = right_sections

pub returns-clause-answers : goal.returns-clause-answers
returns-clause-answers c = right_answers c.plainly.ensures.lattice

pub returns-clause-adds : goal.returns-clause-adds
returns-clause-adds c = adds_right c.plainly.ensures.lattice
