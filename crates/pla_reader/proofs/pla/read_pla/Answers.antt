use Rattle.pla_reader.specs.Parts.{parts_of}
use Rattle.pla_reader.proofs.AnswersLaws.{value_only, refusal_only, long_only}
use Rattle.pla_reader.proofs.pla.read_pla.Goals as goal

pub returns-clause-only_value : goal.returns-clause-only_value
returns-clause-only_value c = value_only parts_of _ c.read_text.result c.read_text.ensures.found c.read_text.ensures.refused

pub returns-clause-only_refusal : goal.returns-clause-only_refusal
returns-clause-only_refusal c = refusal_only parts_of _ c.read_text.result c.read_text.ensures.found c.read_text.ensures.refused

pub returns-clause-too_long : goal.returns-clause-too_long
returns-clause-too_long c = long_only _ c.read_text.result c.read_text.ensures.refused c.read_text.ensures.too_long
