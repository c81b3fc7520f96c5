use Rattle.defect_array.proofs.ReadLaws as laws
use Rattle.defect_array.proofs.laws.read_or_refused.Goals as goal

pub returns-clause-one_reading : goal.returns-clause-one_reading
returns-clause-one_reading c = laws.one_reading

pub returns-clause-one_refusal : goal.returns-clause-one_refusal
returns-clause-one_refusal c = laws.one_refusal

pub returns-clause-either : goal.returns-clause-either
returns-clause-either c = laws.either

pub returns-clause-never_both : goal.returns-clause-never_both
returns-clause-never_both c = laws.never_both
