use Rattle.audit_core.proofs.RenewedLaws.{is_one_renewal, is_own_renewal}
use Rattle.audit_core.proofs.laws.one_renewal.Goals as goal

pub returns-clause-one : goal.returns-clause-one
returns-clause-one c = is_one_renewal

pub returns-clause-own : goal.returns-clause-own
returns-clause-own c = is_own_renewal
