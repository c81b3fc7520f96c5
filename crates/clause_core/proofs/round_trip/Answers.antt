use Rattle.clause_core.proofs.RoundTrip.{round_trip}
use Rattle.clause_core.proofs.round_trip.Goals as goal

pub returns : goal.returns
returns c = round_trip
