use Rattle.warg_crypto.proofs.Visits.{stops_at_once}
use Rattle.warg_registry.proofs.log_id.LogIdVisitBytes.visit.Goals as goal

pub returns-clause-err : goal.returns-clause-err
returns-clause-err g c = rw (← c.bytes.ensures.value) (stops_at_once _ _ _ _ c.bytes.result.now c.visit_bytes.result c.visit_bytes.ensures.same c.visit_bytes.ensures.refused)
