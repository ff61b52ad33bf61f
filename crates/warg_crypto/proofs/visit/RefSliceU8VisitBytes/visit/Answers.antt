use Rattle.warg_crypto.proofs.Visits.{stops_at_once}
use Rattle.warg_crypto.proofs.visit.RefSliceU8VisitBytes.visit.Goals as goal

pub returns-clause-err : goal.returns-clause-err
returns-clause-err g c = stops_at_once _ _ _ _ c.args.self.now.now c.visit_bytes.result c.visit_bytes.ensures.same c.visit_bytes.ensures.refused
