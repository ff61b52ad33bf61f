use Rattle.warg_crypto.proofs.Visits.{on_err, on_err-map, stops_first, stops_second}
use Rattle.warg_crypto.proofs.visit.Tuple2VisitBytes.visit.Goals as goal

pub returns-in_err-visit-clause-err : goal.returns-in_err-visit-clause-err
returns-in_err-visit-clause-err g c =
    on_err c.from_residual.result (stops_first _ _ _ _ _ _ c.in_err-visit.ensures.err)

pub returns-clause-err : goal.returns-clause-err
returns-clause-err g c =
    on_err-map c.visit-2.result (stops_second _ _ _ _ _ _ _ c.in_ok-visit.ensures.ok) c.visit-2.ensures.err
