use Rattle.warg_crypto.proofs.Visits.{on_err, on_err-map, stops_first, stops_second}
use Rattle.warg_crypto.proofs.prefix.PrefixEncodeVisitor.visit_str.Goals as goal

pub returns-in_err-visit_unsigned-clause-err : goal.returns-in_err-visit_unsigned-clause-err
returns-in_err-visit_unsigned-clause-err g c =
    on_err c.from_residual.result (stops_first _ _ _ _ _ _ c.in_err-visit_unsigned.ensures.err)

pub returns-clause-err : goal.returns-clause-err
returns-clause-err g c =
    on_err-map c.visit_str_raw.result (stops_second _ _ _ _ _ _ _ c.in_ok-visit_unsigned.ensures.ok) c.visit_str_raw.ensures.err
