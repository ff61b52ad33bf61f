use Rattle.warg_crypto.proofs.Visits.{stops_at_once}
use Rattle.warg_crypto.proofs.prefix.PrefixEncodeVisitor.visit_str_raw.Goals as goal

pub returns-clause-err : goal.returns-clause-err
returns-clause-err g c = stops_at_once _ _ _ _ c.args.text.now c.visit_bytes.result c.visit_bytes.ensures.same (rw (← c.as_bytes.ensures.value) c.visit_bytes.ensures.refused)
