use Rattle.warg_crypto.specs.Prefix.{unsigned_of}
use Rattle.warg_crypto.proofs.Visits.{stops_at_once}
use Rattle.warg_crypto.proofs.prefix.PrefixEncodeVisitor.visit_unsigned.Goals as goal

pub returns-clause-err : goal.returns-clause-err
returns-clause-err g c = stops_at_once _ _ _ _ (unsigned_of c.args.number) c.visit_bytes.result c.visit_bytes.ensures.same (rw (← c.unsigned_bytes.ensures) c.visit_bytes.ensures.refused)
