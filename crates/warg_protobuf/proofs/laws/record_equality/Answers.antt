use Rattle.warg_protobuf.proofs.Equalities.{fields_decided}
use Rattle.warg_protobuf.proofs.laws.record_equality.Goals as goal

pub returns : goal.returns
returns g c = λ a b. fields_decided g.L.PartialEq.eq a b (λ h. h, λ h. h)
