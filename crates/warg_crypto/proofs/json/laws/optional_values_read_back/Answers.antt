use Rattle.warg_crypto.specs.Json.Json.{IsReadBack}
use Rattle.warg_crypto.specs.Json.MemberLaws.{optional_reads_back}
use Rattle.warg_crypto.proofs.json.laws.optional_values_read_back.Goals as goal

pub returns : goal.returns
returns g c = λ o d e no_null own is. optional_reads_back g.T.JsonValue.writes g.T.JsonValue.reads (IsReadBack g.T.JsonValue.writes g.T.JsonValue.reads g.T.JsonValue.equivalent) g.T.JsonValue.equivalent (λ x d own is. own d is) e no_null o d own is
