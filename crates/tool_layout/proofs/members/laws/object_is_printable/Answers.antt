use Rattle.warg_printable.proofs.LineLemmas.{one_shown}
use Rattle.warg_printable.specs.Json.{json_printable}
use Rattle.warg_printable.proofs.JsonLemmas.{json_shown}
use Rattle.tool_layout.specs.Members.Objects.{object_json}
use Rattle.tool_layout.proofs.members.laws.object_is_printable.Goals as goal

pub returns : goal.returns
returns c = λ command members status.
    one_shown (json_printable (object_json command members status)) (json_shown (object_json command members status))
