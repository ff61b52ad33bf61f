use Rattle.std.proofs.Common.{◌≡◌, codes, refl}
use Rattle.std.specs.Prelude.{Ok}
use Rattle.serde_json.specs.Data.{string}
use Rattle.warg_operator_log.specs.NamespaceJson.{namespace_json}
use Rattle.warg_operator_log.specs.NamespaceMap.{namespace_view}
use Rattle.warg_operator_log.proofs.namespace.json.write_namespace.Goals as goal

pub returns-in_ok-string-in-Defined : goal.returns-in_ok-string-in-Defined
returns-in_ok-string-in-Defined c =
    let is : namespace_json (namespace_view c.args.state.now) ≡ Ok (string (codes "defined")) = rw c.in-Defined.is refl in
    let put = c.in_ok-string-in-Defined.ensures in (string (codes "defined"), is, (put.room.0, put.ok))
