-- The JSON of a namespace is canonical.
use Rattle.std.specs.Prelude.{codes}
use Rattle.serde_json.specs.Data.{Members, no_members, object, put, string}
use Rattle.warg_crypto.specs.Json.Json.{json_result}
use Rattle.warg_crypto.specs.Json.Members.{put_json}
use Rattle.warg_saved_states.specs.Canonical.{WritesCanonical, value_depth}
use Rattle.warg_saved_states.specs.CanonicalLaws.{member_canonical, none_canonical, put_canonical, then_canonical}
use Rattle.warg_operator_log.specs.NamespaceJson.{namespace_json, saved_namespace_json}
use Rattle.warg_operator_log.specs.Namespaces.{Namespace, Defined, Imported}

state_canonical : (n : Namespace) → WritesCanonical 124 (namespace_json n)
state_canonical Defined = tt
state_canonical (Imported registry) =
    let imported : Members = put (codes "registry") (string registry) no_members in
    put_canonical 123 (codes "imported") (object imported) no_members
    (put_canonical 122 (codes "registry") (string registry) no_members tt (none_canonical 122)) (none_canonical 123)

pub namespace_canonical : (n : Namespace) → WritesCanonical value_depth (saved_namespace_json n)
namespace_canonical n =
    then_canonical 125 (put_json namespace_json (codes "state") n no_members) (λ ms. json_result (object ms))
    (member_canonical 124 namespace_json (codes "state") n no_members (state_canonical n) (none_canonical 124)) (λ ms m. m)
