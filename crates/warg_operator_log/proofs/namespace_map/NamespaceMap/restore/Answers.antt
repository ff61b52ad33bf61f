use Rattle.std.specs.Prelude.{string_bytes}
use Rattle.warg_crypto.specs.Json.Pairs.{plain_pairs}
use Rattle.warg_operator_log.specs.NamespaceMap.{namespace_view}
use Rattle.warg_operator_log.proofs.SavedNamespaces.{kebab_names}
use Rattle.warg_operator_log.proofs.namespace_map.NamespaceMap.restore.Goals as goal

pub invariant_of-result : goal.invariant_of-result
invariant_of-result c = kebab_names (plain_pairs string_bytes namespace_view c.args.namespaces.entries) c.requires
