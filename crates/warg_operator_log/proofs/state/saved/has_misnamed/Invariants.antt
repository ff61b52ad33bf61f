use Rattle.std.proofs.Common.{◌≡◌, string_bytes}
use Rattle.std.specs.List.{list_any}
use Rattle.warg_crypto.specs.Json.Pairs.{plain_pairs}
use Rattle.warg_operator_log.specs.NamespaceMap.{namespace_view}
use Rattle.warg_operator_log.specs.SavedState.{is_misnamed}
use Rattle.warg_operator_log.proofs.state.saved.has_misnamed.Given as goal

abbrev pub invariant-namespaces : goal.invariant-namespaces
invariant-namespaces l = list_any is_misnamed (plain_pairs string_bytes namespace_view l.name-iterator) ≡ list_any is_misnamed (plain_pairs string_bytes namespace_view l.fn.namespaces.entries)
