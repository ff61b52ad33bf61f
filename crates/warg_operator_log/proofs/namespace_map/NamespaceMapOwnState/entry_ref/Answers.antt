use Rattle.std.proofs.Common.{ap}
use Rattle.std.specs.Prelude.{string_bytes}
use Rattle.warg_log_records.specs.OperatorEntries.{DefineNamespace, ImportNamespace, entry_data}
use Rattle.warg_operator_log.proofs.namespace_map.NamespaceMapOwnState.entry_ref.Goals as goal

pub returns-in-DefineNamespace : goal.returns-in-DefineNamespace
returns-in-DefineNamespace c = (DefineNamespace (string_bytes c.in-DefineNamespace.namespace), ap entry_data c.in-DefineNamespace.is)

pub returns-in-ImportNamespace : goal.returns-in-ImportNamespace
returns-in-ImportNamespace c = (ImportNamespace (string_bytes c.in-ImportNamespace.namespace) (string_bytes c.in-ImportNamespace.registry), ap entry_data c.in-ImportNamespace.is)
