-- The names of a log's offences, and of the errors that say them.
use Rattle.std.specs.Prelude.{ℕ, List, codes, unwrap_or}
use Rattle.std.specs.Option.{option_map}
use Rattle.warg_permissions.specs.declared.operator.Permission.{Permission}
use Rattle.warg_log.specs.Rules.{LogOffence}
use Rattle.warg_log.specs.OffenceNames.{log_offence_name}
use Rattle.warg_operator_log.specs.Namespaces.{OwnOffence}
use Rattle.warg_operator_log.specs.Namespaces as own
use Rattle.warg_operator_log.specs.State.{offence_of}
use Rattle.warg_operator_log.specs.declared.error.ValidationError.{ValidationError}

-- those that this kind of log alone has
abbrev pub namespace_offence_name : OwnOffence → List ℕ
namespace_offence_name (own.InvalidNamespace name) = codes "InvalidNamespace"
namespace_offence_name (own.NamespaceAlreadyDefined name) = codes "NamespaceAlreadyDefined"

-- the name of any offence that an operator log may have
abbrev pub offence_name : LogOffence Permission OwnOffence → List ℕ
offence_name offence = log_offence_name namespace_offence_name offence

-- the name of an error: of the offence that it says, if it says one
abbrev pub error_name : ValidationError → List ℕ
error_name error = unwrap_or (option_map offence_name (offence_of error)) (codes "OutOfMemory")
