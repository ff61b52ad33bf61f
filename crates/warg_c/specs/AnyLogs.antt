-- What a handle holds: a log of a package, or one of operators.
use Rattle.std.specs.Prelude.{◌≡◌, ℕ, zero, suc, List, Option, Some, None, Result, Ok, Err}
use Rattle.warg_log.specs.States.{State}
use Rattle.warg_log_records.specs.Readings.{operator_reading, package_reading}
use Rattle.warg_operator_log.specs.Namespaces.{Namespace}
use Rattle.warg_operator_log.specs.StateLaws.{operator_log}
use Rattle.warg_package_log.specs.Releases.{ReleaseView}
use Rattle.warg_package_log.specs.StateLaws.{package_log}
use Rattle.warg_permissions.specs.KeyMaps.AuthorityData.{AuthorityData}
use Rattle.warg_permissions.specs.declared.operator.Permission as operator_permission
use Rattle.warg_permissions.specs.declared.package.Permission as package_permission
use Rattle.warg_c.specs.KeptWords as kept
use Rattle.warg_c.specs.Logs.{state_of}
use Rattle.warg_c.specs.declared.call_error.CallError.{CallError}
use Rattle.warg_c.specs.declared.call_error.CallError.TheVariants.{BadArgument}
use Rattle.warg_c.specs.declared.any_log.AnyLog.{AnyLog}
use Rattle.warg_c.specs.declared.any_log.AnyLog.TheVariants.{Package, Operator}
use Rattle.warg_c.specs.declared.any_log.LogKind.{LogKind}
use Rattle.warg_c.specs.declared.any_log.LogKind.TheVariants as kinds

-- the kind that a number names
abbrev pub kind_numbered : ℕ → Result LogKind CallError
kind_numbered zero = Ok kinds.Package
kind_numbered (suc zero) = Ok kinds.Operator
kind_numbered (suc (suc n)) = Err BadArgument

abbrev pub IsOfKind : LogKind → AnyLog → Type 0
IsOfKind kinds.Package (Package log) = Unit {0}
IsOfKind kinds.Package (Operator log) = ⊥
IsOfKind kinds.Operator (Package log) = ⊥
IsOfKind kinds.Operator (Operator log) = Unit {0}

-- the log is of the kind that the number names
abbrev pub IsOfNumber : ℕ → AnyLog → Type 0
IsOfNumber n held = (kind : LogKind) × (kind_numbered n ≡ Ok kind) × IsOfKind kind held

-- the number names no kind
abbrev pub IsNoKind : ℕ → Type 0
IsNoKind n = kind_numbered n ≡ Err BadArgument

-- the state of a package log
abbrev pub package_of : AnyLog → Option (State (AuthorityData package_permission.Permission) (List ReleaseView))
package_of (Package log) = Some (state_of log)
package_of (Operator log) = None

-- the state of an operator log
abbrev pub operator_of : AnyLog → Option (State (AuthorityData operator_permission.Permission) (List (List ℕ × Namespace)))
operator_of (Package log) = None
operator_of (Operator log) = Some (state_of log)

-- a log of no records
abbrev pub IsNew : AnyLog → Type 0
IsNew (Package log) = kept.IsFresh package_log package_reading log
IsNew (Operator log) = kept.IsFresh operator_log operator_reading log
