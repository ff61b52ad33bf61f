-- Namespaces as bytes.
use Rattle.std.specs.Prelude.{◌≡◌, ℕ, List, [], Option, Some, None, IsSome}
use Rattle.std.specs.Str.{IsUtf8}
use Rattle.warg_operator_log.specs.Namespaces.{Namespace, Defined, Imported}
use Rattle.warg_operator_log.specs.State.{view_of}
use Rattle.warg_c.specs.declared.any_log.AnyLog.{AnyLog}
use Rattle.warg_c.specs.declared.any_log.AnyLog.TheVariants.{Package, Operator}
use Rattle.warg_c.specs.Logs.{state_of}

-- 0 and no text of a namespace that is defined, 1 and the registry's name of one that is imported
abbrev pub NamespaceIs : Option Namespace → ℕ → List ℕ → Type 0
NamespaceIs (Some Defined) n text = (n ≡ 0) × (text ≡ [])
NamespaceIs (Some (Imported registry)) n text = (n ≡ 1) × (text ≡ registry)
NamespaceIs None n text = ⊥

abbrev pub namespace_tells : AnyLog → List ℕ → ℕ → List ℕ → Type 0
namespace_tells (Package log) name n text = ⊥
namespace_tells (Operator log) name n text = NamespaceIs ((view_of (state_of log)).state.own_state name) n text

-- the log has such a namespace
abbrev pub namespace_takes : AnyLog → List ℕ → Type 0
namespace_takes (Package log) name = ⊥
namespace_takes (Operator log) name = IsSome ((view_of (state_of log)).state.own_state name)

abbrev pub namespace_lacks : AnyLog → List ℕ → Type 0
namespace_lacks (Package log) name = ⊥
namespace_lacks (Operator log) name = (view_of (state_of log)).state.own_state name ≡ None

-- the name is no text, or the log is of a package
abbrev pub namespace_bad : AnyLog → List ℕ → Type 0
namespace_bad (Package log) name = Unit {0}
namespace_bad (Operator log) name = IsUtf8 name → ⊥
