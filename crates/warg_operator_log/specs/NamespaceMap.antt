-- What a map from names to namespaces says, as a list of names and what they are.
use Rattle.std.specs.Prelude.{◌≡◌, ℕ, List, map, string_bytes, true}
use Rattle.std.specs.List.{AllByRecursion}
use Rattle.std.specs.declared.string.String.{String}
use Rattle.warg_registry.specs.KebabNames.{is_kebab_name}
use Rattle.warg_operator_log.specs.Namespaces.{Namespace, Defined, Imported}
use Rattle.warg_operator_log.specs.declared.namespace.NamespaceState.{NamespaceState}
use Rattle.warg_operator_log.specs.declared.namespace.NamespaceState.TheVariants as state

-- a namespace, with its texts as bytes
abbrev pub namespace_view : NamespaceState → Namespace
namespace_view state.Defined = Defined
namespace_view (state.Imported registry) = Imported (string_bytes registry)

-- the entries of a map, in order
abbrev pub namespace_entries : {Z : Type 0} → List (String Z × NamespaceState) → List (List ℕ × Namespace)
namespace_entries es = map (λ e. (string_bytes e.0, namespace_view e.1)) es

-- each name is a kebab name
abbrev pub HasKebabNames : List (List ℕ × Namespace) → Type 0
HasKebabNames es = AllByRecursion (λ e. is_kebab_name e.0 ≡ true) es
