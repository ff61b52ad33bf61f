-- When two namespaces are the same, and when two lists of them are: by what they answer for each name.
use Rattle.std.specs.Prelude.{ℕ, List, Bool, true, false}
use Rattle.std.specs.Str.{bytes_eq}
use Rattle.warg_permissions.specs.KeyMaps.Equal.{same_maps}
use Rattle.warg_operator_log.specs.Namespaces.{Namespace, Defined, Imported}

-- whether both are defined, or both are imported from the same registry
abbrev pub same_namespace : Namespace → Namespace → Bool
same_namespace Defined Defined = true
same_namespace Defined (Imported registry) = false
same_namespace (Imported registry) Defined = false
same_namespace (Imported a) (Imported b) = bytes_eq a b

-- the same at each name of either list, in whatever order
abbrev pub same_namespaces : List (List ℕ × Namespace) → List (List ℕ × Namespace) → Bool
same_namespaces es fs = same_maps same_namespace es fs
