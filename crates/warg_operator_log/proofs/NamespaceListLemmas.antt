-- The namespaces of a log, listed.
use Rattle.std.proofs.Common.{◌≡◌, ℕ, Bool, false, List, [], ◌∷◌, map, string_bytes, refl, sym, ap, subst}
use Rattle.std.specs.List.{AllByRecursion, IsDistinct}
use Rattle.std.specs.Map.{keys_of}
use Rattle.std.specs.Str.{bytes_eq}
use Rattle.std.specs.declared.string.String.{String}
use Rattle.warg_operator_log.specs.NamespaceMap.{namespace_entries}
use Rattle.warg_operator_log.specs.declared.namespace.NamespaceState.{NamespaceState}

module _ {Z : Type 0} where
  apart : (x : String Z) (es : List (String Z × NamespaceState)) → AllByRecursion (λ y. bytes_eq (string_bytes x) (string_bytes y) ≡ false) (keys_of es) → AllByRecursion (λ y. bytes_eq (string_bytes x) y ≡ false) (keys_of (namespace_entries es))
  apart x [] h = tt
  apart x (e ∷ es) h = (h.0, apart x es h.1)

  -- texts that differ are different names
  pub distinct_names : (es : List (String Z × NamespaceState)) → IsDistinct (λ x y. bytes_eq (string_bytes x) (string_bytes y)) (keys_of es) → IsDistinct bytes_eq (keys_of (namespace_entries es))
  unfolding IsDistinct
  distinct_names [] h = tt
  distinct_names (e ∷ es) h = (apart e.0 es h.0, distinct_names es h.1)
