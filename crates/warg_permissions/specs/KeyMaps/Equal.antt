-- When two authorities hold the same.
use Rattle.std.specs.Prelude.{ℕ, List, Bool, ◌&&◌, true}
use Rattle.std.specs.Option.{option_eq}
use Rattle.std.specs.Str.{bytes_eq}
use Rattle.std.specs.HashMap.{entries_eq}
use Rattle.warg_crypto.specs.NamedBytes.{same_named_bytes}
use Rattle.warg_crypto.specs.declared.hash.HashAlgorithm.{HashAlgorithm}
use Rattle.warg_permissions.specs.PermissionSets.{same_sets}
use Rattle.warg_permissions.specs.KeyMaps.AuthorityData.{AuthorityData}

-- whether, at each key of either, the two have values that are alike
abbrev pub same_maps : {X : Type 0} → (X → X → Bool) → List (List ℕ × X) → List (List ℕ × X) → Bool
same_maps E es fs = entries_eq bytes_eq (λ p q. E p.1 q.1) es fs

-- there is one algorithm
abbrev pub same_algorithm : HashAlgorithm → HashAlgorithm → Bool
same_algorithm a b = true

-- whether two authorities have begun alike, and for each key id have the same entry of permissions and the same key
abbrev pub same_authority_data : {P : Type 0} → (P → P → Bool) → AuthorityData P → AuthorityData P → Bool
same_authority_data same c d = option_eq same_algorithm c.algorithm d.algorithm
    && (same_maps (same_sets same) c.rights d.rights && same_maps same_named_bytes c.keys d.keys)
