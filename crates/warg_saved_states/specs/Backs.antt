-- When the pairs of a map, saved as an object, read back.
use Rattle.std.specs.Prelude.{ℕ, ◌≡◌, List, Result, Ok}
use Rattle.std.specs.List.{AllByRecursion}
use Rattle.serde_json.specs.Data.{Data}
use Rattle.warg_crypto.specs.declared.json.error.JsonError.{JsonError}
use Rattle.warg_crypto.specs.Json.Json.{AreReadBack, IsReadBack, Version}
use Rattle.warg_crypto.specs.Json.Pairs.{IsUniquePairs}

-- the texts of the versions that the pairs have, in names and in values, read back
abbrev pub AreVersionsBack : {K A : Type 0} → (K → List Version) → (A → List Version) → List (K × A) → Type 0
AreVersionsBack of_name of_value es = AllByRecursion (λ e. AreReadBack (of_name e.0) × AreReadBack (of_value e.1)) es

module _ {K A : Type 0} (name_of : K → List ℕ) (named : List ℕ → Result K JsonError)
    (writes : A → Result Data JsonError) (reads : Data → Result A JsonError) where
  -- the pair's name is read as it was, and so is its value
  pub record IsBack (e : K × A) : Type 0 where
    pub name : named (name_of e.0) ≡ Ok e.0
    pub value : IsReadBack writes reads (λ x y. x ≡ y) e.1

  -- so it is of each pair, and no two have one name
  pub record AreBack (es : List (K × A)) : Type 0 where
    pub each : AllByRecursion IsBack es
    pub unique : IsUniquePairs name_of es
