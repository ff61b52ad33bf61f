-- Names of keys.
use Rattle.std.specs.Prelude.{ℕ, if◌then◌else◌, List, [], ◌∷◌, Option, Some, None}
use Rattle.std.specs.List.{AllByRecursion}
use Rattle.std.specs.Str.{bytes_eq}
use Rattle.warg_printable.specs.Printable.{IsPrintable}

-- a name, and the id of the key that has it
pub record KeyName : Type 0 where
  pub id : List ℕ
  pub name : List ℕ

-- the first name of the key of an id, if it has one
abbrev pub name_of : List KeyName → List ℕ → Option (List ℕ)
name_of [] id = None
name_of (it ∷ more) id = if bytes_eq it.id id then Some it.name else name_of more id

-- no hidden character stands in a name
abbrev pub ArePrintable : List KeyName → Type 0
ArePrintable names = AllByRecursion (λ (it : KeyName). IsPrintable it.name) names
