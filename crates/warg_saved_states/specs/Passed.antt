-- What follows a value of a text, read as `serde_json` reads it.
use Rattle.std.specs.Prelude.{ℕ, List, length, Option, option_map}
use Rattle.json.specs.Token.{Token}
use Rattle.json.specs.Json.{items, members, value}
use Rattle.serde_json.specs.Data.{no_members}
use Rattle.serde_json.specs.Read.{converted, of_items, of_json, of_members}

-- the tokens behind what was read
abbrev pub behind : {A : Type 0} → Option (A × List Token) → Option (List Token)
behind r = option_map (λ p. p.1) r

-- behind the value that comes first, whose arrays and objects may nest that deep
abbrev pub passed : ℕ → List Token → Option (List Token)
passed depth ts = behind (converted of_json (value depth ts))

-- behind the items that come first, and the end of their array
abbrev pub passed_items : ℕ → List Token → Option (List Token)
passed_items depth ts = behind (converted of_items (items (value depth) (length ts) ts))

-- behind the members that come first, and the end of their object
abbrev pub passed_members : ℕ → List Token → Option (List Token)
passed_members depth ts = behind (converted (λ js. of_members js no_members) (members (value depth) (length ts) ts))
