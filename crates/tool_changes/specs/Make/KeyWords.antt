-- Whom a word names.
use Rattle.std.specs.Prelude.{◌≡◌, ◌≢◌, ◌⊎◌, ℕ, List, Ok, codes}
use Rattle.warg_crypto.specs.Keys.{public_key_of}
use Rattle.warg_crypto.specs.NamedBytes.{IsName, NamedBytes, fingerprint_of}

-- the toy scheme's key of a name
abbrev pub toy_key : List ℕ → NamedBytes
toy_key name = record { name = codes "toy"; bytes = name }

-- a name without a colon is of a toy key, and another word is a key's text; that of an id, which begins with its hash's name, is none
abbrev pub IsKeyOf : List ℕ → NamedBytes → Type 0
IsKeyOf word key = (IsName word × (key ≡ toy_key word)) ⊎ ((public_key_of word ≡ Ok key) × (key.name ≢ codes "sha256"))

-- a name without a colon is of the id of a toy key, and another word is the id itself
pub record IsIdOf (word id : List ℕ) : Type 0 where
  pub named : IsName word → id ≡ fingerprint_of (toy_key word)
  pub itself : (IsName word → ⊥) → id ≡ word
