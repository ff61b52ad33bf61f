-- The key of a log that a word asks for.
use Rattle.std.specs.Prelude.{◌≡◌, ℕ, Bool, true, false, List}
use Rattle.tool_answers.specs.IdWords.{begins_as_said, is_id_word}

-- a log has a key of some ids
module _ (has_key : List ℕ → Bool) (word : List ℕ) where
  -- the word is the beginning of the id of a key of the log: eight digits of it, or more, in either case
  pub record IsBegun (key : List ℕ) : Type 0 where
    pub said : is_id_word word ≡ true
    pub known : has_key key ≡ true
    pub begins : begins_as_said word key ≡ true

  -- of this key's, and of no other's
  pub record IsOnlyBegun (key : List ℕ) : Type 0 where
    pub begun : IsBegun key
    pub only : (other : List ℕ) → IsBegun other → other ≡ key

  -- the key that the word asks for: that of this very id; where the log has none, the only one whose id begins so; else what the word says
  pub data IsAsked (key : List ℕ) : Type 0 where
    whole : has_key word ≡ true → key ≡ word → IsAsked key
    beginning : has_key word ≡ false → IsOnlyBegun key → IsAsked key
    neither : has_key word ≡ false → ((it : List ℕ) → IsOnlyBegun it → ⊥) → key ≡ word → IsAsked key
