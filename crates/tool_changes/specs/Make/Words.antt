-- The words of a text: those of an entry, between single spaces, and those between white space.
use Rattle.std.specs.Prelude.{◌≡◌, ◌<◌, ◌==◌, ℕ, Bool, List, [], ◌∷◌, ◌++◌, length}
use Rattle.std.specs.Char.{is_not_whitespace, is_whitespace}
use Rattle.std.specs.List.{AllZip, after_first, before_first, position_or_len}
use Rattle.std.specs.Str.{EmptyOrStartsWithPassing, NoCharPasses}

-- ---- between single spaces

-- whether the byte is a space
abbrev pub is_space : ℕ → Bool
is_space b = b == 32

-- whether no space stands in the text
abbrev pub has_no_space : List ℕ → Bool
has_no_space text = position_or_len is_space text == length text

-- what stands before the first space: all, where there is none
abbrev pub first_word : List ℕ → List ℕ
first_word text = before_first is_space text

-- what stands behind the first space: nothing, where there is none
abbrev pub behind_word : List ℕ → List ℕ
behind_word text = after_first is_space text

-- ---- between white space

-- the word is the first of the text, and the rest is left behind it
pub record IsNextWord (text word rest : List ℕ) : Type 0 where
  pub gap : List ℕ
  pub parts : text ≡ gap ++ (word ++ rest)
  pub some : 0 < length word
  pub blank : NoCharPasses is_not_whitespace gap
  pub solid : NoCharPasses is_whitespace word
  pub ends : (more : List ℕ) × EmptyOrStartsWithPassing is_whitespace rest more

-- the text has a word
abbrev pub HasWord : List ℕ → Type 0
HasWord text = (word : List ℕ) × (rest : List ℕ) × IsNextWord text word rest

-- the words are the first of the text, in order, and the rest is left behind them
abbrev pub AreFirstWords : List ℕ → List (List ℕ) → List ℕ → Type 0
AreFirstWords text [] rest = text ≡ rest
AreFirstWords text (word ∷ more) rest = (next : List ℕ) × IsNextWord text word next × AreFirstWords next more rest

module _ {P : Type 0} (Names : List ℕ → P → Type 0) (text : List ℕ) where
  -- the words of the text name the items, one each, in order
  pub record AreNamed (items : List P) : Type 0 where
    pub words : List (List ℕ)
    pub rest : List ℕ
    pub first : AreFirstWords text words rest
    pub all : NoCharPasses is_not_whitespace rest
    pub names : AllZip Names words items

-- a word of the text is unknown
pub record HasUnknown (IsUnknown : List ℕ → Type 0) (text : List ℕ) : Type 0 where
  pub words : List (List ℕ)
  pub word : List ℕ
  pub rest : List ℕ
  pub first : AreFirstWords text (words ++ word ∷ []) rest
  pub unknown : IsUnknown word
