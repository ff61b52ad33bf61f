-- Kebab names and package names.
use Rattle.std.specs.Prelude.{◌≡◌, ◌<◌, ◌==◌, ◌&&◌, ◌||◌, not, ℕ, nat_le, Bool, true, false, List, [], ◌∷◌, ◌++◌, length, if◌then◌else◌}
use Rattle.std.specs.List.{list_all, join_with_byte, before_first, after_first, position_or_len}

-- a letter a to z
abbrev pub is_letter : ℕ → Bool
is_letter b = nat_le 97 b && nat_le b 122

-- a letter a to z, or a digit 0 to 9
abbrev pub is_letter_or_digit : ℕ → Bool
is_letter_or_digit b = is_letter b || (nat_le 48 b && nat_le b 57)

-- a word: a letter, then letters and digits
pub record IsWord (word : List ℕ) : Type 0 where
  pub first : ℕ
  pub others : List ℕ
  pub parts : word ≡ first ∷ others
  pub letter : is_letter first ≡ true
  pub rest : list_all is_letter_or_digit others ≡ true

-- each of them is a word
abbrev pub AreWords : List (List ℕ) → Type 0
AreWords [] = Unit {0}
AreWords (word ∷ words) = IsWord word × AreWords words

-- a kebab name: one word or more, joined by single hyphens
pub record IsKebabName (name : List ℕ) : Type 0 where
  pub words : List (List ℕ)
  pub some : 0 < length words
  pub each : AreWords words
  pub joined : name ≡ join_with_byte 45 words

-- a package name: namespace, colon, name, both kebab names (which hold no colon, so there is one way to cut)
pub record IsPackageName (text namespace name : List ℕ) : Type 0 where
  pub parts : text ≡ namespace ++ 58 ∷ name
  pub namespace_is : IsKebabName namespace
  pub name_is : IsKebabName name

-- whether the bytes end a kebab name, where a word starts with them or goes on: what is computed
abbrev pub ends_kebab : Bool → List ℕ → Bool
ends_kebab starts [] = not starts
ends_kebab true (b ∷ bs) = is_letter b && ends_kebab false bs
ends_kebab false (b ∷ bs) = if b == 45 then ends_kebab true bs else is_letter_or_digit b && ends_kebab false bs

-- whether the bytes are a kebab name
abbrev pub is_kebab_name : List ℕ → Bool
is_kebab_name bs = ends_kebab true bs

-- whether the byte is a colon
abbrev pub is_colon : ℕ → Bool
is_colon b = b == 58

-- what stands in front of the colon
abbrev pub namespace_of : List ℕ → List ℕ
namespace_of text = before_first is_colon text

-- what stands behind the colon
abbrev pub name_of : List ℕ → List ℕ
name_of text = after_first is_colon text

-- whether the text is a package name: what is computed
abbrev pub is_package_name : List ℕ → Bool
is_package_name text = not (position_or_len is_colon text == length text) && (is_kebab_name (namespace_of text) && is_kebab_name (name_of text))

-- the text is a package name
abbrev pub IsPackageText : List ℕ → Type 0
IsPackageText text = (namespace : List ℕ) × (name : List ℕ) × IsPackageName text namespace name
