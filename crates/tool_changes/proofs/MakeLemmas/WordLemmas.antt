-- The words of a text, one after another.
use Rattle.std.proofs.Common.{◌≡◌, ◌≤◌, ◌<◌, ◌+◌, ℕ, true, false, List, [], ◌∷◌, ◌++◌, length, refl, sym, subst, arith}
use Rattle.std.specs.Char.{is_not_whitespace}
use Rattle.std.specs.List.{AllZip, position_or_len}
use Rattle.std.specs.Str.{NoCharPasses}
use Rattle.std.proofs.lemmas.Bool.{eq-eqb}
use Rattle.std.proofs.lemmas.List.{drop_all, take_all}
use Rattle.tool_changes.specs.Make.Words.{AreFirstWords, AreNamed, HasUnknown, IsNextWord, behind_word, first_word, has_no_space, is_space}

-- ---- a text with no space, and with one

pub a_space : (text : List ℕ) → position_or_len is_space text < length text → has_no_space text ≡ false
a_space text h = grind arith

pub no_space : (text : List ℕ) → position_or_len is_space text ≡ length text → has_no_space text ≡ true
no_space text e = eq-eqb (position_or_len is_space text) (length text) e

pub whole_word : (text : List ℕ) → position_or_len is_space text ≡ length text → text ≡ first_word text
whole_word text e =
    let long : length text ≤ position_or_len is_space text = omega arith in sym (take_all (position_or_len is_space text) text long)

pub no_rest : (text : List ℕ) → position_or_len is_space text ≡ length text → [] ≡ behind_word text
no_rest text e =
    let long : length text ≤ position_or_len is_space text + 1 = omega arith in sym (drop_all (position_or_len is_space text + 1) text long)

-- ---- words between white space

first_more : (text : List ℕ) (words : List (List ℕ)) (rest word next : List ℕ) → AreFirstWords text words rest → IsNextWord rest word next
    → AreFirstWords text (words ++ word ∷ []) next
first_more text [] rest word next e is = (next, subst (λ (from : List ℕ). IsNextWord from word next) (sym e) is, refl)
first_more text (first ∷ words) rest word next h is = (h.0, h.1, first_more h.0 words rest word next h.2 is)

pub zip_more : {A B : Type 0} (R : A → B → Type 0) (xs : List A) (ys : List B) (x : A) (y : B) → AllZip R xs ys → R x y
    → AllZip R (xs ++ x ∷ []) (ys ++ y ∷ [])
zip_more R [] [] x y h r = (r, tt)
zip_more R [] (b ∷ ys) x y h r = absurd h
zip_more R (a ∷ xs) [] x y h r = absurd h
zip_more R (a ∷ xs) (b ∷ ys) x y h r = (h.0, zip_more R xs ys x y h.1 r)

-- words for others
pub zip_to : {A B : Type 0} (R S : A → B → Type 0) → ((x : A) (y : B) → R x y → S x y) → (xs : List A) (ys : List B) → AllZip R xs ys → AllZip S xs ys
zip_to R S f [] [] h = tt
zip_to R S f [] (y ∷ ys) h = absurd h
zip_to R S f (x ∷ xs) [] h = absurd h
zip_to R S f (x ∷ xs) (y ∷ ys) h = (f x y h.0, zip_to R S f xs ys h.1)

-- the words so far name the items, and the rest is left
pub record IsNamedTo {P : Type 0} (Names : List ℕ → P → Type 0) (text rest : List ℕ) (items : List P) : Type 0 where
  pub words : List (List ℕ)
  pub first : AreFirstWords text words rest
  pub names : AllZip Names words items

module _ {P : Type 0} (Names : List ℕ → P → Type 0) (text : List ℕ) where
  pub none_named : (rest : List ℕ) → text ≡ rest → IsNamedTo Names text rest []
  none_named rest e = record { words = []; first = e; names = tt }

  pub one_named : (rest word next : List ℕ) (items : List P) (item : P) → IsNamedTo Names text rest items → IsNextWord rest word next
      → Names word item → IsNamedTo Names text next (items ++ item ∷ [])
  one_named rest word next items item it is named = record {
    words = it.words ++ word ∷ [];
    first = first_more text it.words rest word next it.first is;
    names = zip_more Names it.words items word item it.names named;
  }

  pub all_named : (rest : List ℕ) (items : List P) → IsNamedTo Names text rest items → NoCharPasses is_not_whitespace rest → AreNamed Names text items
  all_named rest items it blank = record { words = it.words; rest = rest; first = it.first; all = blank; names = it.names }

  pub one_unknown : (IsUnknown : List ℕ → Type 0) (rest word next : List ℕ) (items : List P) → IsNamedTo Names text rest items
      → IsNextWord rest word next → IsUnknown word → HasUnknown IsUnknown text
  one_unknown IsUnknown rest word next items it is unknown =
      record { words = it.words; word = word; rest = next; first = first_more text it.words rest word next it.first is; unknown = unknown }

-- names of one kind are names of another
pub named_to : {P : Type 0} (Names Others : List ℕ → P → Type 0) → ((word : List ℕ) (item : P) → Names word item → Others word item)
    → (text : List ℕ) (items : List P) → AreNamed Names text items → AreNamed Others text items
named_to Names Others f text items it =
    record { words = it.words; rest = it.rest; first = it.first; all = it.all; names = zip_to Names Others f it.words items it.names }

pub unknown_to : (IsUnknown IsOther : List ℕ → Type 0) → ((word : List ℕ) → IsUnknown word → IsOther word) → (text : List ℕ)
    → HasUnknown IsUnknown text → HasUnknown IsOther text
unknown_to IsUnknown IsOther f text it =
    record { words = it.words; word = it.word; rest = it.rest; first = it.first; unknown = f it.word it.unknown }
