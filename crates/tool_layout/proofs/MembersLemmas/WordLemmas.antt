-- The words of a text as strings of JSON: the first one, and those behind it.
use Rattle.std.proofs.Common.{◌≡◌, ◌<◌, ℕ, ◌+◌, false, length, arith, List, [], ◌∷◌, ◌++◌, refl, ap, ◌∙◌, codes}
use Rattle.std.specs.List.{after_first, before_first, position_or_len, slice_split}
use Rattle.std.proofs.lemmas.List.Elements.{All-from_get_or}
use Rattle.std.proofs.lemmas.List.Splits.{length-slice_split, slice_split_first, slice_split_none}
use Rattle.std.proofs.lemmas.List.Sums.{fails_before_first}
use Rattle.serde_json.specs.Data.{string}
use Rattle.serde_json.specs.Written.{compact_text}
use Rattle.tool_layout.specs.Members.Forms.{is_space, strings_json}

-- a text before others, of which there are some
before_some : (text : List ℕ) (more : List (List ℕ)) → 0 < length more
    → strings_json (text ∷ more) ≡ compact_text (string text) ++ (codes "," ++ strings_json more)
before_some text [] some = absurd (omega arith)
before_some text (next ∷ more) some = refl

-- a text with no space is one word
pub one_word : (text : List ℕ) → position_or_len is_space text ≡ length text
    → strings_json (slice_split is_space text) ≡ compact_text (string text)
one_word text none =
    let fails = All-from_get_or (λ b. is_space b ≡ false) text 0 (λ i below. fails_before_first is_space text i 0 (omega arith)) in
    ap strings_json (slice_split_none is_space text fails)

-- a text with a space: the first word, and those of what is behind it
pub more_words : (text : List ℕ) → position_or_len is_space text < length text
    → strings_json (slice_split is_space text)
    ≡ compact_text (string (before_first is_space text)) ++ (codes "," ++ strings_json (slice_split is_space (after_first is_space text)))
more_words text found =
    ap strings_json (slice_split_first is_space text 0 found)
    ∙ before_some (before_first is_space text) (slice_split is_space (after_first is_space text))
    (omega (arith, length-slice_split is_space (after_first is_space text)))
