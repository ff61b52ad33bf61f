-- Words behind a command, read one after the other.
use Rattle.std.proofs.Common.{◌≡◌, ℕ, ◌+◌, ◌<◌, ◌≤◌, true, false, List, [], ◌∷◌, length, drop, get_or, map, Option, Some, None, refl, ◌∙◌, ap}
use Rattle.std.proofs.lemmas.List.{at_drop_all, at_drop_more}
use Rattle.std.specs.Borrow.{Bor}
use Rattle.std.specs.Str.{bytes_eq}
use Rattle.tool_words.specs.Parts.{and_words, Parts, value, with_word}
use Rattle.tool_words.specs.PartsViews.{given_view}
use Rattle.tool_words.specs.Requests.{texts}
use Rattle.tool_words.specs.declared.command.Command.{Command}
use Rattle.tool_words.specs.declared.parts.Given.{Given}

-- no words follow words that can't be read
pub and_words-none : (command : Command) (words : List (List ℕ)) → and_words command words None ≡ None
and_words-none command [] = refl
and_words-none command (word ∷ more) = refl

-- a word is read
pub word_read : (command : Command) (words : List (Bor (List ℕ))) (i : ℕ) (d : Bor (List ℕ)) (parts next : Parts) → i < length words
    → with_word command (get_or words i d).now parts ≡ Some next
    → and_words command (texts (drop i words)) (Some parts) ≡ and_words command (texts (drop (i + 1) words)) (Some next)
word_read command words i d parts next h e =
    at_drop_more (λ rest. and_words command (texts rest) (Some parts)) words i d h ∙ ap (λ it. and_words command (texts (drop (i + 1) words)) it) e

-- a word can't be read
pub word_refused : (command : Command) (words : List (Bor (List ℕ))) (i : ℕ) (d : Bor (List ℕ)) (parts : Parts) → i < length words
    → with_word command (get_or words i d).now parts ≡ None → and_words command (texts (drop i words)) (Some parts) ≡ None
word_refused command words i d parts h e =
    at_drop_more (λ rest. and_words command (texts rest) (Some parts)) words i d h
    ∙ (ap (λ it. and_words command (texts (drop (i + 1) words)) it) e ∙ and_words-none command (texts (drop (i + 1) words)))

-- all words are read
pub words_end : (command : Command) (words : List (Bor (List ℕ))) (i : ℕ) (parts : Parts) → length words ≤ i
    → and_words command (texts (drop i words)) (Some parts) ≡ Some parts
words_end command words i parts h = at_drop_all (λ rest. and_words command (texts rest) (Some parts)) words i h

-- an option that has another name
pub value_more : (name : List ℕ) (given : List Given) (i : ℕ) (d : Given) → i < length given
    → bytes_eq name (get_or given i d).name.now ≡ false
    → value name (map given_view (drop i given)) ≡ value name (map given_view (drop (i + 1) given))
value_more name given i d h e = at_drop_more (λ rest. value name (map given_view rest)) given i d h ∙ rw e refl

-- an option that has this name
pub value_found : (name : List ℕ) (given : List Given) (i : ℕ) (d : Given) → i < length given
    → bytes_eq name (get_or given i d).name.now ≡ true
    → value name (map given_view (drop i given)) ≡ Some (get_or given i d).value.now
value_found name given i d h e = at_drop_more (λ rest. value name (map given_view rest)) given i d h ∙ rw e refl

-- no option has this name
pub value_none : (name : List ℕ) (given : List Given) (i : ℕ) → length given ≤ i → value name (map given_view (drop i given)) ≡ None
value_none name given i h = at_drop_all (λ rest. value name (map given_view rest)) given i h
