-- Which words of a line are members of its object.
use Rattle.std.specs.Prelude.{ℕ, ◌==◌, Bool, not, ◌&&◌, ◌||◌, if◌then◌else◌, nat_lt, List, [], ◌∷◌, ◌++◌, codes, length, map, slice_index, Option, Some, None}
use Rattle.std.specs.Char.{is_ascii_digit}
use Rattle.std.specs.List.{after_first, before_first, list_all, position_or_len, slice_split}
use Rattle.std.specs.Str.{bytes_eq}
use Rattle.serde_json.specs.Data.{string}
use Rattle.serde_json.specs.Written.{compact_text}
use Rattle.tool_layout.specs.declared.members.form.Form.{Form}
use Rattle.tool_layout.specs.declared.members.form.Part.{Part}
use Rattle.tool_layout.specs.declared.members.form.Part.TheVariants as part

-- ---- forms, by texts alone

-- a part of a line, with the texts themselves in the place of references to them
pub data PartView : Type 0 where
  a_word : List ℕ → PartView
  a_tag : List ℕ → List ℕ → List ℕ → PartView
  a_null : List ℕ → List ℕ → PartView
  a_number : List ℕ → PartView
  a_text : List ℕ → PartView
  the_rest : List ℕ → PartView
  the_words : List ℕ → PartView
  a_json : List ℕ → PartView

abbrev pub part_view : Part → PartView
part_view (part.Word it) = a_word it.now
part_view (part.Tag member it text) = a_tag member.now it.now text.now
part_view (part.Null member it) = a_null member.now it.now
part_view (part.Number member) = a_number member.now
part_view (part.Text member) = a_text member.now
part_view (part.Rest member) = the_rest member.now
part_view (part.Words member) = the_words member.now
part_view (part.Json member) = a_json member.now

-- the parts of a form, in order
abbrev pub form_view : Form → List PartView
form_view form = map part_view form.parts.now

-- ---- words

-- whether a byte parts words
abbrev pub is_space : ℕ → Bool
is_space b = b == 32

-- the first word of a text
abbrev pub word_of : List ℕ → List ℕ
word_of text = before_first is_space text

-- the text behind the first word and the space after it, if there is one
abbrev pub behind_word : List ℕ → Option (List ℕ)
behind_word text = if nat_lt (position_or_len is_space text) (length text) then Some (after_first is_space text) else None

-- whether a word is a number as JSON writes one: decimal digits, with no zero before others
abbrev pub is_number : List ℕ → Bool
is_number word = nat_lt 0 (length word) && list_all is_ascii_digit word && (length word == 1 || not (slice_index word 0 == 48))

-- ---- members

-- a member behind others: its name, and its value as JSON
abbrev pub member_text : List ℕ → List ℕ → List ℕ
member_text name json = codes ",\"" ++ (name ++ (codes "\":" ++ json))

-- the same of a text
abbrev pub text_member : List ℕ → List ℕ → List ℕ
text_member name text = member_text name (compact_text (string text))

-- a text, if a test is passed
abbrev pub if_so : Bool → List ℕ → Option (List ℕ)
if_so test text = if test then Some text else None

-- the member that a word is as a part of its line, if the word fits the part; a word that is no member adds nothing
abbrev pub word_member : PartView → List ℕ → Option (List ℕ)
word_member (a_word it) word = if_so (bytes_eq word it) []
word_member (a_tag member it text) word = if_so (bytes_eq word it) (text_member member text)
word_member (a_null member it) word = if_so (bytes_eq word it) (member_text member (codes "null"))
word_member (a_number member) word = if_so (is_number word) (member_text member word)
word_member (a_text member) word = Some (text_member member word)
word_member (the_rest member) word = Some (text_member member word)
word_member (the_words member) word = None
word_member (a_json member) word = None

-- texts as strings of JSON, with a comma between
abbrev pub strings_json : List (List ℕ) → List ℕ
strings_json [] = []
strings_json (text ∷ []) = compact_text (string text)
strings_json (text ∷ next ∷ more) = compact_text (string text) ++ (codes "," ++ strings_json (next ∷ more))

-- the words of a text, if there is one
abbrev pub words_of : Option (List ℕ) → List (List ℕ)
words_of (Some text) = slice_split is_space text
words_of None = []

-- a member that is the list of the words of a text, if there is one
abbrev pub list_of : List ℕ → Option (List ℕ) → List ℕ
list_of name text = member_text name (codes "[" ++ (strings_json (words_of text) ++ codes "]"))

-- whether a text begins an object of JSON
abbrev pub is_object : List ℕ → Bool
is_object text = nat_lt 0 (length text) && slice_index text 0 == 123

-- members before others, if both are there
abbrev pub before_members : Option (List ℕ) → Option (List ℕ) → Option (List ℕ)
before_members (Some first) (Some more) = Some (first ++ more)
before_members (Some first) None = None
before_members None more = None

-- the members of what is left of a line by the parts that are left of its form, if it fits them
abbrev pub members_by : List PartView → Option (List ℕ) → Option (List ℕ)
members_by [] None = Some []
members_by [] (Some text) = None
members_by (the_words member ∷ more) None = Some (list_of member None)
members_by (it ∷ more) None = None
members_by (the_rest member ∷ more) (Some text) = Some (text_member member text)
members_by (the_words member ∷ more) (Some text) = Some (list_of member (Some text))
members_by (a_json member ∷ more) (Some text) = if_so (is_object text) (member_text member text)
members_by (it ∷ more) (Some text) = before_members (word_member it (word_of text)) (members_by more (behind_word text))

-- members, or others where there are none
abbrev pub or_members : Option (List ℕ) → List ℕ → List ℕ
or_members (Some members) others = members
or_members None others = others

-- the members of a line by the first of the forms that it fits; where it fits none, the line is one
abbrev pub line_members : List (List PartView) → List ℕ → List ℕ
line_members [] line = text_member (codes "line") line
line_members (form ∷ more) line = or_members (members_by form (Some line)) (line_members more line)
