-- Parts by their texts, and what a step makes of them.
use Rattle.std.specs.Prelude.{◌≡◌, ℕ, Bool, true, false, List, map, Option, Some, None, Result, Ok, Err}
use Rattle.tool_words.specs.Parts.{Parts}
use Rattle.tool_words.specs.Requests.{text_in, texts}
use Rattle.tool_words.specs.declared.parts.Given.{Given}
use Rattle.tool_words.specs.declared.parts.Parts as declared

-- an option by its name and its value
abbrev pub given_view : Given → List ℕ × List ℕ
given_view it = (it.name.now, it.value.now)

-- the parts by their texts
abbrev pub parts_view : declared.Parts → Parts
parts_view it = record { places = texts it.places.items; given = map given_view it.given.items; awaited = text_in it.awaited; ended = it.ended }

-- whether a word was read, and what was made of the parts then; nothing is said where memory ran out
abbrev pub IfRead : {E : Type 0} → Option Parts → Result Bool E → Parts → Type 0
IfRead next (Ok true) now = next ≡ Some now
IfRead next (Ok false) now = next ≡ None
IfRead next (Err e) now = Unit {0}
