-- The objects that answers are printed as in JSON, each on a line.
use Rattle.std.specs.Prelude.{◌≡◌, ℕ, ◌<◌, List, [], length, map}
use Rattle.std.specs.List.{concat}
use Rattle.std.specs.Str.Lines.{lines}
use Rattle.warg_audit.specs.Printouts.{OutputData}
use Rattle.tool_layout.specs.Members.Objects.{line_object, message_object}
use Rattle.tool_changes.specs.Audits.{first_of}
use Rattle.tool_changes.specs.LineForms.{line_forms}

-- the objects of lines that a command prints, one after another
abbrev pub line_objects : List ℕ → ℕ → List (List ℕ) → List ℕ
line_objects command status said = concat (map (line_object (line_forms command) command status) said)

-- the text is the object of each line that is printed, or, where none is, of the first line of what is told on standard error
pub record IsJsonText (command : List ℕ) (printed : OutputData) (told text : List ℕ) : Type 0 where
  pub of_lines : 0 < length printed.text → text ≡ line_objects command printed.status (lines printed.text)
  pub of_none : printed.text ≡ [] → text ≡ message_object command printed.status (first_of (lines told))

-- what is printed in JSON, with the same status
pub record IsInJson (command : List ℕ) (printed : OutputData) (told : List ℕ) (json : OutputData) : Type 0 where
  pub text : IsJsonText command printed told json.text
  pub status : json.status ≡ printed.status
