-- The objects of lines.
use Rattle.std.specs.Prelude.{ℕ, if◌then◌else◌, List, [], ◌∷◌, ◌++◌, codes, map}
use Rattle.std.specs.Fmt.{decimal}
use Rattle.std.specs.Str.{bytes_eq}
use Rattle.warg_printable.specs.Json.{json_printable}
use Rattle.tool_layout.specs.declared.members.form.CommandForms.{CommandForms}
use Rattle.tool_layout.specs.Members.Forms.{PartView, form_view, line_members, text_member}

-- a row of a table: a command, and the forms of its lines
pub record RowView : Type 0 where
  pub command : List ℕ
  pub forms : List (List PartView)

abbrev pub row_view : CommandForms → RowView
row_view row = record { command = row.command.now; forms = map form_view row.forms.now }

-- the forms of a command's lines, by a table
abbrev pub forms_of : List RowView → List ℕ → List (List PartView)
forms_of [] command = []
forms_of (row ∷ more) command = if bytes_eq row.command command then row.forms else forms_of more command

-- an object: the command, members behind it, and the status
abbrev pub object_json : List ℕ → List ℕ → ℕ → List ℕ
object_json command members status =
    codes "{\"command\":\"" ++ (command ++ (codes "\"" ++ (members ++ (codes ",\"status\":" ++ (decimal status ++ codes "}")))))

-- the same on a line, as it is printed
abbrev pub object_text : List ℕ → List ℕ → ℕ → List ℕ
object_text command members status = json_printable (object_json command members status) ++ codes "\n"

module _ (table : List RowView) where
  -- the object of a line that a command prints
  abbrev pub line_object : List ℕ → ℕ → List ℕ → List ℕ
  line_object command status line = object_text command (line_members (forms_of table command) line) status

  -- the object of a line on the file of a path
  abbrev pub path_object : List ℕ → List ℕ → ℕ → List ℕ → List ℕ
  path_object command path status line =
      object_text command (text_member (codes "path") path ++ line_members (forms_of table command) line) status

-- the object of an answer that has no line: a sentence
abbrev pub message_object : List ℕ → ℕ → List ℕ → List ℕ
message_object command status sentence = object_text command (text_member (codes "message") sentence) status
