-- Answers in JSON: objects, each a line with no hidden character.
use Rattle.std.proofs.Common.{◌≡◌, ℕ, ◌<◌, List, [], ◌∷◌, codes, length, refl, arith}
use Rattle.std.specs.Str.Lines.{lines}
use Rattle.warg_audit.specs.Printouts.{OutputData}
use Rattle.tool_layout.specs.Members.Forms.{line_members, text_member}
use Rattle.tool_layout.specs.Members.Objects.{forms_of, line_object, message_object, object_json, object_text}
use Rattle.tool_changes.specs.Audits.{first_of}
use Rattle.tool_changes.specs.JsonLines.{IsInJson, IsJsonText, line_objects}
use Rattle.tool_changes.specs.LineForms.{line_forms}
use Rattle.warg_printable.specs.Json.{json_printable}
use Rattle.warg_printable.specs.Lines.{IsPrintedText}
use Rattle.warg_printable.proofs.JsonLemmas.{json_shown}
use Rattle.warg_printable.proofs.LineLemmas.{both_lines, no_lines, one_shown, same_lines}
use Rattle.tool_laws.proofs.LineLemmas.{IsClean}

-- an object, whatever its members are
pub object_clean : (command members : List ℕ) (status : ℕ) → IsPrintedText (object_text command members status)
object_clean command members status =
    one_shown (json_printable (object_json command members status)) (json_shown (object_json command members status))

objects_clean : (command : List ℕ) (status : ℕ) (said : List (List ℕ)) → IsPrintedText (line_objects command status said)
objects_clean command status [] = no_lines
objects_clean command status (line ∷ more) =
    both_lines (line_object (line_forms command) command status line) (line_objects command status more)
    (object_clean command (line_members (forms_of (line_forms command) command) line) status) (objects_clean command status more)

text_clean : (command : List ℕ) (printed : OutputData) (said told text : List ℕ) → printed.text ≡ said → IsJsonText command printed told text
    → IsPrintedText text
text_clean command printed [] told text none h =
    same_lines text (message_object command printed.status (first_of (lines told))) (h.of_none none)
    (object_clean command (text_member (codes "message") (first_of (lines told))) printed.status)
text_clean command printed (b ∷ more) told text some h =
    let bytes : 0 < length printed.text = rw some (omega arith) in
    same_lines text (line_objects command printed.status (lines printed.text)) (h.of_lines bytes)
    (objects_clean command printed.status (lines printed.text))

-- an answer in JSON, whatever the answer is
pub json_clean : (command : List ℕ) (printed : OutputData) (told : List ℕ) (json : OutputData) → IsInJson command printed told json → IsClean json
json_clean command printed told json h = text_clean command printed printed.text told json.text refl h.text
