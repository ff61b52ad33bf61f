-- The forms of the lines that commands print, by which their objects in JSON have members.
use Rattle.std.specs.Prelude.{ℕ, Bool, ◌||◌, if◌then◌else◌, List, [], ◌∷◌, codes}
use Rattle.std.specs.Str.{bytes_eq}
use Rattle.tool_layout.specs.Members.Forms.{PartView, a_json, a_null, a_number, a_tag, a_text, a_word, the_rest, the_words}
use Rattle.tool_layout.specs.Members.Objects.{RowView}

abbrev pub refused : List PartView
refused = a_tag (codes "verdict") (codes "refused") (codes "refused") ∷ a_number (codes "record") ∷ a_text (codes "offence") ∷ []

abbrev pub bad_line : List PartView
bad_line = a_tag (codes "verdict") (codes "bad") (codes "bad line") ∷ a_word (codes "line") ∷ a_number (codes "line") ∷ []

abbrev pub too_long : List PartView
too_long = a_tag (codes "verdict") (codes "too") (codes "too long") ∷ a_word (codes "long") ∷ []

abbrev pub none : List PartView
none = a_tag (codes "verdict") (codes "none") (codes "none") ∷ []

abbrev pub ok_empty : List PartView
ok_empty = a_tag (codes "verdict") (codes "ok") (codes "ok") ∷ a_number (codes "records") ∷ a_null (codes "head") (codes "none") ∷ []

abbrev pub ok : List PartView
ok = a_tag (codes "verdict") (codes "ok") (codes "ok") ∷ a_number (codes "records") ∷ a_text (codes "head") ∷ []

abbrev pub empty : List PartView
empty = a_tag (codes "verdict") (codes "empty") (codes "empty") ∷ []

abbrev pub busy : List PartView
busy = a_tag (codes "verdict") (codes "busy") (codes "busy") ∷ []

abbrev pub no_head : List PartView
no_head = a_tag (codes "verdict") (codes "other") (codes "other head") ∷ a_word (codes "head") ∷ a_null (codes "head") (codes "none") ∷ []

abbrev pub other_head : List PartView
other_head = a_tag (codes "verdict") (codes "other") (codes "other head") ∷ a_word (codes "head") ∷ a_text (codes "head") ∷ []

abbrev pub too_short : List PartView
too_short = a_tag (codes "verdict") (codes "too") (codes "too short") ∷ a_word (codes "short") ∷ a_number (codes "records") ∷ []

abbrev pub released : List PartView
released = a_text (codes "release") ∷ a_tag (codes "state") (codes "released") (codes "released") ∷ a_text (codes "content") ∷ []

abbrev pub yanked : List PartView
yanked = a_text (codes "release") ∷ a_tag (codes "state") (codes "yanked") (codes "yanked") ∷ []

abbrev pub same_empty : List PartView
same_empty = a_tag (codes "verdict") (codes "same") (codes "same") ∷ a_number (codes "records") ∷ a_null (codes "head") (codes "none") ∷ []

abbrev pub same : List PartView
same = a_tag (codes "verdict") (codes "same") (codes "same") ∷ a_number (codes "records") ∷ a_text (codes "head") ∷ []

abbrev pub goes_on : List PartView
goes_on = a_tag (codes "verdict") (codes "goes") (codes "goes on") ∷ a_word (codes "on") ∷ a_number (codes "old") ∷ a_number (codes "new") ∷ []

abbrev pub rolled_back : List PartView
rolled_back = a_tag (codes "verdict") (codes "rolled") (codes "rolled back") ∷ a_word (codes "back") ∷ a_number (codes "old") ∷ a_number (codes "new") ∷ []

abbrev pub fork : List PartView
fork = a_tag (codes "verdict") (codes "fork") (codes "fork") ∷ a_number (codes "record") ∷ a_text (codes "old") ∷ a_text (codes "new") ∷ []

abbrev pub collision : List PartView
collision = a_tag (codes "verdict") (codes "collision") (codes "collision") ∷ a_number (codes "old") ∷ a_number (codes "new") ∷ a_text (codes "id") ∷ []

abbrev pub same_length : List PartView
same_length = a_tag (codes "verdict") (codes "same") (codes "same") ∷ a_number (codes "length") ∷ []

abbrev pub fork_length : List PartView
fork_length = a_tag (codes "verdict") (codes "fork") (codes "fork") ∷ a_number (codes "length") ∷ []

abbrev pub not_shown_lengths : List PartView
not_shown_lengths = a_tag (codes "verdict") (codes "not") (codes "not shown") ∷ a_word (codes "shown") ∷ a_number (codes "old") ∷ a_number (codes "new") ∷ []

abbrev pub same_leaf : List PartView
same_leaf = a_tag (codes "verdict") (codes "same") (codes "same") ∷ []

abbrev pub fork_leaf : List PartView
fork_leaf = a_tag (codes "verdict") (codes "fork") (codes "fork") ∷ []

abbrev pub no_leaf : List PartView
no_leaf = a_tag (codes "verdict") (codes "not") (codes "not shown") ∷ a_word (codes "shown") ∷ []

abbrev pub two_heads : List PartView
two_heads = a_tag (codes "verdict") (codes "two") (codes "two") ∷ []

abbrev pub one_and_none : List PartView
one_and_none = a_tag (codes "verdict") (codes "one") (codes "one and none") ∷ a_word (codes "and") ∷ a_word (codes "none") ∷ []

abbrev pub two_logs : List PartView
two_logs = a_tag (codes "verdict") (codes "collision") (codes "collision") ∷ []

abbrev pub two_lengths : List PartView
two_lengths = a_tag (codes "verdict") (codes "two") (codes "two lengths") ∷ a_word (codes "lengths") ∷ []

abbrev pub of_old : List PartView
of_old = a_tag (codes "side") (codes "old:") (codes "old") ∷ a_tag (codes "verdict") (codes "refused") (codes "refused") ∷ a_number (codes "record") ∷ a_text (codes "offence") ∷ []

abbrev pub of_new : List PartView
of_new = a_tag (codes "side") (codes "new:") (codes "new") ∷ a_tag (codes "verdict") (codes "refused") (codes "refused") ∷ a_number (codes "record") ∷ a_text (codes "offence") ∷ []

abbrev pub old_record : List PartView
old_record = a_tag (codes "side") (codes "old") (codes "old") ∷ a_text (codes "time") ∷ a_text (codes "signer") ∷ the_rest (codes "entries") ∷ []

abbrev pub bare_old_record : List PartView
bare_old_record = a_tag (codes "side") (codes "old") (codes "old") ∷ a_text (codes "time") ∷ a_text (codes "signer") ∷ []

abbrev pub new_record : List PartView
new_record = a_tag (codes "side") (codes "new") (codes "new") ∷ a_text (codes "time") ∷ a_text (codes "signer") ∷ the_rest (codes "entries") ∷ []

abbrev pub bare_new_record : List PartView
bare_new_record = a_tag (codes "side") (codes "new") (codes "new") ∷ a_text (codes "time") ∷ a_text (codes "signer") ∷ []

abbrev pub of_older : List PartView
of_older = a_tag (codes "side") (codes "older:") (codes "older") ∷ a_tag (codes "verdict") (codes "refused") (codes "refused") ∷ a_number (codes "record") ∷ a_text (codes "offence") ∷ []

abbrev pub empty_older : List PartView
empty_older = a_tag (codes "side") (codes "older:") (codes "older") ∷ a_tag (codes "verdict") (codes "empty") (codes "empty") ∷ []

abbrev pub message : List PartView
message = the_rest (codes "message") ∷ []

abbrev pub proof : List PartView
proof = a_text (codes "proof") ∷ []

abbrev pub no_json : List PartView
no_json = a_tag (codes "verdict") (codes "no") (codes "no json") ∷ a_word (codes "json") ∷ a_text (codes "fault") ∷ []

abbrev pub bad_state : List PartView
bad_state = a_tag (codes "verdict") (codes "bad") (codes "bad state") ∷ a_word (codes "state") ∷ a_text (codes "fault") ∷ []

abbrev pub state : List PartView
state = a_json (codes "state") ∷ []

abbrev pub head : List PartView
head = a_text (codes "id") ∷ a_text (codes "time") ∷ a_number (codes "version") ∷ a_number (codes "records") ∷ []

abbrev pub uncounted_head : List PartView
uncounted_head = a_text (codes "id") ∷ a_text (codes "time") ∷ a_number (codes "version") ∷ a_null (codes "records") (codes "unknown") ∷ []

-- the forms of the lines of commands that tell records, or where they are
unfoldable pub record_forms : List RowView
record_forms =
    record {
      command = codes "show";
      forms = refused ∷ bad_line ∷
          (a_tag (codes "shows") (codes "head") (codes "head") ∷ a_null (codes "head") (codes "none") ∷ []) ∷
          (a_tag (codes "shows") (codes "head") (codes "head") ∷ a_text (codes "head") ∷ []) ∷
          (a_tag (codes "shows") (codes "key") (codes "key") ∷ a_text (codes "id") ∷ a_text (codes "key") ∷ the_words (codes "permissions") ∷ []) ∷
          (a_tag (codes "shows") (codes "release") (codes "release") ∷ a_text (codes "release") ∷ a_tag (codes "state") (codes "yanked") (codes "yanked") ∷ a_word (codes "by") ∷ a_text (codes "by") ∷ a_word (codes "at") ∷ a_text (codes "time") ∷ []) ∷
          (a_tag (codes "shows") (codes "release") (codes "release") ∷ a_text (codes "release") ∷ a_text (codes "content") ∷ []) ∷
          (a_tag (codes "shows") (codes "namespace") (codes "namespace") ∷ a_text (codes "namespace") ∷ a_tag (codes "state") (codes "defined") (codes "defined") ∷ []) ∷
          (a_tag (codes "shows") (codes "namespace") (codes "namespace") ∷ a_text (codes "namespace") ∷ a_tag (codes "state") (codes "imported") (codes "imported") ∷ a_word (codes "from") ∷ a_text (codes "registry") ∷ []) ∷
          (a_tag (codes "shows") (codes "why:") (codes "why") ∷ the_rest (codes "why") ∷ []) ∷
          (a_tag (codes "shows") (codes "entry:") (codes "entry") ∷ a_number (codes "entry") ∷ []) ∷
          (a_tag (codes "shows") (codes "try:") (codes "try") ∷ the_rest (codes "try") ∷ []) ∷
          (a_number (codes "record") ∷ a_text (codes "id") ∷ a_text (codes "time") ∷ a_text (codes "signer") ∷ the_rest (codes "entries") ∷ []) ∷
          (a_number (codes "record") ∷ a_text (codes "id") ∷ a_text (codes "time") ∷ a_text (codes "signer") ∷ []) ∷ [];
    }
    ∷ record {
      command = codes "chain";
      forms = refused ∷ bad_line ∷ none ∷
          (a_number (codes "record") ∷ a_number (codes "entry") ∷ a_text (codes "time") ∷ a_text (codes "signer") ∷ a_word (codes "to") ∷ a_text (codes "key") ∷ []) ∷ [];
    }
    ∷ record {
      command = codes "compare";
      forms = same_empty ∷ same ∷ goes_on ∷ rolled_back ∷ fork ∷ old_record ∷ bare_old_record ∷ new_record ∷ bare_new_record ∷
          collision ∷ of_old ∷ of_new ∷ same_length ∷ fork_length ∷ not_shown_lengths ∷ same_leaf ∷ fork_leaf ∷ no_leaf ∷
          two_heads ∷ one_and_none ∷ two_logs ∷ two_lengths ∷ [];
    }
    ∷ []

-- those of the other commands
unfoldable pub other_forms : List RowView
other_forms =
    record { command = codes "id"; forms = refused ∷ bad_line ∷ (a_text (codes "id") ∷ []) ∷ [] }
    ∷ record {
      command = codes "audit";
      forms = ok_empty ∷ ok ∷ empty ∷ refused ∷ bad_line ∷ too_long ∷ no_head ∷ other_head ∷ too_short ∷ rolled_back ∷ fork ∷
          collision ∷ of_older ∷ empty_older ∷ released ∷ yanked ∷ message ∷ [];
    }
    ∷ record { command = codes "append"; forms = ok ∷ ok_empty ∷ empty ∷ busy ∷ refused ∷ bad_line ∷ released ∷ yanked ∷ [] }
    ∷ record { command = codes "state"; forms = refused ∷ bad_line ∷ no_json ∷ state ∷ [] }
    ∷ record { command = codes "resume"; forms = refused ∷ bad_line ∷ no_json ∷ bad_state ∷ state ∷ [] }
    ∷ record { command = codes "head"; forms = refused ∷ bad_line ∷ none ∷ head ∷ [] }
    ∷ record { command = codes "resumed-head"; forms = refused ∷ bad_line ∷ none ∷ bad_state ∷ head ∷ uncounted_head ∷ [] }
    ∷ record { command = codes "latest"; forms = refused ∷ bad_line ∷ none ∷ (a_text (codes "release") ∷ a_text (codes "content") ∷ []) ∷ [] }
    ∷ record {
      command = codes "permissions";
      forms = refused ∷ bad_line ∷ (a_tag (codes "verdict") (codes "unknown") (codes "unknown") ∷ []) ∷
          (a_text (codes "permission") ∷ []) ∷ [];
    }
    ∷ record { command = codes "claims"; forms = refused ∷ bad_line ∷ (a_text (codes "key") ∷ a_text (codes "message") ∷ a_text (codes "signature") ∷ []) ∷ [] }
    ∷ record {
      command = codes "make";
      forms = refused ∷ bad_line ∷ (a_text (codes "unsigned") ∷ a_text (codes "message") ∷ []) ∷
          (a_text (codes "record") ∷ []) ∷ [];
    }
    ∷ record { command = codes "log-id"; forms = (a_text (codes "id") ∷ []) ∷ [] }
    ∷ record { command = codes "prove"; forms = none ∷ (a_json (codes "checkpoint") ∷ []) ∷ proof ∷ [] }
    ∷ record {
      command = codes "verify";
      forms = refused ∷ bad_line ∷ (a_tag (codes "verdict") (codes "holds") (codes "holds") ∷ []) ∷
          (a_tag (codes "verdict") (codes "does") (codes "does not hold") ∷ a_word (codes "not") ∷ a_word (codes "hold") ∷ []) ∷
          (a_tag (codes "verdict") (codes "may") (codes "may not sign") ∷ a_word (codes "not") ∷ a_word (codes "sign") ∷ []) ∷
          (a_tag (codes "verdict") (codes "does") (codes "does not belong") ∷ a_word (codes "not") ∷ a_word (codes "belong") ∷ []) ∷
          (a_tag (codes "verdict") (codes "other") (codes "other scheme") ∷ a_word (codes "scheme") ∷ []) ∷ [];
    }
    ∷ record { command = codes "message"; forms = (a_text (codes "message") ∷ []) ∷ [] }
    ∷ record { command = codes "leaf"; forms = (a_text (codes "leaf") ∷ []) ∷ [] }
    ∷ []

-- whether a command tells records, or where they are
abbrev pub tells_records : List ℕ → Bool
tells_records command = bytes_eq command (codes "show") || (bytes_eq command (codes "chain") || bytes_eq command (codes "compare"))

-- the forms of a command's lines, in a table, of which the first that fits is taken
abbrev pub line_forms : List ℕ → List RowView
line_forms command = if tells_records command then record_forms else other_forms
