use Rattle.std.proofs.Common.{◌≡◌, [], ◌∷◌, length, Some, ap, ◌∙◌, arith}
use Rattle.std.specs.Prelude.{suc}
use Rattle.json.specs.Lex.{tokens}
use Rattle.json.specs.Json.{members, parse_map, value}
use Rattle.json.specs.Token.{Token}
use Rattle.json.proofs.Grammar.{value-begin_object}
use Rattle.serde_json.specs.Data.{object}
use Rattle.serde_json.specs.Read.{converted, of_json}
use Rattle.serde_json.specs.View.{members_view, view}
use Rattle.serde_json.specs.declared.value.Value.{Object}
use Rattle.serde_json.proofs.Views.{view-Object}
use Rattle.warg_saved_states.specs.Asked.{AreAskedOf, texts}
use Rattle.warg_saved_states.proofs.AskedMembers.{like_object}
use Rattle.warg_saved_states.proofs.TextReading.{converted-object, whole_read}
use Rattle.warg_saved_states.proofs.parts.parts_in_text.Goals as goal

pub returns : goal.returns
returns g c =
    let start = c.in_ok-reader.reader in
    let text : tokens c.args.text.now ≡ Token.begin_object ∷ start = c.in_ok-reader.ensures in
    let end : c.next_parts.new.reader ≡ [] = c.is_over.ensures (grind arith) in
    let opened = ap (converted of_json) (ap (value 127) text ∙ value-begin_object 127 start (omega arith)) ∙ converted-object (members (value 126) (length start) start) in
    let read = c.in_ok-found.ensures in (
      object read.0,
      whole_read (value 127 (tokens c.args.text.now)) (object read.0) (opened ∙ ap (parse_map object) (read.1 ∙ ap (λ ts. Some (read.0, ts)) end)),
      like_object (AreAskedOf (texts c.args.asked.now) (suc c.args.levels)) read.0 (members_view c.in_ok-found.found.entries) (view (Object c.in_ok-found.found)) (view-Object c.in_ok-found.found) read.2,
      read.3,
      read.4,
      read.5,
    )
