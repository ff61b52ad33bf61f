use Rattle.std.proofs.Common.{[], refl}
use Rattle.serde_json.specs.View.{view}
use Rattle.warg_crypto.specs.Json.JsonTexts.{key_in}
use Rattle.warg_saved_states.proofs.NextValues.{asked_next}
use Rattle.warg_saved_states.proofs.value.PublicKeySavedValue.read_next.Goals as goal

pub returns-in-Ok : goal.returns-in-Ok
returns-in-Ok c =
    asked_next (λ key. key) key_in [] 0 (λ d v like. rw like.text refl) c.args.depth c.args.reader.now c.read_value.new.reader
    (view c.in-Ok.json) c.from_value.result c.unless_no_memory.result c.in-Ok.ensures.ok c.in-Ok.ensures.shorter c.unless_no_memory.ensures c.from_value.ensures
