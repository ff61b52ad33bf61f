use Rattle.serde_json.specs.View.{view}
use Rattle.warg_registry.specs.RegistryJson.{checkpoint_json}
use Rattle.tool_checkpoints.proofs.ProofTextLemmas.{checkpoint_written, text_refused}
use Rattle.tool_checkpoints.proofs.prove.checkpoint_text.Goals as goal

pub returns-in_ok-to_string-in-Ok : goal.returns-in_ok-to_string-in-Ok
returns-in_ok-to_string-in-Ok c =
    checkpoint_written c.args.checkpoint.now (view c.in-Ok.value) _ c.in-Ok.ensures.written c.in_ok-to_string-in-Ok.ensures.text

pub returns-in-Err : goal.returns-in-Err
returns-in-Err c = text_refused (checkpoint_json c.args.checkpoint.now) c.in-Err.error c.in-Err.ensures.written
