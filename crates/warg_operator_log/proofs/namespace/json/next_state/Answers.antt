use Rattle.serde_json.specs.View.{view}
use Rattle.warg_saved_states.proofs.NextValues.{asked_next}
use Rattle.warg_operator_log.specs.NamespaceJson.{saved_namespace_in}
use Rattle.warg_operator_log.specs.NamespaceMap.{namespace_view}
use Rattle.warg_operator_log.proofs.AskedNamespace.{namespace_names, saved_namespace_asked}
use Rattle.warg_operator_log.proofs.namespace.json.next_state.Goals as goal

pub returns-in-Ok : goal.returns-in-Ok
returns-in-Ok c =
    asked_next namespace_view saved_namespace_in namespace_names 3 saved_namespace_asked c.args.depth c.args.reader.now c.read_value.new.reader (view c.in-Ok.json)
    c.saved_state.result c.unless_no_memory.result c.in-Ok.ensures.ok c.in-Ok.ensures.shorter c.unless_no_memory.ensures c.saved_state.ensures
