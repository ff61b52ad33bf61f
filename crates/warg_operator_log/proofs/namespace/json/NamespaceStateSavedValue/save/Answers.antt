use Rattle.serde_json.specs.View.{view}
use Rattle.warg_operator_log.specs.NamespaceMap.{namespace_view}
use Rattle.warg_operator_log.proofs.NamespaceJsonLaws.{saved_reads_back}
use Rattle.warg_operator_log.proofs.namespace.json.NamespaceStateSavedValue.save.Goals as goal

pub returns-clause-back : goal.returns-clause-back
returns-clause-back c = saved_reads_back (namespace_view c.args.self.now) view c.saved_value.result c.saved_value.ensures
