use Rattle.serde_json.specs.View.{view}
use Rattle.warg_operator_log.specs.NamespaceMap.{namespace_view}
use Rattle.warg_operator_log.proofs.NamespaceJsonLaws.{namespace_reads_back}
use Rattle.warg_operator_log.proofs.namespace.json.NamespaceStateJsonValue.to_value.Goals as goal

pub returns-clause-back : goal.returns-clause-back
returns-clause-back c = namespace_reads_back (namespace_view c.args.self.now) view c.namespace_value.result c.namespace_value.ensures
