use Rattle.warg_operator_log.specs.NamespaceMap.{namespace_view}
use Rattle.warg_operator_log.specs.SameNamespaceLaws.{namespace_decides}
use Rattle.warg_operator_log.specs.StateLaws.{states_equal}
use Rattle.warg_operator_log.proofs.laws.equality.Goals as goal

pub returns-clause-namespaces : goal.returns-clause-namespaces
returns-clause-namespaces c = λ a b. namespace_decides (namespace_view a) (namespace_view b)

pub returns-clause-states : goal.returns-clause-states
returns-clause-states c = λ s t. states_equal s t
