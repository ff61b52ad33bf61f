use Rattle.std.proofs.Common.{◌∙◌}
use Rattle.warg_operator_log.specs.SameNamespaces.{same_namespaces}
use Rattle.warg_operator_log.proofs.NamespaceLemmas.{entries-same}
use Rattle.warg_operator_log.proofs.namespace_map.NamespaceMapPartialEq.eq.Goals as goal

pub returns : goal.returns
returns c = c.eq.ensures ∙ entries-same c.self.inside.map.entries c.other.inside.map.entries ∙ (λ i. same_namespaces (c.self.view_is i) (c.other.view_is i))
