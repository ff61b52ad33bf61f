use Rattle.std.proofs.Common.{rules, ◌∙◌, sym, subst}
use Rattle.warg_operator_log.specs.NamespaceMap.{HasKebabNames}
use Rattle.warg_operator_log.proofs.NamespaceLemmas.{named-cloned}
use Rattle.warg_operator_log.proofs.namespace_map.copy_namespaces.Goals as goal

pub invariant_of-result : goal.invariant_of-result
invariant_of-result c = subst HasKebabNames (sym (named-cloned _ (λ x y h. search rules) c.namespaces.inside.map.entries c.in_ok-clone.field-0.entries c.in_ok-clone.ensures.cases)) c.namespaces.invariant

pub returns : goal.returns
returns c = named-cloned _ (λ x y h. search rules) c.namespaces.inside.map.entries c.in_ok-clone.field-0.entries c.in_ok-clone.ensures.cases ∙ c.namespaces.view_is
