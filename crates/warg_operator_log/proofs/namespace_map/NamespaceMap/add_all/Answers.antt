use Rattle.std.proofs.Common.{sym, ap, ◌∙◌, subst}
use Rattle.warg_operator_log.specs.Namespaces.{names, names_over}
use Rattle.warg_operator_log.specs.NamespaceMap.{namespace_entries, HasKebabNames}
use Rattle.warg_operator_log.proofs.NamespaceLemmas.{names-insert_all, kebabs-insert_all}
use Rattle.warg_operator_log.proofs.namespace_map.NamespaceMap.add_all.Goals as goal

pub returns-clause-added : goal.returns-clause-added
returns-clause-added c = λ k.
    ap (λ es. names (namespace_entries es) k) c.in_ok-put_all.ensures.entries
    ∙ names-insert_all c.changes.inside.map.entries c.self.inside.map.entries k
    ∙ (λ i. names_over (c.self.view_is i) (c.changes.view_is i) k)

pub invariant_of-self-2 : goal.invariant_of-self-2
invariant_of-self-2 c = subst (λ es. HasKebabNames (namespace_entries es)) (sym c.in_ok-put_all.ensures.entries) (kebabs-insert_all c.changes.inside.map.entries c.self.inside.map.entries c.changes.invariant c.self.invariant)
