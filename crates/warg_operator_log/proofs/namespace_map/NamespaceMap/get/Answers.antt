use Rattle.std.proofs.Common.{sym, ap, ◌∙◌, subst}
use Rattle.std.specs.Option.{option_map}
use Rattle.warg_registry.specs.KebabNames.{IsKebabName}
use Rattle.warg_registry.proofs.KebabLemmas.{kebab_from}
use Rattle.warg_operator_log.specs.Namespaces.{names}
use Rattle.warg_operator_log.specs.NamespaceMap.{namespace_view, HasKebabNames}
use Rattle.warg_operator_log.proofs.NamespaceLemmas.{names-lookup, known-kebab, on_found}
use Rattle.warg_operator_log.proofs.namespace_map.NamespaceMap.get.Goals as goal

pub returns-clause-value : goal.returns-clause-value
returns-clause-value c = ap (option_map namespace_view) c.find.ensures ∙ sym (names-lookup c.args.name.now c.self.inside.map.entries) ∙ ap (λ es. names es c.args.name.now) c.self.view_is

pub returns-clause-kebab : goal.returns-clause-kebab
returns-clause-kebab c =
    let name = c.args.name.now in
    on_found (IsKebabName name) (λ x. x.now) namespace_view c.find.result (names c.args.self.now name) (returns-clause-value c)
    (λ found. kebab_from name (known-kebab name c.args.self.now (subst HasKebabNames c.self.view_is c.self.invariant) found))
