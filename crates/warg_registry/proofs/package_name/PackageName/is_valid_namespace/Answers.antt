use Rattle.std.proofs.Common.{◌≡◌, rules}
use Rattle.warg_registry.specs.KebabNames.{is_kebab_name}
use Rattle.warg_registry.proofs.KebabLemmas.{kebab_from, kebab_passes}
use Rattle.warg_registry.proofs.package_name.PackageName.is_valid_namespace.Goals as goal

pub returns-clause-grammar : goal.returns-clause-grammar
returns-clause-grammar c =
    let same : c.is_kebab_name.result ≡ is_kebab_name c.args.text.now = search rules in
    rw same (λ h. kebab_from c.args.text.now (search (rules, h)), λ k. search (rules, kebab_passes c.args.text.now k))
