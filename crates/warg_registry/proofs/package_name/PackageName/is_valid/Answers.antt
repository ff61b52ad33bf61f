use Rattle.std.proofs.Common.{◌≡◌, rules}
use Rattle.warg_registry.specs.KebabNames.{is_package_name}
use Rattle.warg_registry.proofs.PackageNames.{package_is, package_text}
use Rattle.warg_registry.proofs.package_name.PackageName.is_valid.Goals as goal

pub returns-clause-grammar : goal.returns-clause-grammar
returns-clause-grammar c =
    let same : c.is_package_name.result ≡ is_package_name c.args.text.now = search rules in
    rw same (λ h. package_is c.args.text.now (search (rules, h)), λ k. search (rules, package_text c.args.text.now k))
