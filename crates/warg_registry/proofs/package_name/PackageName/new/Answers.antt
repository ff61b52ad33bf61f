use Rattle.std.proofs.Common.{◌≡◌, rules, true, false}
use Rattle.warg_registry.specs.KebabNames.{is_package_name}
use Rattle.warg_registry.proofs.PackageNames.{package_is, package_is_not}
use Rattle.warg_registry.proofs.package_name.PackageName.new.Goals as goal

pub returns-then-is_package_name-clause-ok : goal.returns-then-is_package_name-clause-ok
returns-then-is_package_name-clause-ok c =
    let holds : is_package_name c.args.name.now ≡ true = search rules in
    (search rules, package_is c.args.name.now holds)

pub returns-else-is_package_name-clause-err : goal.returns-else-is_package_name-clause-err
returns-else-is_package_name-clause-err c =
    let fails : is_package_name c.args.name.now ≡ false = search rules in
    (search rules, package_is_not c.args.name.now fails)
