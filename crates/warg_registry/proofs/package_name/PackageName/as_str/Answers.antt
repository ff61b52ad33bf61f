use Rattle.std.proofs.Common.{◌≡◌, rules, true}
use Rattle.warg_registry.specs.KebabNames.{is_package_name}
use Rattle.warg_registry.proofs.PackageNames.{package_is}
use Rattle.warg_registry.proofs.package_name.PackageName.as_str.Goals as goal

pub returns-clause-is_name : goal.returns-clause-is_name
returns-clause-is_name c =
    let lawful : is_package_name c.args.self.now ≡ true = search (rules, c.self.invariant, c.self.view_is) in
    let is : c.as_str.result.now ≡ c.args.self.now = search rules in
    rw is (package_is c.args.self.now lawful)
