use Rattle.std.proofs.Common.{◌≡◌, rules, true}
use Rattle.warg_registry.specs.KebabNames.{namespace_of, is_package_name}
use Rattle.warg_registry.proofs.PackageNames.{package_parts}
use Rattle.warg_registry.proofs.package_name.PackageName.namespace.Goals as goal

pub returns-clause-part : goal.returns-clause-part
returns-clause-part c =
    let lawful : is_package_name c.args.self.now ≡ true = search (rules, c.self.invariant, c.self.view_is) in
    let is : c.in-Some.namespace.now ≡ namespace_of c.args.self.now = search rules in
    rw is (package_parts c.args.self.now lawful)
