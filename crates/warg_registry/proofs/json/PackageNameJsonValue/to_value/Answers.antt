use Rattle.std.proofs.Common.{◌≡◌, true}
use Rattle.warg_registry.specs.KebabNames.{is_package_name}
use Rattle.warg_registry.proofs.PackageNames.{package_text}
use Rattle.warg_registry.proofs.JsonLemmas.{name_back}
use Rattle.warg_registry.proofs.json.PackageNameJsonValue.to_value.Goals as goal

pub returns-clause-back : goal.returns-clause-back
returns-clause-back c =
    let same : c.as_str.result.now ≡ c.args.self.now = c.as_str.ensures.value in
    let lawful : is_package_name c.args.self.now ≡ true = package_text c.args.self.now (rw (← same) c.as_str.ensures.is_name) in
    λ _. name_back c.args.self.now c.text_value.result lawful (rw (← same) c.text_value.ensures)
