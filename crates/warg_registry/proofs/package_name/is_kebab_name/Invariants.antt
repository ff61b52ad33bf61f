use Rattle.std.proofs.Common.{◌≡◌}
use Rattle.std.specs.Prelude.{drop}
use Rattle.warg_registry.specs.KebabNames.{ends_kebab, is_kebab_name}
use Rattle.warg_registry.proofs.package_name.is_kebab_name.Given as goal

abbrev pub invariant-bytes : goal.invariant-bytes
invariant-bytes l = ends_kebab l.starts (drop l.byte-index l.text) ≡ is_kebab_name l.text
