use Rattle.std.proofs.Common.{rules}
use Rattle.warg_registry.proofs.KebabLemmas.{kebab_from, kebab_passes}
use Rattle.warg_registry.proofs.laws.kebab_names.Goals as goal

pub returns : goal.returns
returns c = λ name. (λ h. kebab_from name (search (rules, h)), λ k. search (rules, kebab_passes name k))
