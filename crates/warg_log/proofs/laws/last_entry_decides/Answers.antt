use Rattle.std.proofs.Common.{◌≡◌, refl, Bool, true, false, Option, Some, None}
use Rattle.std.specs.Prelude.{◌↔◌, unwrap_or}
use Rattle.warg_log.specs.History.{last_on}
use Rattle.warg_log.proofs.laws.last_entry_decides.Goals as goal

gives : (o : Option Bool) → (unwrap_or o false ≡ true) ↔ (o ≡ Some true)
gives None = (λ h. cc, λ h. cc)
gives (Some true) = (λ h. refl, λ h. refl)
gives (Some false) = (λ h. cc, λ h. cc)

pub returns : goal.returns
returns g c = λ h k p. gives (last_on g.M.Permission.PartialEq.eq h k p)
