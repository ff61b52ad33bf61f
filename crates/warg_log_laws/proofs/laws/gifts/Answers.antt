use Rattle.warg_log.proofs.ListingLaws.{gift}
use Rattle.warg_log_laws.proofs.laws.gifts.Goals as goal

pub returns : goal.returns
returns g c = λ signer k p entry. gift g.L.RuledLog.same signer k p entry
