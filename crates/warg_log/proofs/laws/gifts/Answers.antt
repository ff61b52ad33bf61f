use Rattle.warg_log.proofs.ListingLaws.{gift}
use Rattle.warg_log.proofs.laws.gifts.Goals as goal

pub returns : goal.returns
returns g c = λ signer k p r. gift g.M.Permission.PartialEq.eq signer k p r
