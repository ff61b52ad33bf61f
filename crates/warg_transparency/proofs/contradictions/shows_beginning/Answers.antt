use Rattle.warg_merkle.proofs.Sound.{each_long}
use Rattle.warg_transparency.proofs.contradictions.shows_beginning.Goals as goal

pub returns : goal.returns
returns c = (
  λ is. record { goes_on = c.verify_consistency.ensures.exact.0 is; root = c.hash_range.ensures; hashes = each_long c.args.hashes.now c.told-hashes },
  λ shown. c.verify_consistency.ensures.exact.1 shown.goes_on,
)
