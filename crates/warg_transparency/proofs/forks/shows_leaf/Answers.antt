use Rattle.warg_merkle.proofs.Sound.{each_long}
use Rattle.warg_transparency.proofs.forks.shows_leaf.Goals as goal

pub returns : goal.returns
returns c = (
  λ is. record { includes = c.verify_leaf.ensures.exact.0 is; ids = c.leaf_range.ensures; hashes = each_long c.args.hashes.now c.told-hashes },
  λ shown. c.verify_leaf.ensures.exact.1 shown.includes,
)
