use Rattle.warg_p256.proofs.FieldElements.{number_below}
use Rattle.warg_p256.proofs.AddedPoint.{stands_affine}
use Rattle.warg_p256.proofs.point.from_affine.Goals as goal

pub returns : goal.returns
returns c = stands_affine _ _ _ (number_below c.args.p.x.words) (number_below c.args.p.y.words) c.one.ensures
