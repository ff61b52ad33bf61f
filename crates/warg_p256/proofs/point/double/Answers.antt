use Rattle.warg_p256.specs.Elements.{number}
use Rattle.warg_curve.specs.Field.{prime}
use Rattle.warg_p256.proofs.Doubled.{Steps}
use Rattle.warg_p256.proofs.FieldElements.{number_below}
use Rattle.warg_p256.proofs.DoubledPoint.{stands_doubled}
use Rattle.warg_curve.proofs.Inverses.{has_inverses}
use Rattle.warg_p256.proofs.point.double.Goals as goal

pub returns : goal.returns
returns c =
    let n = c.args.p in
    let steps : Steps prime (number n.x.words) (number n.y.words) (number n.z.words)
    (number c.square-zz.result.words) (number c.square-yy.result.words) (number c.sub.result.words) (number c.add.result.words) (number c.mul-product.result.words) (number c.add-2.result.words) (number c.add-m.result.words) (number c.add-yy2.result.words) (number c.add-3.result.words) (number c.mul-s.result.words) (number c.square.result.words) (number c.add-4.result.words) (number c.sub-x.result.words) (number c.square-t.result.words) (number c.add-5.result.words) (number c.sub-2.result.words) (number c.mul.result.words) (number c.sub-y.result.words) (number c.mul-yz.result.words) (number c.add-6.result.words) = record {
      zz_is = c.square-zz.ensures;
      yy_is = c.square-yy.ensures;
      lo_is = c.sub.ensures;
      hi_is = c.add.ensures;
      product_is = c.mul-product.ensures;
      p2_is = c.add-2.ensures;
      m_is = c.add-m.ensures;
      yy2_is = c.add-yy2.ensures;
      yy4_is = c.add-3.ensures;
      s_is = c.mul-s.ensures;
      mm_is = c.square.ensures;
      ss_is = c.add-4.ensures;
      x3_is = c.sub-x.ensures;
      t_is = c.square-t.ensures;
      y8_is = c.add-5.ensures;
      sx_is = c.sub-2.ensures;
      msx_is = c.mul.ensures;
      y3_is = c.sub-y.ensures;
      yz_is = c.mul-yz.ensures;
      z3_is = c.add-6.ensures;
    } in
    stands_doubled _ _ _ _ _ _ _ _ _ _ _ _ _ _ _ _ _ _ _ _ _ _ _ steps (number_below n.z.words) has_inverses
