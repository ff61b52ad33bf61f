use Rattle.warg_p256.specs.Elements.{number}
use Rattle.warg_curve.specs.Field.{prime}
use Rattle.warg_p256.proofs.Adding.{Heads, Tails}
use Rattle.warg_p256.proofs.FieldElements.{number_below}
use Rattle.warg_p256.proofs.AddedPoint.{added_to_infinity, added_same, added_mirrored, added_chord, not_zero}
use Rattle.warg_curve.proofs.Inverses.{has_inverses}
use Rattle.warg_p256.proofs.point.add_affine.Goals as goal

pub returns-then-is_zero : goal.returns-then-is_zero
returns-then-is_zero c = λ a st. added_to_infinity _ _ _ _ _ _ (c.is_zero.ensures.0 c.if-is_zero.true) a _ st c.from_affine.ensures

pub returns-then-is_zero-3 : goal.returns-then-is_zero-3
returns-then-is_zero-3 c =
    let k : Heads prime (number c.args.p.x.words) (number c.args.p.y.words) (number c.args.p.z.words) (number c.args.q.x.words) (number c.args.q.y.words)
    (number c.square-zz.result.words) (number c.mul-u.result.words) (number c.mul.result.words) (number c.mul-s.result.words) (number c.sub-h.result.words) (number c.sub-r.result.words) = record {
      zz_is = c.square-zz.ensures;
      u_is = c.mul-u.ensures;
      zzz_is = c.mul.ensures;
      s_is = c.mul-s.ensures;
      h_is = c.sub-h.ensures;
      r_is = c.sub-r.ensures;
    } in
    λ a st. added_same _ _ _ _ _ _ _ _ _ _ _ k has_inverses (number_below c.args.q.x.words) (number_below c.args.q.y.words) (number_below c.args.p.z.words) (not_zero _ _ c.is_zero.ensures c.if-is_zero.false) (c.is_zero-2.ensures.0 c.if-is_zero-2.true) (c.is_zero-then-is_zero-2.ensures.0 c.if-is_zero-3.true) a st _ _ _ (c.double.ensures a st)

pub returns-then-is_zero-2 : goal.returns-then-is_zero-2
returns-then-is_zero-2 c =
    let k : Heads prime (number c.args.p.x.words) (number c.args.p.y.words) (number c.args.p.z.words) (number c.args.q.x.words) (number c.args.q.y.words)
    (number c.square-zz.result.words) (number c.mul-u.result.words) (number c.mul.result.words) (number c.mul-s.result.words) (number c.sub-h.result.words) (number c.sub-r.result.words) = record {
      zz_is = c.square-zz.ensures;
      u_is = c.mul-u.ensures;
      zzz_is = c.mul.ensures;
      s_is = c.mul-s.ensures;
      h_is = c.sub-h.ensures;
      r_is = c.sub-r.ensures;
    } in
    λ a st. added_mirrored _ _ _ _ _ _ _ _ _ _ _ k has_inverses (number_below c.args.q.x.words) (number_below c.args.p.z.words) (not_zero _ _ c.is_zero.ensures c.if-is_zero.false) (c.is_zero-2.ensures.0 c.if-is_zero-2.true) (not_zero _ _ c.is_zero-then-is_zero-2.ensures c.if-is_zero-3.false) a st _ _ _ c.infinity.ensures

pub returns : goal.returns
returns c =
    let k : Heads prime (number c.args.p.x.words) (number c.args.p.y.words) (number c.args.p.z.words) (number c.args.q.x.words) (number c.args.q.y.words)
    (number c.square-zz.result.words) (number c.mul-u.result.words) (number c.mul.result.words) (number c.mul-s.result.words) (number c.sub-h.result.words) (number c.sub-r.result.words) = record {
      zz_is = c.square-zz.ensures;
      u_is = c.mul-u.ensures;
      zzz_is = c.mul.ensures;
      s_is = c.mul-s.ensures;
      h_is = c.sub-h.ensures;
      r_is = c.sub-r.ensures;
    } in
    let t : Tails prime (number c.args.p.x.words) (number c.args.p.y.words) (number c.args.p.z.words) (number c.sub-h.result.words) (number c.sub-r.result.words)
    (number c.square-hh.result.words) (number c.mul-hhh.result.words) (number c.mul-v.result.words) (number c.square.result.words) (number c.sub.result.words) (number c.add.result.words) (number c.sub-x.result.words) (number c.sub-2.result.words) (number c.mul-2.result.words) (number c.mul-3.result.words) (number c.sub-y.result.words) (number c.mul-4.result.words) = record {
      hh_is = c.square-hh.ensures;
      hhh_is = c.mul-hhh.ensures;
      v_is = c.mul-v.ensures;
      rr_is = c.square.ensures;
      d_is = c.sub.ensures;
      vv_is = c.add.ensures;
      x3_is = c.sub-x.ensures;
      vx_is = c.sub-2.ensures;
      rvx_is = c.mul-2.ensures;
      yh_is = c.mul-3.ensures;
      y3_is = c.sub-y.ensures;
      z3_is = c.mul-4.ensures;
    } in
    λ a st. added_chord _ _ _ _ _ _ _ _ _ _ _ _ _ _ _ _ _ _ _ _ _ _ _ k t has_inverses (number_below c.args.q.x.words) (number_below c.args.q.y.words) (number_below c.args.p.z.words) (not_zero _ _ c.is_zero.ensures c.if-is_zero.false) (not_zero _ _ c.is_zero-2.ensures c.if-is_zero-2.false) a st
