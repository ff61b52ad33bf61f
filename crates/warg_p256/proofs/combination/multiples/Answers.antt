use Rattle.std.proofs.Common.{sym, subst}
use Rattle.warg_curve.specs.Curve.{Point, at}
use Rattle.warg_curve.specs.Group.{IsOnCurve, multiple}
use Rattle.warg_p256.specs.Rows.{Stands}
use Rattle.warg_p256.specs.Elements.{number}
use Rattle.warg_curve.proofs.GroupMultiples.{multiple_zero, multiple_one}
use Rattle.warg_p256.proofs.Combinations.{row_doubled, row_added}
use Rattle.warg_p256.proofs.combination.multiples.Goals as goal

pub returns : goal.returns
returns c =
    let q : Point = at (number c.args.q.x.words) (number c.args.q.y.words) in
    let h : IsOnCurve q = c.requires in
    let s1 : Stands c.from_affine-m1.result (multiple 1 q) = subst (λ p. Stands c.from_affine-m1.result p) (sym (multiple_one q)) c.from_affine-m1.ensures in
    let s2 = row_doubled q c.from_affine-m1.result c.double-m2.result 1 h c.double-m2.ensures s1 in
    let s3 = row_added q c.double-m2.result c.add_affine-m3.result 2 c.add_affine-m3.ensures s2 in
    let s4 = row_doubled q c.double-m2.result c.double-m4.result 2 h c.double-m4.ensures s2 in
    let s5 = row_added q c.double-m4.result c.add_affine-m5.result 4 c.add_affine-m5.ensures s4 in
    let s6 = row_doubled q c.add_affine-m3.result c.double-m6.result 3 h c.double-m6.ensures s3 in
    let s7 = row_added q c.double-m6.result c.add_affine-m7.result 6 c.add_affine-m7.ensures s6 in
    let s8 = row_doubled q c.double-m4.result c.double-m8.result 4 h c.double-m8.ensures s4 in
    let s9 = row_added q c.double-m8.result c.add_affine-m9.result 8 c.add_affine-m9.ensures s8 in
    let s10 = row_doubled q c.add_affine-m5.result c.double-m10.result 5 h c.double-m10.ensures s5 in
    let s11 = row_added q c.double-m10.result c.add_affine-m11.result 10 c.add_affine-m11.ensures s10 in
    let s12 = row_doubled q c.double-m6.result c.double-m12.result 6 h c.double-m12.ensures s6 in
    let s13 = row_added q c.double-m12.result c.add_affine-m13.result 12 c.add_affine-m13.ensures s12 in
    let s14 = row_doubled q c.add_affine-m7.result c.double-m14.result 7 h c.double-m14.ensures s7 in
    let s15 = row_added q c.double-m14.result c.add_affine-m15.result 14 c.add_affine-m15.ensures s14 in
    let s0 : Stands c.infinity.result (multiple 0 q) = subst (λ p. Stands c.infinity.result p) (sym (multiple_zero q)) c.infinity.ensures in
    (s0, (s1, (s2, (s3, (s4, (s5, (s6, (s7, (s8, (s9, (s10, (s11, (s12, (s13, (s14, (s15, tt))))))))))))))))
