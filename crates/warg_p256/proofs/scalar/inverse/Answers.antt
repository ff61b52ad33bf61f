use Rattle.std.proofs.Common.{◌≡◌, ℕ, ◌+◌, ◌*◌, ◌%◌, ◌≤◌, sym, subst, arith}
use Rattle.warg_modular.proofs.Rounds.{from_bool_le}
use Rattle.warg_modular.specs.Value.{value}
use Rattle.warg_curve.specs.Order.{order}
use Rattle.warg_p256.specs.Scalars.{scalar}
use Rattle.warg_p256.proofs.FieldElements.{n_is}
use Rattle.warg_p256.proofs.Scalars.{scalar_below, scalar_from_zero, radix_times}
use Rattle.warg_p256.proofs.AddedPoint.{not_zero}
use Rattle.warg_p256.proofs.Inverting.{Euclid, euclid_start, euclid_even, euclid_less, euclid_swapped, euclid_end, inverted, zero_inverted, not_less}
use Rattle.warg_p256.proofs.scalar.inverse.Goals as goal

pub returns-then-is_zero : goal.returns-then-is_zero
returns-then-is_zero c = zero_inverted (scalar c.args.a.words) (scalar_from_zero c.args.a.words (c.is_zero.ensures.0 c.if-is_zero.true))

pub loop-u-init : goal.loop-u-init
loop-u-init c =
    let a : ℕ = value c.args.a.words in
    let b : ℕ = scalar c.args.a.words in
    let radix : ℕ = scalar c.radix-s.result.words in
    let start : Euclid a b a order radix 0 = euclid_start a b radix (radix_times radix c.args.a.words c.radix-s.ensures) in
    subst (λ v. Euclid a b a v radix (scalar c.zero-r.result.words)) (sym n_is) (subst (λ r. Euclid a b a order radix r) (sym c.zero-r.ensures) start)

pub loop-u-preserved-then-is_even : goal.loop-u-preserved-then-is_even
loop-u-preserved-then-is_even c =
    let even = c.is_even.ensures.0 c.if-is_even.true in
    let twice : value c.loop-u.u ≡ value c.half-u.result * 2 = omega (arith, even, c.half-u.ensures) in
    euclid_even _ _ _ _ _ _ _ _ c.loop-u.invariant twice c.halved-s.ensures

pub loop-u-preserved-then-is_less : goal.loop-u-preserved-then-is_less
loop-u-preserved-then-is_less c =
    let k = c.loop-u.invariant in
    let uneven = not_zero _ _ c.is_even.ensures c.if-is_even.false in
    let odd : value c.loop-u.u % 2 ≡ 1 = omega (arith, uneven) in
    let less = c.is_less.ensures.0 c.if-is_less.true in
    let sum : value c.sub.result.0 + value c.loop-u.u ≡ value c.loop-u.v = omega (arith, from_bool_le c.sub.result.1, c.sub.ensures.total, c.sub.ensures.below, less) in
    let twice : value c.sub.result.0 ≡ value c.half-u-then-is_less.result * 2 = omega (arith, sum, odd, k.odd, c.half-u-then-is_less.ensures) in
    let rest = euclid_less _ _ _ _ _ _ _ _ (euclid_swapped _ _ _ _ _ _ k odd) sum c.difference.ensures in
    euclid_even _ _ _ _ _ _ _ _ rest twice c.halved-next.ensures

pub loop-u-preserved : goal.loop-u-preserved
loop-u-preserved c =
    let k = c.loop-u.invariant in
    let uneven = not_zero _ _ c.is_even.ensures c.if-is_even.false in
    let odd : value c.loop-u.u % 2 ≡ 1 = omega (arith, uneven) in
    let least : value c.loop-u.v ≤ value c.loop-u.u = not_less _ _ _ c.is_less.ensures c.if-is_less.false in
    let sum : value c.sub-else-is_less.result.0 + value c.loop-u.v ≡ value c.loop-u.u =
    omega (arith, from_bool_le c.sub-else-is_less.result.1, c.sub-else-is_less.ensures.total, c.sub-else-is_less.ensures.below, least) in
    let twice : value c.sub-else-is_less.result.0 ≡ value c.half-u-else-is_less.result * 2 = omega (arith, sum, odd, k.odd, c.half-u-else-is_less.ensures) in
    let rest = euclid_less _ _ _ _ _ _ _ _ k sum c.difference-else-is_less.ensures in
    euclid_even _ _ _ _ _ _ _ _ rest twice c.halved-s-else-is_less.ensures

pub returns : goal.returns
returns c =
    let none : value c.loop-u.u ≡ 0 = c.is_zero-in-loop-u.ensures.0 c.loop-u-test.false in
    let some = not_zero _ _ c.is_zero.ensures c.if-is_zero.false in
    inverted (scalar c.args.a.words) (scalar c.loop-u.r.words) (scalar_below c.args.a.words) (scalar_below c.loop-u.r.words)
    (euclid_end _ _ _ _ _ _ c.loop-u.invariant none some c.args.a.reduced)
