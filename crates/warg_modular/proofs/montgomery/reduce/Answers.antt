use Rattle.std.proofs.Common.{ℕ, ◌+◌, ◌*◌, ◌^◌, ap, sym, ◌∙◌}
use Rattle.warg_modular.specs.Value.{value, wide}
use Rattle.warg_modular.proofs.Rounds.{rounds_total, rounds_added, factors_below, sum_below, same_product, wide_is}
use Rattle.warg_modular.proofs.montgomery.reduce.Goals as goal

pub reduced-requires : goal.reduced-requires
reduced-requires c =
    let r1 = c.round-r in
    let r2 = c.round-r-2 in
    let r3 = c.round-r-3 in
    let r4 = c.round-r-4 in
    let total = rounds_total _ (value c.args.p) _ _ _ _ _ _ _ _ r1.ensures.total r2.ensures.total r3.ensures.total r4.ensures.total in
    let m : ℕ = (r1.ensures.factor + r2.ensures.factor * 2 ^ 64 + r3.ensures.factor * 2 ^ 128 + r4.ensures.factor * 2 ^ 192) * value c.args.p in
    let added = rounds_added _ _ (value c.args.t.high) _ total in
    let below = factors_below (value c.args.p) _ _ _ _ r1.ensures.fits r2.ensures.fits r3.ensures.fits r4.ensures.fits in
    sum_below _ _ _ (wide c.args.t) _ c.add-carry.ensures.total (added ∙ ap (λ v. v + m) (sym (wide_is c.args.t))) c.requires.below below

pub returns-clause-quotient : goal.returns-clause-quotient
returns-clause-quotient c =
    let r1 = c.round-r in
    let r2 = c.round-r-2 in
    let r3 = c.round-r-3 in
    let r4 = c.round-r-4 in
    let total = rounds_total _ (value c.args.p) _ _ _ _ _ _ _ _ r1.ensures.total r2.ensures.total r3.ensures.total r4.ensures.total in
    let m : ℕ = (r1.ensures.factor + r2.ensures.factor * 2 ^ 64 + r3.ensures.factor * 2 ^ 128 + r4.ensures.factor * 2 ^ 192) * value c.args.p in
    let added = rounds_added _ _ (value c.args.t.high) _ total in
    same_product _ _ (wide c.args.t) (r1.ensures.factor + r2.ensures.factor * 2 ^ 64 + r3.ensures.factor * 2 ^ 128 + r4.ensures.factor * 2 ^ 192) (value c.args.p) c.reduced.ensures.same (ap (λ v. v * 2 ^ 256) c.add-carry.ensures.total ∙ added ∙ ap (λ v. v + m) (sym (wide_is c.args.t)))
