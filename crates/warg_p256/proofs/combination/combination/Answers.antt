use Rattle.std.proofs.Common.{ℕ, ◌+◌, ◌*◌, ◌^◌, subst, ap, ◌∙◌}
use Rattle.warg_modular.specs.Value.{value}
use Rattle.warg_curve.specs.Curve.{Point, at, infinity, add, base}
use Rattle.warg_curve.specs.Group.{IsOnCurve, multiple}
use Rattle.warg_p256.specs.Elements.{number}
use Rattle.warg_curve.proofs.OnCurve.{infinity_on_curve, add_on_curve, multiple_on_curve, base_on_curve}
use Rattle.warg_p256.specs.Rows.{Stands}
use Rattle.warg_p256.proofs.Combinations.{word_first, word_more, by_words}
use Rattle.warg_p256.proofs.combination.combination.Goals as goal

pub returns : goal.returns
returns c =
    let q : Point = at (number c.args.q.x.words) (number c.args.q.y.words) in
    let h : IsOnCurve q = c.requires in
    let k = c.args.k in
    let l = c.args.l in
    let both : ℕ → ℕ → Point = λ m n. add (multiple m base) (multiple n q) in
    let on_curve : (m n : ℕ) → IsOnCurve (both m n) = λ m n. add_on_curve _ _ (multiple_on_curve m base base_on_curve) (multiple_on_curve n q h) in
    let s3 = subst (λ p. Stands c.add_word-r.result p) (word_first q (2 ^ 64) k.l3 l.l3) (c.add_word-r.ensures infinity q infinity_on_curve h c.infinity.ensures c.multiples-table.ensures) in
    let s2 = subst (λ p. Stands c.add_word-r-2.result p) (word_more q (2 ^ 64) k.l3 l.l3 k.l2 l.l2 h) (c.add_word-r-2.ensures _ q (on_curve k.l3 l.l3) h s3 c.multiples-table.ensures) in
    let k2 : ℕ = 2 ^ 64 * k.l3 + k.l2 in
    let l2 : ℕ = 2 ^ 64 * l.l3 + l.l2 in
    let s1 = subst (λ p. Stands c.add_word-r-3.result p) (word_more q (2 ^ 64) k2 l2 k.l1 l.l1 h) (c.add_word-r-3.ensures _ q (on_curve k2 l2) h s2 c.multiples-table.ensures) in
    let k1 : ℕ = 2 ^ 64 * k2 + k.l1 in
    let l1 : ℕ = 2 ^ 64 * l2 + l.l1 in
    subst (λ p. Stands c.add_word.result p) (word_more q (2 ^ 64) k1 l1 k.l0 l.l0 h ∙ ap (λ n. both n (2 ^ 64 * l1 + l.l0)) (by_words k) ∙ ap (λ n. both (value k) n) (by_words l))
    (c.add_word.ensures _ q (on_curve k1 l1) h s1 c.multiples-table.ensures)
