use Rattle.std.proofs.Common.{◌≡◌, ℕ, zero, suc, ◌+◌, ◌-◌, ◌*◌, ◌/◌, ◌%◌, ◌^◌, ◌<◌, ◌≤◌, ap, sym, ◌∙◌, refl, subst, List, [], ◌∷◌, length, slice_index_or, arith}
use Rattle.std.proofs.lemmas.Nat.{shr-shr, pow-add}
use Rattle.std.proofs.Math.Nat.{div-one, div-eq_of_lt, div-add-mod}
use Rattle.warg_curve.specs.Curve.{Point, infinity, at, double, add, base}
use Rattle.warg_p256.specs.Elements.{number}
use Rattle.warg_curve.specs.Group.{IsOnCurve, multiple}
use Rattle.warg_curve.proofs.CurveFacts.{add_infinity, add_right}
use Rattle.warg_curve.proofs.OnCurve.{add_on_curve, multiple_on_curve, base_on_curve}
use Rattle.warg_curve.proofs.Opposites.{add_commutes}
use Rattle.warg_curve.proofs.Associative.{add_associates}
use Rattle.warg_curve.proofs.GroupMultiples.{multiple_zero, multiple_more, multiple_one, multiple_plus, multiple_product, multiple_double, multiple_sum, multiple_infinity, exchanged}
use Rattle.warg_modular.specs.declared.words.Words.{Words}
use Rattle.warg_modular.specs.Value.{value}
use Rattle.warg_p256.specs.declared.point.Jacobian.{Jacobian}
use Rattle.warg_p256.specs.Rows.{Stands, AreMultiples}

-- four doublings
pub sixteen_is : (a : Point) → IsOnCurve a → double (double (double (double a))) ≡ multiple 16 a
sixteen_is a h =
    let d1 : double a ≡ multiple 2 a = ap double (sym (multiple_one a)) ∙ sym (multiple_double 1 a h) in
    let d2 : double (double a) ≡ multiple 4 a = ap double d1 ∙ sym (multiple_double 2 a h) in
    let d3 : double (double (double a)) ≡ multiple 8 a = ap double d2 ∙ sym (multiple_double 4 a h) in
    ap double d3 ∙ sym (multiple_double 8 a h)

-- only infinity has no third coordinate
pub only_infinity : (j : Jacobian) (a : Point) → number j.z.words ≡ 0 → Stands j a → a ≡ infinity
only_infinity j infinity e s = refl
only_infinity j (at x y) e s = absurd (s.0 e)

pub sixteen_flat : (j : Jacobian) (a : Point) → number j.z.words ≡ 0 → Stands j a → Stands j (multiple 16 a)
sixteen_flat j a e s = subst (λ p. Stands j p) (only_infinity j a e s ∙ sym (ap (λ p. multiple 16 p) (only_infinity j a e s) ∙ multiple_infinity 16)) s

-- two digits of four bits are one of eight
pub two_digits : (a q : Point) (n : ℕ) → IsOnCurve a → IsOnCurve q →
    add (multiple 16 (add (multiple 16 a) (multiple (n / 16) q))) (multiple (n % 16) q) ≡ add (multiple 256 a) (multiple n q)
two_digits a q n ha hq =
    let h1 = multiple_on_curve 16 a ha in
    let h2 = multiple_on_curve (n / 16) q hq in
    let h3 = multiple_on_curve 16 (multiple 16 a) h1 in
    let h4 = multiple_on_curve 16 (multiple (n / 16) q) h2 in
    let h5 = multiple_on_curve (n % 16) q hq in
    let whole : 16 * (n / 16) + n % 16 ≡ n = div-add-mod n 16 in
    ap (λ p. add p (multiple (n % 16) q)) (multiple_sum 16 (multiple 16 a) (multiple (n / 16) q) h1 h2)
    ∙ add_associates _ _ _ h3 h4 h5
    ∙ ap (λ p. add p (add (multiple 16 (multiple (n / 16) q)) (multiple (n % 16) q))) (sym (multiple_product 16 16 a ha))
    ∙ ap (λ p. add (multiple 256 a) (add p (multiple (n % 16) q))) (sym (multiple_product 16 (n / 16) q hq))
    ∙ ap (λ p. add (multiple 256 a) p) (sym (multiple_plus (16 * (n / 16)) (n % 16) q hq))
    ∙ ap (λ m. add (multiple 256 a) (multiple m q)) whole

-- (b + c) + d + e is (b + e) + (c + d)
paired : (b c d e : Point) → IsOnCurve b → IsOnCurve c → IsOnCurve d → IsOnCurve e → add (add (add b c) d) e ≡ add (add b e) (add c d)
paired b c d e hb hc hd he =
    let cd = add_on_curve c d hc hd in
    let be = add_on_curve b e hb he in
    ap (λ p. add p e) (add_associates b c d hb hc hd ∙ add_commutes b (add c d) hb cd)
    ∙ add_associates (add c d) b e cd hb he
    ∙ add_commutes (add c d) (add b e) cd be

-- a digit more of each number
pub digit_more : (a q : Point) (m k l d e : ℕ) → IsOnCurve a → IsOnCurve q →
    add (add (multiple 256 (add (multiple m a) (add (multiple k base) (multiple l q)))) (multiple e q)) (multiple d base)
    ≡ add (multiple (256 * m) a) (add (multiple (256 * k + d) base) (multiple (256 * l + e) q))
digit_more a q m k l d e ha hq =
    let A : Point = multiple 256 (multiple m a) in
    let B : Point = multiple 256 (multiple k base) in
    let C : Point = multiple 256 (multiple l q) in
    let ma = multiple_on_curve m a ha in
    let kb = multiple_on_curve k base base_on_curve in
    let lq = multiple_on_curve l q hq in
    let hA : IsOnCurve A = multiple_on_curve 256 (multiple m a) ma in
    let hB : IsOnCurve B = multiple_on_curve 256 (multiple k base) kb in
    let hC : IsOnCurve C = multiple_on_curve 256 (multiple l q) lq in
    let hE : IsOnCurve (multiple e q) = multiple_on_curve e q hq in
    let hD : IsOnCurve (multiple d base) = multiple_on_curve d base base_on_curve in
    let hBC = add_on_curve B C hB hC in
    let spread : multiple 256 (add (multiple m a) (add (multiple k base) (multiple l q))) ≡ add A (add B C) =
    multiple_sum 256 (multiple m a) (add (multiple k base) (multiple l q)) ma (add_on_curve _ _ kb lq)
    ∙ ap (λ p. add A p) (multiple_sum 256 (multiple k base) (multiple l q) kb lq) in
    ap (λ p. add (add p (multiple e q)) (multiple d base)) spread
    ∙ ap (λ p. add p (multiple d base)) (add_associates A (add B C) (multiple e q) hA hBC hE)
    ∙ add_associates A (add (add B C) (multiple e q)) (multiple d base) hA (add_on_curve _ _ hBC hE) hD
    ∙ ap (λ p. add A p) (paired B C (multiple e q) (multiple d base) hB hC hE hD)
    ∙ ap (λ p. add p (add (add B (multiple d base)) (add C (multiple e q)))) (sym (multiple_product 256 m a ha))
    ∙ ap (λ p. add (multiple (256 * m) a) (add (add p (multiple d base)) (add C (multiple e q)))) (sym (multiple_product 256 k base base_on_curve))
    ∙ ap (λ p. add (multiple (256 * m) a) (add p (add C (multiple e q)))) (sym (multiple_plus (256 * k) d base base_on_curve))
    ∙ ap (λ p. add (multiple (256 * m) a) (add (multiple (256 * k + d) base) (add p (multiple e q)))) (sym (multiple_product 256 l q hq))
    ∙ ap (λ p. add (multiple (256 * m) a) (add (multiple (256 * k + d) base) p)) (sym (multiple_plus (256 * l) e q hq))

-- a word's digits of eight bits, from the highest
pub digit_is : (v i : ℕ) → 0 < i → 256 * (v / 2 ^ (8 * i)) + (v / 2 ^ (8 * (i - 1))) % 256 ≡ v / 2 ^ (8 * (i - 1))
digit_is v i h =
    let e : 8 * (i - 1) + 8 ≡ 8 * i = omega arith in
    let d : v / 2 ^ (8 * (i - 1)) / 256 ≡ v / 2 ^ (8 * i) = shr-shr v (8 * (i - 1)) 8 ∙ ap (λ n. v / 2 ^ n) e in
    ap (λ w. 256 * w + (v / 2 ^ (8 * (i - 1))) % 256) (sym d) ∙ div-add-mod (v / 2 ^ (8 * (i - 1))) 256

-- how often a point is taken 256 times
scaled : (i : ℕ) → 0 < i → i ≤ 8 → 256 * 2 ^ (8 * (8 - i)) ≡ 2 ^ (8 * (8 - (i - 1)))
scaled i h l =
    let e : 8 * (8 - i) + 8 ≡ 8 * (8 - (i - 1)) = omega arith in
    (let c : 256 * 2 ^ (8 * (8 - i)) ≡ 2 ^ (8 * (8 - i)) * 256 = omega arith in c) ∙ sym (pow-add 2 (8 * (8 - i)) 8) ∙ ap (λ n. 2 ^ n) e

-- what stands after the digits from i on
abbrev pub partial_sum : Point → Point → ℕ → ℕ → ℕ → Point
partial_sum a q k l i = add (multiple (2 ^ (8 * (8 - i))) a) (add (multiple (k / 2 ^ (8 * i)) base) (multiple (l / 2 ^ (8 * i)) q))

pub partial_first : (a q : Point) (k l : ℕ) → k < 2 ^ 64 → l < 2 ^ 64 → a ≡ partial_sum a q k l 8
partial_first a q k l hk hl =
    let ek : k / 2 ^ (8 * 8) ≡ 0 = div-eq_of_lt hk in
    let el : l / 2 ^ (8 * 8) ≡ 0 = div-eq_of_lt hl in
    sym (ap (λ p. add p (add (multiple (k / 2 ^ (8 * 8)) base) (multiple (l / 2 ^ (8 * 8)) q))) (multiple_one a)
    ∙ ap (λ n. add a (add (multiple n base) (multiple (l / 2 ^ (8 * 8)) q))) ek
    ∙ ap (λ n. add a (add (multiple 0 base) (multiple n q))) el
    ∙ ap (λ p. add a (add p (multiple 0 q))) (multiple_zero base)
    ∙ ap (λ p. add a (add infinity p)) (multiple_zero q)
    ∙ ap (λ p. add a p) (add_infinity infinity)
    ∙ add_right a)

pub partial_more : (a q : Point) (k l i : ℕ) → 0 < i → i ≤ 8 → IsOnCurve a → IsOnCurve q →
    add (add (multiple 256 (partial_sum a q k l i)) (multiple ((l / 2 ^ (8 * (i - 1))) % 256) q)) (multiple ((k / 2 ^ (8 * (i - 1))) % 256) base)
    ≡ partial_sum a q k l (i - 1)
partial_more a q k l i h b ha hq =
    digit_more a q (2 ^ (8 * (8 - i))) (k / 2 ^ (8 * i)) (l / 2 ^ (8 * i)) ((k / 2 ^ (8 * (i - 1))) % 256) ((l / 2 ^ (8 * (i - 1))) % 256) ha hq
    ∙ ap (λ n. add (multiple n a) (add (multiple (256 * (k / 2 ^ (8 * i)) + (k / 2 ^ (8 * (i - 1))) % 256) base) (multiple (256 * (l / 2 ^ (8 * i)) + (l / 2 ^ (8 * (i - 1))) % 256) q))) (scaled i h b)
    ∙ ap (λ n. add (multiple (2 ^ (8 * (8 - (i - 1)))) a) (add (multiple n base) (multiple (256 * (l / 2 ^ (8 * i)) + (l / 2 ^ (8 * (i - 1))) % 256) q))) (digit_is k i h)
    ∙ ap (λ n. add (multiple (2 ^ (8 * (8 - (i - 1)))) a) (add (multiple (k / 2 ^ (8 * (i - 1))) base) (multiple n q))) (digit_is l i h)

pub partial_last : (a q : Point) (k l i : ℕ) → i ≤ 0 → partial_sum a q k l i ≡ add (multiple (2 ^ 64) a) (add (multiple k base) (multiple l q))
partial_last a q k l i h =
    let e : i ≡ 0 = omega arith in
    ap (λ n. partial_sum a q k l n) e
    ∙ ap (λ n. add (multiple (2 ^ 64) a) (add (multiple n base) (multiple (l / 2 ^ (8 * 0)) q))) (div-one k)
    ∙ ap (λ n. add (multiple (2 ^ 64) a) (add (multiple k base) (multiple n q))) (div-one l)

pub partial_on_curve : (a q : Point) (k l i : ℕ) → IsOnCurve a → IsOnCurve q → IsOnCurve (partial_sum a q k l i)
partial_on_curve a q k l i ha hq =
    add_on_curve _ _ (multiple_on_curve _ a ha) (add_on_curve _ _ (multiple_on_curve _ base base_on_curve) (multiple_on_curve _ q hq))

-- a row of the table stands for its multiple
row_stands : (q : Point) (n : ℕ) (js : List Jacobian) (i : ℕ) (d : Jacobian) → AreMultiples q n js → i < length js → Stands (slice_index_or js i d) (multiple (n + i) q)
row_stands q n [] i d t h = absurd (omega arith)
row_stands q n (j ∷ js) zero d t h = subst (λ m. Stands j (multiple m q)) (let e : n ≡ n + 0 = omega arith in e) t.0
row_stands q n (j ∷ js) (suc i) d t h = subst (λ m. Stands (slice_index_or js i d) (multiple m q)) (let e : suc n + i ≡ n + suc i = omega arith in e) (row_stands q (suc n) js i d t.1 (omega arith))

-- a row by doubling, and one by adding the point
pub row_doubled : (q : Point) (j r : Jacobian) (k : ℕ) → IsOnCurve q → ((a : Point) → Stands j a → Stands r (double a)) → Stands j (multiple k q) → Stands r (multiple (2 * k) q)
row_doubled q j r k h d s = subst (λ p. Stands r p) (sym (multiple_double k q h)) (d (multiple k q) s)

pub row_added : (q : Point) (j r : Jacobian) (k : ℕ) → ((a : Point) → Stands j a → Stands r (add a q)) → Stands j (multiple k q) → Stands r (multiple (suc k) q)
row_added q j r k d s = subst (λ p. Stands r p) (sym (multiple_more k q)) (d (multiple k q) s)

-- a word more of each number
pub word_more : (q : Point) (n k l d e : ℕ) → IsOnCurve q →
    add (multiple n (add (multiple k base) (multiple l q))) (add (multiple d base) (multiple e q)) ≡ add (multiple (n * k + d) base) (multiple (n * l + e) q)
word_more q n k l d e hq =
    let kb = multiple_on_curve k base base_on_curve in
    let lq = multiple_on_curve l q hq in
    let nk = multiple_on_curve n (multiple k base) kb in
    let nl = multiple_on_curve n (multiple l q) lq in
    let db = multiple_on_curve d base base_on_curve in
    let eq = multiple_on_curve e q hq in
    ap (λ p. add p (add (multiple d base) (multiple e q))) (multiple_sum n (multiple k base) (multiple l q) kb lq)
    ∙ exchanged _ _ _ _ nk nl db eq
    ∙ ap (λ p. add (add p (multiple d base)) (add (multiple n (multiple l q)) (multiple e q))) (sym (multiple_product n k base base_on_curve))
    ∙ ap (λ p. add p (add (multiple n (multiple l q)) (multiple e q))) (sym (multiple_plus (n * k) d base base_on_curve))
    ∙ ap (λ p. add (multiple (n * k + d) base) (add p (multiple e q))) (sym (multiple_product n l q hq))
    ∙ ap (λ p. add (multiple (n * k + d) base) p) (sym (multiple_plus (n * l) e q hq))

-- the first word of each number
pub word_first : (q : Point) (n d e : ℕ) → add (multiple n infinity) (add (multiple d base) (multiple e q)) ≡ add (multiple d base) (multiple e q)
word_first q n d e = ap (λ p. add p (add (multiple d base) (multiple e q))) (multiple_infinity n) ∙ add_infinity _

-- a number by its words
pub by_words : (w : Words) → 2 ^ 64 * (2 ^ 64 * (2 ^ 64 * w.l3 + w.l2) + w.l1) + w.l0 ≡ value w
unfolding value
by_words w = omega arith

-- a row of a table that begins with no times
pub row_is : (q : Point) (js : List Jacobian) (i : ℕ) (d : Jacobian) → AreMultiples q 0 js → i < length js → Stands (slice_index_or js i d) (multiple i q)
row_is q js i d t h = subst (λ m. Stands (slice_index_or js i d) (multiple m q)) (let e : 0 + i ≡ i = omega arith in e) (row_stands q 0 js i d t h)
