use Rattle.std.proofs.Common.{◌≡◌, ◌≢◌, ℕ, ◌+◌, ◌-◌, ◌*◌, ◌%◌, ◌^◌, ◌<◌, ◌≤◌, ◌⊎◌, inl, inr, Bool, true, false, ap, sym, ◌∙◌, refl, subst, lit<, arith}
use Rattle.std.proofs.lemmas.Bool.{cases_lt}
use Rattle.std.proofs.Math.Nat.{mod-eq_of_lt, mod-eq-sub-mod, add-mod_right, pow-suc, pow-zero, mul-one}
use Rattle.std.proofs.lemmas.Nat.{pow-add}
use Rattle.warg_primes.proofs.Congruent.{Same, same, same_of, same_mod, back, then, both_times}
use Rattle.warg_primes.proofs.Divisors.{IsPrime}
use Rattle.warg_primes.proofs.Chain.{order_256}
use Rattle.warg_primes.proofs.Fermat.{fermat}
use Rattle.std.specs.Int.{from_bool}
use Rattle.warg_modular.proofs.Rounds.{from_bool_le}
use Rattle.warg_modular.specs.Value.{value}
use Rattle.warg_curve.specs.Field.{prime, times}
use Rattle.warg_curve.specs.Order.{order}
use Rattle.warg_curve.specs.Curve.{Point, infinity, at, inverse, add, base}
use Rattle.warg_curve.specs.Group.{multiple}
use Rattle.warg_p256.specs.Coordinates.{StandsFor}
use Rattle.warg_p256.specs.Ecdsa.{HasX, IsSignature}
use Rattle.warg_curve.proofs.CurveFacts.{whole, times_below, one_number, zero_factor}
use Rattle.warg_curve.proofs.Inverses.{has_inverses}

pub order_is_prime : IsPrime order
unfolding order
order_is_prime = order_256

pub order_below : order < prime
unfolding order prime
order_below = lit< tt

twice_above : prime < order + order
unfolding order prime
twice_above = lit< tt

pub prime_small : prime < 2 ^ 256
unfolding prime
prime_small = lit< tt

pub gap_is : value record { l0 = 884452912994769582; l1 = 4834901530490986875; l2 = 0; l3 = 0 } + order ≡ prime
unfolding value order prime
gap_is = refl

-- a number below twice the modulus is its remainder, or once the modulus more
remainder_cases : (x n v : ℕ) → x < n + n → x % n ≡ v → (x ≡ v) ⊎ (x ≡ v + n)
remainder_cases x n v h e = elim (cases_lt x n) [
  | inl l ↦ inl (sym (mod-eq_of_lt l) ∙ e)
  | inr g ↦
      let s : x - n ≡ v = sym (mod-eq_of_lt (omega arith)) ∙ sym (mod-eq-sub-mod g) ∙ e in
      inr (omega arith)
]

-- a common factor that is not 0 can be left out
left_out : (a b c : ℕ) → a < prime → b < prime → c < prime → c ≢ 0 → times a c ≡ times b c → a ≡ b
left_out a b c ha hb hc nc e =
    let k : ℕ = inverse c in
    let one : Same prime (c * k) 1 = then (back (whole (c * k))) (same_of _ _ (has_inverses c hc nc)) in
    let ea : a * c * k ≡ a * (c * k) = omega arith in
    let eb : b * c * k ≡ b * (c * k) = omega arith in
    let la : Same prime (a * c * k) a = then (same_of _ _ ea) (then (both_times (same a) one) (same_of _ _ (mul-one a))) in
    let lb : Same prime (b * c * k) b = then (same_of _ _ eb) (then (both_times (same b) one) (same_of _ _ (mul-one b))) in
    one_number a b ha hb (then (back la) (then (both_times (record { is = e }) (same k)) lb))

-- the test of x / z ^ 2 against v, without a division
pub test_x : (X Y Z x y zz m v product : ℕ) → StandsFor X Y Z (at x y) → zz ≡ times Z Z → m ≡ v % prime → v < prime → product ≡ times m zz → Z < prime →
    (product ≡ X → x ≡ v) × (x ≡ v → product ≡ X)
test_x X Y Z x y zz m v product st ez em hv ep hZ =
    let mv : m ≡ v = em ∙ mod-eq_of_lt hv in
    let nz : times Z Z ≢ 0 = zero_factor has_inverses Z Z hZ hZ st.0 st.0 in
    let is : product ≡ times v (times Z Z) = ep ∙ ap (λ w. times w zz) mv ∙ ap (λ w. times v w) ez in (
      λ e. left_out x v (times Z Z) st.1 hv (times_below Z Z) nz (sym st.3 ∙ sym e ∙ is),
      λ e. is ∙ ap (λ w. times w (times Z Z)) (sym e) ∙ sym st.3,
    )

pub no_x : (X Y Z v : ℕ) → Z ≡ 0 → (a : Point) → StandsFor X Y Z a → (false ≡ true → HasX a v) × (HasX a v → false ≡ true)
no_x X Y Z v e infinity st = (λ f. absurd (cc), λ h. absurd h)
no_x X Y Z v e (at x y) st = absurd (st.0 e)

pub first_x : (X Y Z zz m v product : ℕ) → Z ≢ 0 → zz ≡ times Z Z → m ≡ v % prime → v < order → product ≡ times m zz → Z < prime → product ≡ X →
    (a : Point) → StandsFor X Y Z a → (true ≡ true → HasX a v) × (HasX a v → true ≡ true)
first_x X Y Z zz m v product nz ez em hv ep hZ e infinity st = absurd (nz st)
first_x X Y Z zz m v product nz ez em hv ep hZ e (at x y) st =
    let o : order < prime = order_below in
    let vx : x ≡ v = (test_x X Y Z x y zz m v product st ez em (omega arith) ep hZ).0 e in
    (λ _. ap (λ w. w % order) vx ∙ mod-eq_of_lt hv, λ _. refl)

pub gap_x : (X Y Z zz m v product gap : ℕ) → Z ≢ 0 → zz ≡ times Z Z → m ≡ v % prime → v < order → product ≡ times m zz → Z < prime → product ≢ X → gap + order ≡ prime → gap ≤ v →
    (a : Point) → StandsFor X Y Z a → (false ≡ true → HasX a v) × (HasX a v → false ≡ true)
gap_x X Y Z zz m v product gap nz ez em hv ep hZ e g l infinity st = absurd (nz st)
gap_x X Y Z zz m v product gap nz ez em hv ep hZ e g l (at x y) st =
    let o : order < prime = order_below in
    let t : prime < order + order = twice_above in
    let hx : x < prime = st.1 in
    let both = test_x X Y Z x y zz m v product st ez em (omega arith) ep hZ in
    (λ f. absurd (cc), λ h. absurd (elim (remainder_cases x order v (omega arith) h) [ inl a ↦ e (both.1 a) | inr b ↦ (omega arith) ]))

pub second_x : (X Y Z zz m v product m2 v2 product2 : ℕ) (b : Bool) → Z ≢ 0 → zz ≡ times Z Z → m ≡ v % prime → v < order → product ≡ times m zz → Z < prime → product ≢ X →
    m2 ≡ v2 % prime → v2 ≡ v + order → v2 < prime → product2 ≡ times m2 zz → ((b ≡ true → product2 ≡ X) × (product2 ≡ X → b ≡ true)) →
    (a : Point) → StandsFor X Y Z a → (b ≡ true → HasX a v) × (HasX a v → b ≡ true)
second_x X Y Z zz m v product m2 v2 product2 b nz ez em hv ep hZ e em2 ev2 hv2 ep2 t2 infinity st = absurd (nz st)
second_x X Y Z zz m v product m2 v2 product2 b nz ez em hv ep hZ e em2 ev2 hv2 ep2 t2 (at x y) st =
    let o : order < prime = order_below in
    let t : prime < order + order = twice_above in
    let hx : x < prime = st.1 in
    let both = test_x X Y Z x y zz m v product st ez em (omega arith) ep hZ in
    let both2 = test_x X Y Z x y zz m2 v2 product2 st ez em2 hv2 ep2 hZ in (
      λ f. ap (λ w. w % order) (both2.0 (t2.0 f) ∙ ev2) ∙ add-mod_right v order ∙ mod-eq_of_lt hv,
      λ h. elim (remainder_cases x order v (omega arith) h) [ inl a ↦ absurd (e (both.1 a)) | inr c ↦ t2.1 (both2.1 (c ∙ sym ev2)) ],
    )

powered : (a k : ℕ) → a * a ^ k ≡ a ^ (k + 1)
powered a k = (let e : a * a ^ k ≡ a ^ k * a = omega arith in e) ∙ sym (pow-add a k 1 ∙ ap (λ v. a ^ k * v) (pow-suc a 0 ∙ ap (λ v. v * a) (pow-zero a) ∙ (let e : 1 * a ≡ a = omega arith in e)))

-- the inverse of s, by Fermat's little theorem
pub inverse_is : (s f w : ℕ) → 0 < s → s < order → f ≡ s % order → w ≡ (f ^ (order - 2)) % order → (s * w) % order ≡ 1
inverse_is s f w pos h ef ew =
    let fs : f ≡ s = ef ∙ mod-eq_of_lt h in
    let ns : s ≢ 0 = omega arith in
    let one : Same order (s ^ (order - 1)) 1 = fermat order s order_is_prime h ns in
    let above : 1 < order = order_is_prime.above in
    let e0 : order - 1 ≡ order - 2 + 1 = omega arith in
    let w' : Same order w (s ^ (order - 2)) = then (same_mod order w (f ^ (order - 2)) ew) (same_of _ _ (ap (λ v. v ^ (order - 2)) fs)) in
    let p : Same order (s * w) 1 = then (both_times (same s) w') (then (same_of _ _ (powered s (order - 2) ∙ ap (λ v. s ^ v) (sym e0))) one) in
    p.is ∙ mod-eq_of_lt above

-- there is but one
pub one_inverse : (s w v : ℕ) → w < order → v < order → (s * w) % order ≡ 1 → (s * v) % order ≡ 1 → w ≡ v
one_inverse s w v hw hv ew ev =
    let above : 1 < order = order_is_prime.above in
    let one : Same order (s * w) 1 = record { is = ew ∙ sym (mod-eq_of_lt above) } in
    let two : Same order (s * v) 1 = record { is = ev ∙ sym (mod-eq_of_lt above) } in
    let e1 : w ≡ w * 1 = omega arith in
    let e2 : w * (s * v) ≡ (s * w) * v = omega arith in
    let e3 : 1 * v ≡ v = omega arith in
    let s0 : Same order w v = then (same_of _ _ e1) (then (both_times (same w) (back two)) (then (same_of _ _ e2) (then (both_times one (same v)) (same_of _ _ e3)))) in
    sym (mod-eq_of_lt hw) ∙ s0.is ∙ mod-eq_of_lt hv

pub accepted : (q : Point) (e r s w u v : ℕ) (b : Bool) → 0 < r → r < order → 0 < s → s < order → w < order → (s * w) % order ≡ 1 →
    u ≡ (e * w) % order → v ≡ (r * w) % order →
    ((b ≡ true → HasX (add (multiple u base) (multiple v q)) r) × (HasX (add (multiple u base) (multiple v q)) r → b ≡ true)) →
    (b ≡ true → IsSignature q e r s) × (IsSignature q e r s → b ≡ true)
accepted q e r s w u v b hr1 hr hs1 hs hw ew eu ev h =
    let P : ℕ → ℕ → Type 0 = λ (m n : ℕ). HasX (add (multiple m base) (multiple n q)) r in (
      λ t. record { r_some = hr1; r_below = hr; s_some = hs1; s_below = hs; w = w; w_below = hw; w_is = ew; x_is = subst (λ m. P m ((r * w) % order)) eu (subst (λ n. P u n) ev (h.0 t)) },
      λ g.
          let same_w : g.w ≡ w = one_inverse s g.w w g.w_below hw g.w_is ew in
          let x : P ((e * w) % order) ((r * w) % order) = subst (λ z. P ((e * z) % order) ((r * z) % order)) same_w g.x_is in
          h.1 (subst (λ m. P m v) (sym eu) (subst (λ n. P ((e * w) % order) n) (sym ev) x)),
    )

pub refused : (q : Point) (e r s : ℕ) → (IsSignature q e r s → ⊥) → (false ≡ true → IsSignature q e r s) × (IsSignature q e r s → false ≡ true)
refused q e r s h = (λ f. absurd (cc), λ g. absurd (h g))

pub not_equal : (b : Bool) (m n : ℕ) → ((b ≡ true → m ≡ n) × (m ≡ n → b ≡ true)) → b ≡ false → m ≢ n
not_equal b m n h f e = let g : b ≡ true = h.1 e in cc

pub not_less : (b : Bool) (m n : ℕ) → ((b ≡ true → m < n) × (m < n → b ≡ true)) → b ≡ false → n ≤ m
not_less b m n h f = elim (cases_lt m n) [ inl l ↦ absurd (let g : b ≡ true = h.1 l in cc) | inr o ↦ o ]

-- the sum with the order does not pass 2 ^ 256
pub no_carry : (r t n gap : ℕ) (b : Bool) → t + from_bool b * 2 ^ 256 ≡ r + n → n ≡ order → gap + order ≡ prime → r < gap → t ≡ r + order
no_carry r t n gap b e en eg l =
    let c : from_bool b ≤ 1 = from_bool_le b in
    let s : prime < 2 ^ 256 = prime_small in
    omega arith
