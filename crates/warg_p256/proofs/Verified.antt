use Rattle.std.proofs.Common.{◌≡◌, ℕ, ◌+◌, ◌-◌, ◌%◌, ◌^◌, ◌<◌, ◌⊎◌, inl, inr, List, [], length, Bool, true, ap, sym, ◌∙◌, refl, subst, arith}
use Rattle.std.proofs.lemmas.Bool.{cases_eq}
use Rattle.std.proofs.Math.Nat.{mod-eq_of_lt, mod_self}
use Rattle.sha2.specs.Sha256.{sha256}
use Rattle.warg_modular.specs.BigEndian.{big_endian}
use Rattle.warg_curve.specs.Field.{prime, times}
use Rattle.warg_curve.specs.Curve.{at}
use Rattle.warg_p256.specs.Sec1.{IsUncompressed, IsCompressed}
use Rattle.warg_curve.specs.Group.{IsOnCurve, right_side_of}
use Rattle.warg_p256.specs.Der.{IsDer, integer}
use Rattle.warg_p256.specs.Ecdsa.{IsSignature, IsVerified}
use Rattle.warg_p256.proofs.Roots.{two_roots}
use Rattle.warg_p256.proofs.DerFacts.{split_text, after_two}

prime_odd : prime % 2 ≡ 1
unfolding prime
prime_odd = refl

same_root : (y t : ℕ) → y < prime → t < prime → times y y ≡ times t t → y % 2 ≡ t % 2 → y ≡ t
same_root y t hy ht e p = elim (two_roots y t hy ht e) [
  | inl h ↦ sym h
  | inr h ↦ elim (cases_eq y 0) [
    | inl z ↦
        let m : 0 + (prime - y) ≡ prime = omega arith in
        z ∙ sym (h ∙ ap (λ v. v % prime) m ∙ mod_self prime)
    | inr n ↦
        let m : t ≡ prime - y = h ∙ ap (λ v. v % prime) (let o : 0 + (prime - y) ≡ prime - y = omega arith in o) ∙ mod-eq_of_lt (omega arith) in
        let o : prime % 2 ≡ 1 = prime_odd in
        absurd (omega arith)
  ]
]

key_once : (bs : List ℕ) (x y u v : ℕ) → IsUncompressed bs x y ⊎ IsCompressed bs x y → IsUncompressed bs u v ⊎ IsCompressed bs u v → (x ≡ u) × (y ≡ v)
unfolding IsOnCurve
key_once bs x y u v a b = elim a [
  | inl g ↦ elim b [
    | inl h ↦ (sym g.x_is ∙ h.x_is, sym g.y_is ∙ h.y_is)
    | inr h ↦ absurd (let i : length bs ≡ 65 = g.length_is in let j : length bs ≡ 33 = h.length_is in omega arith)
  ]
  | inr g ↦ elim b [
    | inl h ↦ absurd (let i : length bs ≡ 33 = g.length_is in let j : length bs ≡ 65 = h.length_is in omega arith)
    | inr h ↦
        let ex : x ≡ u = sym g.x_is ∙ h.x_is in
        let ey : times y y ≡ times v v = g.on_curve.2 ∙ ap right_side_of ex ∙ sym h.on_curve.2 in
        let i = g.tag_is in
        let j = h.tag_is in
        (ex, same_root y v g.on_curve.1 h.on_curve.1 ey (omega (arith, i, j)))
  ]
]

der_once : (bs : List ℕ) (r s u v : ℕ) → (g : IsDer bs r s) → (h : IsDer bs u v) → (r ≡ u) × (s ≡ v)
der_once bs r s u v g h =
    let first = split_text g.first (integer g.second []) h.first (integer h.second []) (sym (after_two bs _ _ _ g.text) ∙ after_two bs _ _ _ h.text) in
    let second = split_text g.second [] h.second [] first.1 in (
      sym g.r_is.value_is ∙ ap (λ t. big_endian t % 2 ^ 256) first.0 ∙ h.r_is.value_is,
      sym g.s_is.value_is ∙ ap (λ t. big_endian t % 2 ^ 256) second.0 ∙ h.s_is.value_is,
    )

pub verified : (key message signature : List ℕ) (x y r s e : ℕ) (b : Bool) → IsUncompressed key x y ⊎ IsCompressed key x y → IsDer signature r s → e ≡ big_endian (sha256 message) % 2 ^ 256 →
    ((b ≡ true → IsSignature (at x y) e r s) × (IsSignature (at x y) e r s → b ≡ true)) →
    (b ≡ true → IsVerified key message signature) × (IsVerified key message signature → b ≡ true)
verified key message signature x y r s e b k d h w = (
  λ t. record { x = x; y = y; r = r; s = s; key_is = k; der_is = d; signature_is = subst (λ n. IsSignature (at x y) n r s) h (w.0 t) },
  λ g.
      let p = key_once key g.x g.y x y g.key_is k in
      let q = der_once signature g.r g.s r s g.der_is d in
      let a = subst (λ n. IsSignature (at n g.y) (big_endian (sha256 message) % 2 ^ 256) g.r g.s) p.0 g.signature_is in
      let c = subst (λ n. IsSignature (at x n) (big_endian (sha256 message) % 2 ^ 256) g.r g.s) p.1 a in
      let f = subst (λ n. IsSignature (at x y) (big_endian (sha256 message) % 2 ^ 256) n g.s) q.0 c in
      let i = subst (λ n. IsSignature (at x y) (big_endian (sha256 message) % 2 ^ 256) r n) q.1 f in
      w.1 (subst (λ n. IsSignature (at x y) n r s) (sym h) i),
)
