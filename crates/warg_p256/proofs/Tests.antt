use Rattle.std.proofs.Common.{◌≡◌, ℕ, ◌+◌, ◌*◌, ◌%◌, ◌^◌, ◌<◌, ◌≤◌, ◌⊎◌, inl, inr, Bool, ◌&&◌, ◌||◌, List, [], ◌∷◌, length, take, drop, ap, sym, ◌∙◌, refl, subst, append-nil, arith}
use Rattle.std.specs.Prelude.{slice_index, nat_le}
use Rattle.std.specs.Bool.{Decides}
use Rattle.std.proofs.lemmas.Bool.{cases_lt, leb-true, le-leb}
use Rattle.std.proofs.lemmas.Bool.Decides.{Decides-eqb, Decides-ltb, Decides-and, Decides-or, Decides-like, Decides-below_or}
use Rattle.std.proofs.lemmas.Slice.Eq.{bytes_eq-Decides}
use Rattle.std.proofs.Math.Seq.{take-append_seam, drop-append_seam}
use Rattle.sha2.specs.Sha256.{sha256}
use Rattle.warg_modular.specs.BigEndian.{big_endian}
use Rattle.warg_curve.specs.Field.{prime, times}
use Rattle.warg_curve.specs.Order.{order}
use Rattle.warg_curve.specs.Curve.{Point, infinity, at, add, base}
use Rattle.warg_curve.specs.Group.{IsOnCurve, right_side_of, multiple}
use Rattle.warg_p256.specs.Sec1.{IsUncompressed, IsCompressed, IsKey, number_at}
use Rattle.warg_p256.specs.Der.{IsInteger, IsDer, integer}
use Rattle.warg_p256.specs.Ecdsa.{HasX, IsSignature, IsVerified}
use Rattle.warg_p256.specs.Verified.{any_below, is_uncompressed, is_compressed, is_key, is_integer, is_der, has_x, is_signature, is_verified}

-- both, of three
and3 : {P Q R : Type 0} (a b c : Bool) → Decides a P → Decides b Q → Decides c R → Decides (a && (b && c)) (P × (Q × R))
and3 a b c p q r = Decides-and a (b && c) p (Decides-and b c q r)

at_most : (a b : ℕ) → Decides (nat_le a b) (a ≤ b)
at_most a b = (leb-true a b, le-leb a b)

-- `any_below` tells whether there is such a number
pub decides_below : (n : ℕ) (test : ℕ → Bool) (P : ℕ → Type 0) → ((k : ℕ) → Decides (test k) (P k)) → Decides (any_below n test) ((k : ℕ) × (k < n) × P k)
unfolding any_below
decides_below n test P each = Decides-below_or test P (λ m. any_below m test) each refl (λ m. refl) n

-- what a key's bytes say beside that x and y are numbers of the field
abbrev IsUncompressedAt : List ℕ → ℕ → ℕ → Type 0
IsUncompressedAt bytes x y =
    (length bytes ≡ 65) × ((slice_index bytes 0 ≡ 4) × ((number_at bytes 1 ≡ x) × ((number_at bytes 33 ≡ y) × (times y y ≡ right_side_of x))))

abbrev IsCompressedAt : List ℕ → ℕ → ℕ → Type 0
IsCompressedAt bytes x y = (length bytes ≡ 33) × ((slice_index bytes 0 ≡ 2 + y % 2) × ((number_at bytes 1 ≡ x) × (times y y ≡ right_side_of x)))

key_decides : (bytes : List ℕ) (x y : ℕ) → Decides (is_uncompressed bytes x y || is_compressed bytes x y) (IsUncompressedAt bytes x y ⊎ IsCompressedAt bytes x y)
key_decides bytes x y = Decides-or _ _
    (and3 _ _ _ (Decides-eqb (length bytes) 65) (Decides-eqb (slice_index bytes 0) 4)
    (and3 _ _ _ (Decides-eqb (number_at bytes 1) x) (Decides-eqb (number_at bytes 33) y) (Decides-eqb (times y y) (right_side_of x))))
    (and3 _ _ _ (Decides-eqb (length bytes) 33) (Decides-eqb (slice_index bytes 0) (2 + y % 2))
    (Decides-and _ _ (Decides-eqb (number_at bytes 1) x) (Decides-eqb (times y y) (right_side_of x))))

key_from : (bytes : List ℕ) (x y : ℕ) → x < prime → y < prime → IsUncompressedAt bytes x y ⊎ IsCompressedAt bytes x y → IsUncompressed bytes x y ⊎ IsCompressed bytes x y
unfolding IsOnCurve
key_from bytes x y hx hy k = elim k [
  | inl g ↦ inl (record { length_is = g.0; tag_is = g.1.0; x_is = g.1.1.0; y_is = g.1.1.1.0; on_curve = (hx, hy, g.1.1.1.1) })
  | inr g ↦ inr (record { length_is = g.0; tag_is = g.1.0; x_is = g.1.1.0; on_curve = (hx, hy, g.1.1.1) })
]

key_to : (bytes : List ℕ) (x y : ℕ) → IsUncompressed bytes x y ⊎ IsCompressed bytes x y → (x < prime) × (y < prime) × (IsUncompressedAt bytes x y ⊎ IsCompressedAt bytes x y)
unfolding IsOnCurve
key_to bytes x y k = elim k [
  | inl g ↦ (g.on_curve.0, g.on_curve.1, inl (g.length_is, (g.tag_is, (g.x_is, (g.y_is, g.on_curve.2)))))
  | inr g ↦ (g.on_curve.0, g.on_curve.1, inr (g.length_is, (g.tag_is, (g.x_is, g.on_curve.2))))
]

-- `is_key` is true exactly where `IsKey` holds
pub is_key_decides : (bytes : List ℕ) (x y : ℕ) → x < prime → y < prime → Decides (is_key bytes x y) (IsKey bytes x y)
is_key_decides bytes x y hx hy = Decides-like _ (key_from bytes x y hx hy) (λ k. (key_to bytes x y k).2) (key_decides bytes x y)

-- a key is a point of the curve
pub key_on_curve : (bytes : List ℕ) (x y : ℕ) → IsKey bytes x y → IsOnCurve (at x y)
key_on_curve bytes x y k = elim k [ inl g ↦ g.on_curve | inr g ↦ g.on_curve ]

integer_decides : (bytes : List ℕ) (n : ℕ) → Decides (is_integer bytes n)
    ((0 < length bytes) × ((length bytes ≤ 33) × (((length bytes < 33) ⊎ (slice_index bytes 0 ≡ 0)) × ((slice_index bytes 0 < 128)
    × (((length bytes ≡ 1) ⊎ ((0 < slice_index bytes 0) ⊎ (128 ≤ slice_index bytes 1))) × (big_endian bytes % 2 ^ 256 ≡ n))))))
integer_decides bytes n =
    and3 _ _ _ (Decides-ltb 0 (length bytes)) (at_most (length bytes) 33)
    (and3 _ _ _ (Decides-or _ _ (Decides-ltb (length bytes) 33) (Decides-eqb (slice_index bytes 0) 0)) (Decides-ltb (slice_index bytes 0) 128)
    (Decides-and _ _ (Decides-or _ _ (Decides-eqb (length bytes) 1) (Decides-or _ _ (Decides-ltb 0 (slice_index bytes 0)) (at_most 128 (slice_index bytes 1))))
    (Decides-eqb (big_endian bytes % 2 ^ 256) n)))

pub is_integer_decides : (bytes : List ℕ) (n : ℕ) → Decides (is_integer bytes n) (IsInteger bytes n)
is_integer_decides bytes n = Decides-like _
    (λ g. record {
      some = g.0;
      few = g.1.0;
      fits = λ l. elim (g.1.1.0) [ inl h ↦ absurd (omega arith) | inr h ↦ h ];
      positive = g.1.1.1.0;
      shortest = g.1.1.1.1.0;
      value_is = g.1.1.1.1.1;
    })
    (λ g. (g.some, (g.few, (elim (cases_lt (length bytes) 33) [ inl l ↦ inl l | inr h ↦ inr (g.fits (let f : length bytes ≤ 33 = g.few in omega arith)) ], (g.positive, (g.shortest, g.value_is))))))
    (integer_decides bytes n)

-- the contents of the first of two INTEGERs
abbrev first_contents : List ℕ → List ℕ
first_contents bytes = take (slice_index bytes 3) (drop 4 bytes)

-- the contents of the second
abbrev second_contents : List ℕ → List ℕ
second_contents bytes = drop 2 (drop (slice_index bytes 3) (drop 4 bytes))

-- where the two INTEGERs stand
contents_of : (bytes first second : List ℕ) (n : ℕ) → bytes ≡ 48 ∷ n ∷ integer first (integer second []) → (first ≡ first_contents bytes) × (second ≡ second_contents bytes)
contents_of bytes first second n e = (
  sym (ap first_contents e ∙ take-append_seam first (integer second [])),
  sym (ap second_contents e ∙ ap (λ t. drop 2 t) (drop-append_seam first (integer second [])) ∙ append-nil second),
)

-- a SEQUENCE of two INTEGERs, by what it holds
abbrev IsSequence : List ℕ → List ℕ → List ℕ → Type 0
IsSequence bytes first second = bytes ≡ 48 ∷ (length first + length second + 4) ∷ integer first (integer second [])

pub is_der_decides : (bytes : List ℕ) (r s : ℕ) → Decides (is_der bytes r s) (IsDer bytes r s)
is_der_decides bytes r s =
    let a : List ℕ = first_contents bytes in
    let b : List ℕ = second_contents bytes in
    Decides-like _
    (λ g. record { first = a; second = b; short = g.0; text = g.1.0; r_is = g.1.1.0; s_is = g.1.1.1 })
    (λ g.
    let c = contents_of bytes g.first g.second _ g.text in
    (g.short, (subst (λ t. IsSequence bytes t b) c.0 (subst (λ t. IsSequence bytes g.first t) c.1 g.text), (subst (λ t. IsInteger t r) c.0 g.r_is, subst (λ t. IsInteger t s) c.1 g.s_is))))
    (and3 _ _ _ (Decides-ltb (length bytes) 130) (bytes_eq-Decides bytes (48 ∷ (length a + length b + 4) ∷ integer a (integer b [])))
    (Decides-and _ _ (is_integer_decides a r) (is_integer_decides b s)))

pub has_x_decides : (p : Point) (r : ℕ) → Decides (has_x p r) (HasX p r)
has_x_decides infinity r = (λ e. absurd (cc), λ h. absurd h)
has_x_decides (at x y) r = Decides-eqb (x % order) r

-- what the inverse w of s gives
abbrev IsBy : Point → ℕ → ℕ → ℕ → ℕ → Type 0
IsBy q e r s w = ((s * w) % order ≡ 1) × HasX (add (multiple ((e * w) % order) base) (multiple ((r * w) % order) q)) r

pub is_signature_decides : (q : Point) (e r s : ℕ) → Decides (is_signature q e r s) (IsSignature q e r s)
is_signature_decides q e r s = Decides-like _
    (λ g. record { r_some = g.0; r_below = g.1.0; s_some = g.1.1.0; s_below = g.1.1.1.0; w = g.1.1.1.1.0; w_below = g.1.1.1.1.1; w_is = g.1.1.1.1.2.0; x_is = g.1.1.1.1.2.1 })
    (λ g. (g.r_some, (g.r_below, (g.s_some, (g.s_below, (g.w, g.w_below, (g.w_is, g.x_is)))))))
    (and3 _ _ _ (Decides-ltb 0 r) (Decides-ltb r order) (and3 _ _ _ (Decides-ltb 0 s) (Decides-ltb s order)
    (decides_below order _ (IsBy q e r s) (λ w. Decides-and _ _ (Decides-eqb ((s * w) % order) 1)
    (has_x_decides (add (multiple ((e * w) % order) base) (multiple ((r * w) % order) q)) r)))))

-- the numbers of a signature that belong to a point
abbrev AreNumbers : List ℕ → List ℕ → ℕ → ℕ → ℕ → ℕ → Type 0
AreNumbers message signature x y r s = IsDer signature r s × IsSignature (at x y) (big_endian (sha256 message) % 2 ^ 256) r s

abbrev SomeNumbers : List ℕ → List ℕ → ℕ → ℕ → Type 0
SomeNumbers message signature x y = (r : ℕ) × (r < order) × ((s : ℕ) × (s < order) × AreNumbers message signature x y r s)

numbers_decide : (message signature : List ℕ) (x y : ℕ) →
    Decides (any_below order (λ r. any_below order (λ s. is_der signature r s && is_signature (at x y) (big_endian (sha256 message) % 2 ^ 256) r s))) (SomeNumbers message signature x y)
numbers_decide message signature x y =
    decides_below order _ (λ r. (s : ℕ) × (s < order) × AreNumbers message signature x y r s) (λ r.
    decides_below order _ (AreNumbers message signature x y r) (λ s.
    Decides-and _ _ (is_der_decides signature r s) (is_signature_decides (at x y) (big_endian (sha256 message) % 2 ^ 256) r s)))

-- `is_verified` is true exactly where `IsVerified` holds
pub is_verified_decides : (key message signature : List ℕ) → Decides (is_verified key message signature) (IsVerified key message signature)
unfolding is_verified
is_verified_decides key message signature = Decides-like _
    (λ g.
    let n = g.2.2.1 in
    record { x = g.0; y = g.2.0; r = n.0; s = n.2.0; key_is = key_from key g.0 g.2.0 g.1 g.2.1 g.2.2.0; der_is = n.2.2.0; signature_is = n.2.2.1 })
    (λ g.
    let k = key_to key g.x g.y g.key_is in
    (g.x, k.0, (g.y, k.1, (k.2, (g.r, g.signature_is.r_below, (g.s, g.signature_is.s_below, (g.der_is, g.signature_is)))))))
    (decides_below prime _ (λ x. (y : ℕ) × (y < prime) × ((IsUncompressedAt key x y ⊎ IsCompressedAt key x y) × SomeNumbers message signature x y)) (λ x.
    decides_below prime _ (λ y. (IsUncompressedAt key x y ⊎ IsCompressedAt key x y) × SomeNumbers message signature x y) (λ y.
    Decides-and _ _ (key_decides key x y) (numbers_decide message signature x y))))
