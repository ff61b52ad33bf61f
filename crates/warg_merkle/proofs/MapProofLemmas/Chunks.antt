-- Hashes in a row, and cut apart again.
use Rattle.std.proofs.Common.{◌≡◌, ℕ, zero, suc, ◌*◌, ◌≤◌, List, [], ◌∷◌, ◌++◌, length, take, drop, refl, sym, ◌∙◌, ap, arith}
use Rattle.std.specs.List.{All, concat}
use Rattle.std.specs.Simd.{first_chunks}
use Rattle.std.proofs.lemmas.List.{length-append, length-drop, length-take, take-append-drop, take_at, drop_at, nil_from_length, append-nil, append_assoc}

pub length-concat : (os : List (List ℕ)) → All (λ p. length p ≡ 32) os → length (concat os) ≡ 32 * length os
length-concat [] hs = refl
length-concat (o ∷ os) hs =
    let rest = length-concat os (λ k d below. hs (suc k) d (omega arith)) in
    let first : length o ≡ 32 = hs 0 o (omega arith) in
    omega (arith, length-append o (concat os), rest, first)

pub concat-chunks : (k : ℕ) (xs : List ℕ) → length xs ≡ 32 * k → concat (first_chunks 32 k xs) ≡ xs
concat-chunks zero xs e = sym (nil_from_length xs (omega arith))
concat-chunks (suc k) xs e = ap (λ ys. take 32 xs ++ ys) (concat-chunks k (drop 32 xs) (omega (arith, length-drop 32 xs))) ∙ take-append-drop 32 xs

pub chunks-concat : (os : List (List ℕ)) → All (λ p. length p ≡ 32) os → first_chunks 32 (length os) (concat os) ≡ os
chunks-concat [] hs = refl
chunks-concat (o ∷ os) hs =
    let first : length o ≡ 32 = hs 0 o (omega arith) in
    let rest = chunks-concat os (λ k d below. hs (suc k) d (omega arith)) in
    ap (λ x. x ∷ first_chunks 32 (length os) (drop 32 (o ++ concat os))) (take_at o (concat os) 32 first)
    ∙ ap (λ ys. o ∷ first_chunks 32 (length os) ys) (drop_at o (concat os) 32 first)
    ∙ ap (λ xs. o ∷ xs) rest

pub concat-push : (os : List (List ℕ)) (o : List ℕ) → concat (os ++ o ∷ []) ≡ concat os ++ o
concat-push [] o = append-nil o
concat-push (p ∷ os) o = ap (λ ys. p ++ ys) (concat-push os o) ∙ sym (append_assoc p (concat os) o)

pub all_chunks : (k : ℕ) (xs : List ℕ) → 32 * k ≤ length xs → All (λ p. length p ≡ 32) (first_chunks 32 k xs)
all_chunks zero xs long n d below = absurd (omega arith)
all_chunks (suc k) xs long zero d below = omega (arith, length-take 32 xs)
all_chunks (suc k) xs long (suc n) d below = all_chunks k (drop 32 xs) (omega (arith, length-drop 32 xs)) n d (omega arith)
