use Rattle.std.proofs.Common.{◌≡◌, ℕ, ◌-◌, ◌<◌, List, [], ◌∷◌, ◌++◌, length, take, drop, ap, sym, ◌∙◌, length-append, Bool, true, false, ◌==◌, arith}
use Rattle.std.proofs.lemmas.Bool.{eq-eqb}
use Rattle.std.proofs.Math.Seq.{take-append_seam, drop-append_seam, take-length}
use Rattle.warg_p256.specs.Der.{IsDer, integer}

same_parts : (a x c y : List ℕ) → length a ≡ length c → a ++ x ≡ c ++ y → (a ≡ c) × (x ≡ y)
same_parts a x c y l e = (
  sym (take-append_seam a x) ∙ ap (λ v. take (length a) v) e ∙ ap (λ n. take n (c ++ y)) l ∙ take-append_seam c y,
  sym (drop-append_seam a x) ∙ ap (λ v. drop (length a) v) e ∙ ap (λ n. drop n (c ++ y)) l ∙ drop-append_seam c y,
)

-- an INTEGER's text tells its contents and what follows
pub split_text : (a x c y : List ℕ) → integer a x ≡ integer c y → (a ≡ c) × (x ≡ y)
split_text a x c y e =
    let l : length a ≡ length c = cc in
    let r : a ++ x ≡ c ++ y = cc in
    same_parts a x c y l r

-- what follows the first two bytes of a signature's text
pub after_two : (bs : List ℕ) (m n : ℕ) (t : List ℕ) → bs ≡ m ∷ n ∷ t → take (length bs - 2) (drop 2 bs) ≡ t
after_two bs m n t e =
    let k : length (m ∷ n ∷ t) - 2 ≡ length t = omega arith in
    ap (λ v. take (length v - 2) (drop 2 v)) e ∙ ap (λ i. take i t) k ∙ take-length t

pub der_parts : (bs f rest : List ℕ) (r s : ℕ) → (g : IsDer bs r s) → take (length bs - 2) (drop 2 bs) ≡ integer f rest → (f ≡ g.first) × (rest ≡ integer g.second [])
der_parts bs f rest r s g e = split_text f rest g.first (integer g.second []) (sym e ∙ after_two bs _ _ _ g.text)

pub second_short : (bs : List ℕ) (r s : ℕ) → (g : IsDer bs r s) → length g.second < 128
second_short bs r s g =
    let a = length-append g.first (integer g.second []) in
    let b = length-append g.second [] in
    let l = ap length g.text in
    let k : length bs < 130 = g.short in
    omega (arith, a, b, l)

pub not_empty : (b : Bool) (n : ℕ) → b ≡ (n == 0) → b ≡ false → n ≡ 0 → ⊥
not_empty b n e f z = let h : (n == 0) ≡ true = eq-eqb n 0 z in cc
