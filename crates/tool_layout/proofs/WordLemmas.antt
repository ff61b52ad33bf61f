-- Words, laid out.
use Rattle.std.proofs.Common.{◌≡◌, ◌≢◌, ℕ, suc, ◌+◌, ◌-◌, ◌<◌, Bool, true, false, cond, List, [], ◌∷◌, ◌++◌, length, take, drop, drop-cons, get_or, map, refl, sym, ap, ◌∙◌, arith, length-append, Option, Some, None, MatchOption, option_map, Bor}
use Rattle.std.specs.Prelude.{◌==◌, max}
use Rattle.std.specs.List.{fold}
use Rattle.std.specs.Str.{bytes_eq}
use Rattle.std.proofs.Math.Seq.{get_or-append_seam, take-append_seam}
use Rattle.std.proofs.lemmas.List.{map-append, take_all, take_more}
use Rattle.std.proofs.lemmas.List.Sums.{fold-append}
use Rattle.tool_layout.specs.KeyNames.{KeyName, name_of}
use Rattle.tool_layout.specs.Layouts.{before_comma}
use Rattle.tool_layout.specs.Logs.{behind_release, widest, width_behind}
use Rattle.tool_layout.proofs.DigestLemmas.{same_of}

-- ---- a comma behind a word

one_less : (id : List ℕ) → length (id ++ 44 ∷ []) - 1 ≡ length id
one_less id = let whole = length-append id (44 ∷ []) in omega arith

at_end : (id : List ℕ) → get_or (id ++ 44 ∷ []) (length (id ++ 44 ∷ []) - 1) 0 ≡ 44
at_end id = ap (λ (n : ℕ). get_or (id ++ 44 ∷ []) n 0) (one_less id) ∙ get_or-append_seam id 44 [] 0

cut_as : (word : List ℕ) (b : Bool) → (get_or word (length word - 1) 0 == 44) ≡ b
    → before_comma word ≡ cond b (Some (take (length word - 1) word)) None
cut_as word b e = ap (λ (it : Bool). cond it (Some (take (length word - 1) word)) None) e

with_comma : (id : List ℕ) → before_comma (id ++ 44 ∷ []) ≡ Some id
with_comma id =
    cut_as (id ++ 44 ∷ []) true (ap (λ (b : ℕ). b == 44) (at_end id))
    ∙ ap Some (ap (λ (n : ℕ). take n (id ++ 44 ∷ [])) (one_less id) ∙ take-append_seam id (44 ∷ []))

comma_behind : (word : List ℕ) → get_or word (length word - 1) 0 ≡ 44 → word ≡ take (length word - 1) word ++ 44 ∷ []
comma_behind [] e = cc e
comma_behind (b ∷ bs) e =
    let word : List ℕ = b ∷ bs in
    let n : ℕ = length word - 1 in
    let below : n < length word = omega arith in
    let next : n + 1 ≡ length word = omega arith in
    sym (take_all (length word) word (omega arith)) ∙ ap (λ (k : ℕ). take k word) (sym next) ∙ take_more word n 0 below
    ∙ ap (λ (c : ℕ). take n word ++ c ∷ []) e

no_comma : (word : List ℕ) (b : Bool) → (get_or word (length word - 1) 0 == 44) ≡ b → ((front : List ℕ) → word ≢ front ++ 44 ∷ []) → b ≡ false
no_comma word true e none = absurd (none (take (length word - 1) word) (comma_behind word (same_of (get_or word (length word - 1) 0) 44 e)))
no_comma word false e none = refl

-- what is left of a word that is stripped of a comma
pub stripped : (word : List ℕ) (r : Option (Bor (List ℕ)))
    → MatchOption r ((front : List ℕ) → word ≢ front ++ 44 ∷ []) (λ x. word ≡ x.now ++ 44 ∷ [])
    → option_map (λ (it : Bor (List ℕ)). it.now) r ≡ before_comma word
stripped word (Some x) h = sym (ap before_comma h ∙ with_comma x.now)
stripped word None h =
    sym (cut_as word false (no_comma word (get_or word (length word - 1) 0 == 44) refl h))

-- ---- the widest version

-- one line more
pub widest-more : (done : List (Bor (List ℕ))) (line : Bor (List ℕ)) (width new : ℕ) → width ≡ widest (map (λ it. it.now) done)
    → new ≡ max width (width_behind (behind_release line.now)) → new ≡ widest (map (λ it. it.now) (done ++ line ∷ []))
widest-more done line width new so_far more =
    let f : ℕ → List ℕ → ℕ = λ (n : ℕ) (it : List ℕ). max n (width_behind (behind_release it)) in
    let lines = map (λ (it : Bor (List ℕ)). it.now) done in
    more ∙ ap (λ (n : ℕ). max n (width_behind (behind_release line.now))) so_far
    ∙ sym (ap (fold f 0) (map-append (λ (it : Bor (List ℕ)). it.now) done (line ∷ [])) ∙ fold-append f 0 lines (line.now ∷ []))

-- ---- names

-- the names from a place on: the one there, and those behind it
at_name : (names : List KeyName) (n : ℕ) (it : KeyName) (id : List ℕ) → n < length names → it ≡ get_or names n it
    → name_of (drop n names) id ≡ cond (bytes_eq it.id id) (Some it.name) (name_of (drop (n + 1) names) id)
at_name names n it id below at =
    let next : suc n ≡ n + 1 = omega arith in
    ap (λ (l : List KeyName). name_of l id)
    (drop-cons names n it below ∙ ap (λ (l : KeyName). l ∷ drop (suc n) names) (sym at) ∙ ap (λ (k : ℕ). it ∷ drop k names) next)

-- a name of another key is passed
pub passed_name : (names : List KeyName) (n : ℕ) (it : KeyName) (id : List ℕ) (whole : Option (List ℕ)) → n < length names → it ≡ get_or names n it
    → false ≡ bytes_eq it.id id → name_of (drop n names) id ≡ whole → name_of (drop (n + 1) names) id ≡ whole
passed_name names n it id whole below at other so_far =
    ap (λ (b : Bool). cond b (Some it.name) (name_of (drop (n + 1) names) id)) other ∙ sym (at_name names n it id below at) ∙ so_far

-- the name of the key is found
pub found_name : (names : List KeyName) (n : ℕ) (it : KeyName) (id name : List ℕ) (whole : Option (List ℕ)) → n < length names → it ≡ get_or names n it
    → true ≡ bytes_eq it.id id → name ≡ it.name → name_of (drop n names) id ≡ whole → Some name ≡ whole
found_name names n it id name whole below at same is so_far =
    ap Some is ∙ ap (λ (b : Bool). cond b (Some it.name) (name_of (drop (n + 1) names) id)) same ∙ sym (at_name names n it id below at) ∙ so_far
