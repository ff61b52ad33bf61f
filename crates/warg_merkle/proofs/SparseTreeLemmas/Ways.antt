-- A key's way down, from a depth on.
use Rattle.std.proofs.Common.{◌≡◌, ◌≢◌, ℕ, zero, suc, ◌+◌, ◌-◌, ◌<◌, ◌≤◌, Bool, true, false, if◌then◌else◌, List, [], ◌∷◌, ◌++◌, length, reverse, refl, sym, ◌∙◌, ap, arith, append_assoc}
use Rattle.std.proofs.lemmas.List.{reverse-append, append-nil}
use Rattle.warg_merkle.specs.Trees.{Side, Left, Right}
use Rattle.warg_merkle.specs.SparseMap.Maps.{is_right, sides_up, way_down}
use Rattle.warg_merkle.specs.SparseTree.Nodes.{side_at, way_from}
use Rattle.warg_merkle.specs.SparseTree.Stored.{PartAt}

pub length-way_from : (n d : ℕ) (key : List ℕ) → length (way_from n d key) ≡ n
unfolding way_from
length-way_from zero d key = refl
length-way_from (suc n) d key = ap (λ k. suc k) (length-way_from n (suc d) key)

pub way_side : (n d m k : ℕ) (key : List ℕ) → n ≡ suc m → k ≡ suc d → way_from n d key ≡ side_at key d ∷ way_from m k key
unfolding way_from
way_side n d m k key is next = rw (is, next) refl

pub way_right : (n d m k : ℕ) (key : List ℕ) → n ≡ suc m → k ≡ suc d → is_right key d ≡ true → way_from n d key ≡ Right ∷ way_from m k key
unfolding way_from
way_right n d m k key is next right = rw (is, next, right) refl

pub way_left : (n d m k : ℕ) (key : List ℕ) → n ≡ suc m → k ≡ suc d → is_right key d ≡ false → way_from n d key ≡ Left ∷ way_from m k key
unfolding way_from
way_left n d m k key is next left = rw (is, next, left) refl

pub way_end : (n d : ℕ) (key : List ℕ) → n ≡ 0 → way_from n d key ≡ []
unfolding way_from
way_end n d key is = rw is refl

-- the way from a depth is what is left of the whole way
down : (n d k : ℕ) (key : List ℕ) → k ≡ d + n → reverse (sides_up k key) ≡ reverse (sides_up d key) ++ way_from n d key
unfolding way_from sides_up
down zero d k key is =
    let same : k ≡ d = omega arith in
    ap (λ j. reverse (sides_up j key)) same ∙ sym (append-nil (reverse (sides_up d key)))
down (suc n) d k key is =
    let side : Side = side_at key d in
    down n (suc d) k key (omega arith)
    ∙ ap (λ ss. ss ++ way_from n (suc d) key) (reverse-append (side ∷ []) (sides_up d key))
    ∙ append_assoc (reverse (sides_up d key)) (side ∷ []) (way_from n (suc d) key)

no_sides : (key : List ℕ) (way : List Side) → reverse (sides_up 0 key) ++ way ≡ way
unfolding sides_up
no_sides key way = refl

pub whole_way : (key : List ℕ) → way_from 256 0 key ≡ way_down key
whole_way key = sym (down 256 0 256 key refl ∙ no_sides key (way_from 256 0 key))

-- a way in two parts
pub way_split : (k n m d e : ℕ) (key : List ℕ) → n ≡ k + m → e ≡ d + k → way_from n d key ≡ way_from k d key ++ way_from m e key
unfolding way_from
way_split zero n m d e key is next =
    let all : n ≡ m = omega arith in
    let here : e ≡ d = omega arith in
    rw (all, here) refl
way_split (suc k) n m d e key is next =
    let more : n ≡ suc (k + m) = omega arith in
    rw more (ap (λ way. side_at key d ∷ way) (way_split k (k + m) m (suc d) e key refl (omega arith)))

-- keys that go the same sides
pub same_way : (n d : ℕ) (key other : List ℕ) → ((i : ℕ) → d ≤ i → i < d + n → is_right key i ≡ is_right other i) → way_from n d key ≡ way_from n d other
unfolding way_from
same_way zero d key other same = refl
same_way (suc n) d key other same =
    ap (λ b. (if b then Right else Left) ∷ way_from n (suc d) key) (same d (omega arith) (omega arith))
    ∙ ap (λ way. side_at other d ∷ way) (same_way n (suc d) key other (λ i low high. same i (omega arith) (omega arith)))

-- the way of a key that parts from another at a depth, and the other's
module _ (d end at : ℕ) (key other : List ℕ) (part : PartAt d end key other at) where
  pub common : way_from (at - d) d other ≡ way_from (at - d) d key
  common = same_way (at - d) d other key (λ i low high. sym (part.alike i low (let from = part.from in omega arith)))

  pub own_way : (n m : ℕ) → n ≡ 256 - d → m ≡ 255 - at → end ≤ 256 → way_from n d key ≡ way_from (at - d) d key ++ side_at key at ∷ way_from m (suc at) key
  own_way n m is left inside =
      let from = part.from in
      let below = part.inside in
      way_split (at - d) n (suc m) d at key (omega arith) (omega arith)
      ∙ ap (λ way. way_from (at - d) d key ++ way) (way_side (suc m) at m (suc at) key refl refl)

  pub other_way : (n m : ℕ) → n ≡ end - d → m ≡ end - suc at → way_from n d other ≡ way_from (at - d) d key ++ side_at other at ∷ way_from m (suc at) other
  other_way n m is left =
      let from = part.from in
      let below = part.inside in
      way_split (at - d) n (suc m) d at other (omega arith) (omega arith)
      ∙ ap (λ way. way_from (at - d) d other ++ way) (way_side (suc m) at m (suc at) other refl refl)
      ∙ ap (λ way. way ++ side_at other at ∷ way_from m (suc at) other) common

other_bit : (a b : Bool) → a ≢ b → a ≡ true → b ≡ false
other_bit a true differ is = absurd (differ is)
other_bit a false differ is = refl

other_bit_left : (a b : Bool) → a ≢ b → a ≡ false → b ≡ true
other_bit_left a true differ is = refl
other_bit_left a false differ is = absurd (differ is)

-- where the key goes right the other goes left, and the other way round
pub other_left : (d end at : ℕ) (key other : List ℕ) → PartAt d end key other at → is_right key at ≡ true → side_at other at ≡ Left
other_left d end at key other part right = rw (other_bit (is_right key at) (is_right other at) part.differ right) refl

pub other_right : (d end at : ℕ) (key other : List ℕ) → PartAt d end key other at → is_right key at ≡ false → side_at other at ≡ Right
other_right d end at key other part left = rw (other_bit_left (is_right key at) (is_right other at) part.differ left) refl
