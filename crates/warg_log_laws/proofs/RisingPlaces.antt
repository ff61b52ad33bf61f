-- The entries of a history stand in the order of their places.
use Rattle.std.proofs.Common.{◌≡◌, ◌⊎◌, inl, inr, ℕ, zero, suc, ◌+◌, ◌<◌, ◌≤◌, List, [], ◌∷◌, ◌++◌, map, Some, refl, sym, ap, subst, arith}
use Rattle.std.specs.Prelude.{slice_get}
use Rattle.std.specs.List.{AllByRecursion, flat_map, enumerate_from}
use Rattle.std.proofs.lemmas.List.Concat.{flat_map-cons}
use Rattle.warg_log_records.specs.RecordData.{EntryData}
use Rattle.warg_log_records.specs.declared.record_id.RecordId.{RecordId}
use Rattle.warg_replay.specs.declared.audited_log.link.Link.{Link}
use Rattle.warg_log.specs.History.{PlacedEvent, placed_in, record_history, history_of}
use Rattle.warg_log.specs.Rules.{SignedRecord}
use Rattle.warg_log_laws.specs.GrantChains.{place_of, IsBefore}
use Rattle.warg_log_laws.proofs.ListLemmas.{same_item, no_item, each-weaker, each-append, each-at}

-- nothing comes before the first place
pub none_before_first : (l m : Link) → m ≡ record { record_index = 0; entry_index = 0 } → IsBefore l m → ⊥
none_before_first l m is (inl lt) = let zero_is : m.record_index ≡ 0 = ap (λ (x : Link). x.record_index) is in omega (arith, lt, zero_is)
none_before_first l m is (inr h) = let zero_is : m.entry_index ≡ 0 = ap (λ (x : Link). x.entry_index) is in let lt = h.1 in omega (arith, lt, zero_is)

pub compared : (i j : ℕ) → (i < j) ⊎ ((j < i) ⊎ (i ≡ j))
compared zero zero = inr (inr refl)
compared zero (suc j) = inl (omega arith)
compared (suc i) zero = inr (inl (omega arith))
compared (suc i) (suc j) = elim (compared i j) [
  | inl lt ↦ inl (omega (arith, lt))
  | inr rest ↦ elim rest [
    | inl gt ↦ inr (inl (omega (arith, gt)))
    | inr is ↦ inr (inr (ap (λ n. suc n) is))
  ]
]

module _ {A : Type 0} where
  -- each entry comes before all later ones
  abbrev pub Rises : List (PlacedEvent A) → Type 0
  Rises [] = Unit {0}
  Rises (e ∷ es) = AllByRecursion (λ x. IsBefore (place_of e) (place_of x)) es × Rises es

  pub rises-append : (xs ys : List (PlacedEvent A)) → Rises xs → Rises ys → AllByRecursion (λ x. AllByRecursion (λ y. IsBefore (place_of x) (place_of y)) ys) xs → Rises (xs ++ ys)
  rises-append [] ys h g between = g
  rises-append (x ∷ xs) ys h g between = (each-append (λ y. IsBefore (place_of x) (place_of y)) xs ys h.0 between.0, rises-append xs ys h.1 g between.1)

  pub rises-rest : (xs ys : List (PlacedEvent A)) → Rises (xs ++ ys) → Rises ys
  rises-rest [] ys r = r
  rises-rest (x ∷ xs) ys r = rises-rest xs ys r.1

  -- of two places in the list the earlier one has the entry that comes before
  pub rises-at : (h : List (PlacedEvent A)) → Rises h → (i j : ℕ) (x y : PlacedEvent A) → i < j → slice_get h i ≡ Some x → slice_get h j ≡ Some y → IsBefore (place_of x) (place_of y)
  rises-at [] r i j x y lt at_x at_y = no_item x at_x
  rises-at (e ∷ es) r zero zero x y lt at_x at_y = absurd (omega (arith, lt))
  rises-at (e ∷ es) r zero (suc j) x y lt at_x at_y =
      subst (λ (z : PlacedEvent A). IsBefore (place_of z) (place_of y)) (same_item e x at_x) (each-at (λ y. IsBefore (place_of e) (place_of y)) es r.0 j y at_y)
  rises-at (e ∷ es) r (suc i) zero x y lt at_x at_y = absurd (omega (arith, lt))
  rises-at (e ∷ es) r (suc i) (suc j) x y lt at_x at_y = rises-at es r.1 i j x y (omega (arith, lt)) at_x at_y

module _ {P O : Type 0} (id_of : List ℕ → RecordId) where
  abbrev IsIn : ℕ → ℕ → PlacedEvent (EntryData P O) → Type 0
  IsIn n m x = (x.record_place ≡ n) × (m ≤ x.entry_place)

  -- the entries of a record stand in it, from the first place on
  record-places : (n k m : ℕ) (r : SignedRecord P O) (es : List (EntryData P O)) → k ≤ m → AllByRecursion (IsIn n k) (map (placed_in id_of n r) (enumerate_from m es))
  record-places n k m r [] le = tt
  record-places n k m r (e ∷ es) le = ((refl, le), record-places n k (m + 1) r es (omega (arith, le)))

  record-rises : (n m : ℕ) (r : SignedRecord P O) (es : List (EntryData P O)) → Rises (map (placed_in id_of n r) (enumerate_from m es))
  record-rises n m r [] = tt
  record-rises n m r (e ∷ es) = (
    each-weaker (IsIn n (m + 1)) (λ x. IsBefore (place_of (placed_in id_of n r (m, e))) (place_of x)) (λ x h. inr (sym h.0, later m x.entry_place h.1)) (map (placed_in id_of n r) (enumerate_from (m + 1) es)) (record-places n (m + 1) (m + 1) r es (omega arith)),
    record-rises n (m + 1) r es,
  )
    where
      later : (a b : ℕ) → a + 1 ≤ b → a < b
      later a b le = omega (arith, le)

  -- the entries of later records stand later
  log-places : (k n : ℕ) (rs : List (SignedRecord P O)) → k ≤ n → AllByRecursion (λ x. k ≤ x.record_place) (flat_map (record_history id_of) (enumerate_from n rs))
  log-places k n [] le = tt
  log-places k n (r ∷ rs) le =
      subst (AllByRecursion (λ (x : PlacedEvent (EntryData P O)). k ≤ x.record_place)) (sym (flat_map-cons (record_history id_of) (n, r) (enumerate_from (n + 1) rs)))
      (each-append (λ x. k ≤ x.record_place) (record_history id_of (n, r)) (flat_map (record_history id_of) (enumerate_from (n + 1) rs))
      (each-weaker (IsIn n 0) (λ x. k ≤ x.record_place) (λ x h. at_least k n x.record_place le h.0) (record_history id_of (n, r)) (record-places n 0 0 r r.contents.entries (omega arith)))
      (log-places k (n + 1) rs (omega (arith, le))))
    where
      at_least : (a b c : ℕ) → a ≤ b → c ≡ b → a ≤ c
      at_least a b c le is = omega (arith, le, is)

  log-rises : (n : ℕ) (rs : List (SignedRecord P O)) → Rises (flat_map (record_history id_of) (enumerate_from n rs))
  log-rises n [] = tt
  log-rises n (r ∷ rs) =
      let here = record_history id_of (n, r) in
      let rest = flat_map (record_history id_of) (enumerate_from (n + 1) rs) in
      subst Rises (sym (flat_map-cons (record_history id_of) (n, r) (enumerate_from (n + 1) rs)))
      (rises-append here rest (record-rises n 0 r r.contents.entries) (log-rises (n + 1) rs)
      (each-weaker (IsIn n 0) (λ x. AllByRecursion (λ y. IsBefore (place_of x) (place_of y)) rest)
      (λ x h. each-weaker (λ y. n + 1 ≤ y.record_place) (λ y. IsBefore (place_of x) (place_of y)) (λ y le. inl (above n x.record_place y.record_place h.0 le)) rest (log-places (n + 1) (n + 1) rs (omega arith)))
      here (record-places n 0 0 r r.contents.entries (omega arith))))
    where
      above : (a b c : ℕ) → b ≡ a → a + 1 ≤ c → b < c
      above a b c is le = omega (arith, is, le)

  -- the entries of a history stand in the order of their places
  pub history-rises : (rs : List (SignedRecord P O)) → Rises (history_of id_of rs)
  history-rises rs = log-rises 0 rs
