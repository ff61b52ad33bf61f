-- Entries before and behind a place, after an exchange and after a cut.
use Rattle.std.proofs.Common.{◌≡◌, inl, inr, ℕ, ◌+◌, ◌<◌, ◌≤◌, List, [], ◌∷◌, ◌++◌, length, get_or, take, sym, subst, ◌∙◌, ap, arith}
use Rattle.std.specs.List.{AllWithin, Contains, SwappedAt}
use Rattle.std.proofs.lemmas.List.{get_or_append_left, get_or-append-add, length-append, take_more}
use Rattle.std.proofs.lemmas.Bool.{cases_lt}
use Rattle.std.proofs.lemmas.List.Elements.{Contains-append_left, Contains-push, Contains-push_cases}
use Rattle.warg_listed_map.specs.ListedMaps.{IsLatest}
use Rattle.warg_listed_map.specs.declared.entry.Entry.{Entry}

module _ (P Q : Entry → Type 0) (xs ys : List Entry) (count i : ℕ) (swapped : SwappedAt xs ys count i) (behind : count ≤ i) where
  -- with the one that passes in front
  pub front_more : AllWithin P xs 0 count → ((d : Entry) → P (get_or xs i d)) → AllWithin P ys 0 (count + 1)
  front_more front here k d low high = elim (cases_lt k count) [
    | inl less ↦ subst P (sym (swapped.2 k d (λ at. absurd (omega arith)) (λ at. absurd (omega arith)))) (front k d low less)
    | inr most ↦ let same : k ≡ count = omega arith in subst P (sym (ap (λ j. get_or ys j d) same ∙ swapped.0 d)) (here d)
  ]

  -- and the first that does not behind
  pub back_more : AllWithin Q xs count i → AllWithin Q ys (count + 1) (i + 1)
  back_more back k d low high = elim (cases_lt k i) [
    | inl less ↦ subst Q (sym (swapped.2 k d (λ at. absurd (omega arith)) (λ at. absurd (omega arith)))) (back k d (omega arith) less)
    | inr most ↦ let same : k ≡ i = omega arith in subst Q (sym (ap (λ j. get_or ys j d) same ∙ swapped.1 d)) (back count d (omega arith) (omega arith))
  ]

module _ (P : Entry → Type 0) (whole front back : List Entry) (count : ℕ) (cut : whole ≡ front ++ back) (long : length front ≡ count) where
  pub in_front : AllWithin P whole 0 count → (e : Entry) → Contains front e → P e
  in_front all e (k, below, is) =
      subst P (ap (λ es. get_or es k e) cut ∙ get_or_append_left front back e k below ∙ is) (all k e (omega arith) (omega (arith, below, long)))

  pub in_back : (high : ℕ) → high ≡ length whole → AllWithin P whole count high → (e : Entry) → Contains back e → P e
  in_back high all_of all e (k, below, is) =
      let at : get_or whole (count + k) e ≡ e =
      ap (λ es. get_or es (count + k) e) cut ∙ ap (λ j. get_or (front ++ back) (j + k) e) (sym long) ∙ get_or-append-add front back k e ∙ is in
      subst P at (all (count + k) e (omega arith) (omega (arith, below, long, all_of, ap length cut, length-append front back)))

-- the latest of the first entries, and of one more
module _ (entries : List Entry) (i : ℕ) (best : Entry) (within : i < length entries) (so_far : IsLatest (take i entries) best) where
  more : (d : Entry) → take (i + 1) entries ≡ take i entries ++ get_or entries i d ∷ []
  more d = take_more entries i d within

  pub later : (d : Entry) → best.place ≤ (get_or entries i d).place → IsLatest (take (i + 1) entries) (get_or entries i d)
  later d up =
      let it = get_or entries i d in
      record {
        among = subst (λ es. Contains es it) (sym (more d)) (Contains-push (take i entries) it);
        latest = λ o among. elim (Contains-push_cases (take i entries) it o (subst (λ es. Contains es o) (more d) among)) [
          | inl before ↦ let low = so_far.latest o before in omega (arith, low, up)
          | inr same ↦ subst (λ (e : Entry). e.place ≤ it.place) same (omega arith)
        ];
      }

  pub not_later : (d : Entry) → (get_or entries i d).place ≤ best.place → IsLatest (take (i + 1) entries) best
  not_later d up =
      let it = get_or entries i d in
      record {
        among = subst (λ es. Contains es best) (sym (more d)) (Contains-append_left (take i entries) (it ∷ []) best so_far.among);
        latest = λ o among. elim (Contains-push_cases (take i entries) it o (subst (λ es. Contains es o) (more d) among)) [
          | inl before ↦ so_far.latest o before
          | inr same ↦ subst (λ (e : Entry). e.place ≤ best.place) same up
        ];
      }
