-- Which key a word asks for, by the ids of those of the log.
use Rattle.std.proofs.Common.{◌≡◌, ◌<◌, ◌≤◌, ℕ, Bool, true, false, ◌||◌, cond, List, [], ◌∷◌, filter, length, get_or, arith, refl, sym, ap, subst, ◌∙◌, inl, inr}
use Rattle.std.specs.List.{AllByRecursion, IsDistinct, list_any}
use Rattle.std.specs.Str.{bytes_eq}
use Rattle.std.proofs.lemmas.Bool.{cases_Bool}
use Rattle.std.proofs.lemmas.Map.Keys.{IsDistinct-head, IsDistinct-tail, IsDistinct-cons}
use Rattle.std.proofs.lemmas.Slice.Eq.{bytes_eq-Decides}
use Rattle.tool_answers.specs.IdWords.{begins_as_said, is_id_word}
use Rattle.tool_answers.specs.KeyIds.{AreIdsOf}
use Rattle.tool_questions.specs.AskedKeys.{IsAsked, IsBegun, whole, beginning, neither}

-- ---- lists that are filtered

module _ {X : Type 0} (p : X → Bool) where
  all_filtered : (Q : X → Type 0) (xs : List X) → AllByRecursion Q xs → AllByRecursion Q (filter p xs)
  all_filtered Q [] h = tt
  all_filtered Q (x ∷ xs) h = elim (p x) as (λ b. AllByRecursion Q (cond b (x ∷ filter p xs) (filter p xs))) [
    | true ↦ (h.0, all_filtered Q xs h.1)
    | false ↦ all_filtered Q xs h.1
  ]

  distinct_filtered : (eq : X → X → Bool) (xs : List X) → IsDistinct eq xs → IsDistinct eq (filter p xs)
  distinct_filtered eq [] d = d
  distinct_filtered eq (x ∷ xs) d =
      let later = distinct_filtered eq xs (IsDistinct-tail eq x xs d) in
      elim (p x) as (λ b. IsDistinct eq (cond b (x ∷ filter p xs) (filter p xs))) [
        | true ↦ IsDistinct-cons eq x (filter p xs) (all_filtered (λ y. eq x y ≡ false) xs (IsDistinct-head eq x xs d)) later
        | false ↦ later
      ]

-- whether an id is among others
abbrev pub among : List ℕ → List (List ℕ) → Bool
among id ids = list_any (λ it. bytes_eq it id) ids

module _ (p : List ℕ → Bool) where
  -- an id that passes the test stays
  stays : (id : List ℕ) (ids : List (List ℕ)) → p id ≡ true → among id ids ≡ true → among id (filter p ids) ≡ true
  stays id [] t h = h
  stays id (x ∷ ids) t h = elim (cases_Bool (bytes_eq x id)) [
    | inl equal ↦
        let here : x ≡ id = (bytes_eq-Decides x id).0 equal in
        let passes : p x ≡ true = ap p here ∙ t in
        ap (λ b. among id (cond b (x ∷ filter p ids) (filter p ids))) passes ∙ ap (λ b. b || among id (filter p ids)) equal
    | inr other ↦
        let later : among id ids ≡ true = ap (λ b. b || among id ids) (sym other) ∙ h in
        let rest = stays id ids t later in
        elim (cases_Bool (p x)) [
          | inl passes ↦ ap (λ b. among id (cond b (x ∷ filter p ids) (filter p ids))) passes ∙ ap (λ b. b || among id (filter p ids)) other ∙ rest
          | inr fails ↦ ap (λ b. among id (cond b (x ∷ filter p ids) (filter p ids))) fails ∙ rest
        ]
  ]

  -- one that is left was there, and passes
  abbrev Left : List (List ℕ) → List ℕ → Type 0
  Left ids id = (among id ids ≡ true) × (p id ≡ true)

  behind : (x id : List ℕ) (ids : List (List ℕ)) → Left ids id → Left (x ∷ ids) id
  behind x id ids h = (elim (bytes_eq x id) as (λ b. b || among id ids ≡ true) [ true ↦ refl | false ↦ h.0 ], h.1)

  was : (id : List ℕ) (ids : List (List ℕ)) → among id (filter p ids) ≡ true → Left ids id
  was id [] h = cc
  was id (x ∷ ids) h = elim (cases_Bool (p x)) [
    | inl passes ↦
        let first : bytes_eq x id || among id (filter p ids) ≡ true = ap (λ b. among id (cond b (x ∷ filter p ids) (filter p ids))) (sym passes) ∙ h in
        elim (cases_Bool (bytes_eq x id)) [
          | inl equal ↦
              let here : x ≡ id = (bytes_eq-Decides x id).0 equal in
              (ap (λ b. b || among id ids) equal, ap p (sym here) ∙ passes)
          | inr other ↦ behind x id ids (was id ids (ap (λ b. b || among id (filter p ids)) (sym other) ∙ first))
        ]
    | inr fails ↦ behind x id ids (was id ids (ap (λ b. among id (cond b (x ∷ filter p ids) (filter p ids))) (sym fails) ∙ h))
  ]

-- ---- by the ids of the log's keys

module _ (has_key : List ℕ → Bool) (ids : List (List ℕ)) (listed : AreIdsOf has_key ids) (word key : List ℕ) where
  pub asked_whole : among word ids ≡ true → key ≡ word → IsAsked has_key word key
  asked_whole h is = whole (sym (listed.all word) ∙ h) is

  module _ (unknown : among word ids ≡ false) where
    missing : has_key word ≡ false
    missing = sym (listed.all word) ∙ unknown

    -- what is begun is left
    left : (it : List ℕ) → IsBegun has_key word it → among it (filter (begins_as_said word) ids) ≡ true
    left it o = stays (begins_as_said word) it ids o.begins (listed.all it ∙ o.known)

    -- no id begins so
    none_left : filter (begins_as_said word) ids ≡ [] → key ≡ word → IsAsked has_key word key
    none_left none is =
        neither missing (λ it o. let found : true ≡ false = sym (left it o.begun) ∙ ap (among it) none in cc) is

    pub asked_none : (some : List (List ℕ)) → some ≡ filter (begins_as_said word) ids → length some < 1 → key ≡ word → IsAsked has_key word key
    asked_none [] e few is = none_left (sym e) is
    asked_none (x ∷ some) e few is = absurd (omega arith)

    same_as : (id it : List ℕ) → among it (id ∷ []) ≡ true → it ≡ id
    same_as id it h = elim (cases_Bool (bytes_eq id it)) [
      | inl equal ↦ sym ((bytes_eq-Decides id it).0 equal)
      | inr other ↦ let no : false ≡ true = ap (λ b. b || false) (sym other) ∙ h in cc
    ]

    -- what is left is begun
    begun_of : (id it : List ℕ) → is_id_word word ≡ true → among id (filter (begins_as_said word) ids) ≡ true → it ≡ id → IsBegun has_key word it
    begun_of id it said h is =
        let was_there = was (begins_as_said word) id ids h in
        record { said = said; known = ap has_key is ∙ sym (listed.all id) ∙ was_there.0; begins = ap (begins_as_said word) is ∙ was_there.1 }

    -- one does
    one_left : (id : List ℕ) → is_id_word word ≡ true → filter (begins_as_said word) ids ≡ id ∷ [] → key ≡ id → IsAsked has_key word key
    one_left id said one is =
        let first : among id (id ∷ []) ≡ true = ap (λ b. b || false) ((bytes_eq-Decides id id).1 refl) in
        beginning missing (record {
          begun = begun_of id key said (ap (among id) one ∙ first) is;
          only = λ other o. same_as id other (ap (among other) (sym one) ∙ left other o) ∙ sym is;
        })

    pub asked_only : (some : List (List ℕ)) (id : List ℕ) → is_id_word word ≡ true → some ≡ filter (begins_as_said word) ids → 1 ≤ length some → length some < 2
        → id ≡ get_or some 0 id → key ≡ id → IsAsked has_key word key
    asked_only [] id said e low high first is = absurd (omega arith)
    asked_only (x ∷ []) id said e low high first is = one_left x said (sym e) (is ∙ first)
    asked_only (x ∷ y ∷ some) id said e low high first is = absurd (omega arith)

    -- several do
    several_left : (a b : List ℕ) (more : List (List ℕ)) → is_id_word word ≡ true → filter (begins_as_said word) ids ≡ a ∷ b ∷ more → key ≡ word
        → IsAsked has_key word key
    several_left a b more said several is =
        let apart : IsDistinct bytes_eq (a ∷ b ∷ more) = subst (IsDistinct bytes_eq) several (distinct_filtered (begins_as_said word) bytes_eq ids listed.once) in
        let other : bytes_eq a b ≡ false = (IsDistinct-head bytes_eq a (b ∷ more) apart).0 in
        let first : among a (a ∷ b ∷ more) ≡ true = ap (λ c. c || among a (b ∷ more)) ((bytes_eq-Decides a a).1 refl) in
        let second : among b (a ∷ b ∷ more) ≡ true =
        ap (λ c. c || among b (b ∷ more)) other ∙ ap (λ c. c || among b more) ((bytes_eq-Decides b b).1 refl) in
        neither missing (λ it o.
        let one : a ≡ it = o.only a (begun_of a a said (ap (among a) several ∙ first) refl) in
        let two : b ≡ it = o.only b (begun_of b b said (ap (among b) several ∙ second) refl) in
        let equal : bytes_eq a b ≡ true = (bytes_eq-Decides a b).1 (one ∙ sym two) in
        cc) is

    pub asked_several : (some : List (List ℕ)) → is_id_word word ≡ true → some ≡ filter (begins_as_said word) ids → 2 ≤ length some → key ≡ word → IsAsked has_key word key
    asked_several [] said e many is = absurd (omega arith)
    asked_several (a ∷ []) said e many is = absurd (omega arith)
    asked_several (a ∷ b ∷ more) said e many is = several_left a b more said (sym e) is
