-- The greatest of a list, item by item.
use Rattle.std.proofs.Common.{◌≡◌, List, [], ◌∷◌, ◌++◌, Bool, true, false, ◌&&◌, not, Option, Some, None, refl, sym, ap, ◌∙◌, if◌then◌else◌, true≢false, subst, map, inl, inr, arith, ◌<◌}
use Rattle.std.specs.List.{AllByRecursion}
use Rattle.std.specs.Prelude.{Contains}
use Rattle.std.specs.Option.{option_map}
use Rattle.std.specs.Ordering.{is_gt, is_lt, ordering_reverse}
use Rattle.std.specs.declared.cmp.Ordering.{Ordering}
use Rattle.std.specs.declared.cmp.Ordering.TheVariants.{Less, Equal, Greater}
use Rattle.std.specs.Cmp.{IsTotalOrder, first_so, second_so, nat_cmp_total, on_total, then_total}
use Rattle.std.proofs.lemmas.Cmp.{upto}
use Rattle.std.proofs.lemmas.List.Elements.{Contains-push, Contains-push_cases, Contains-append_cases, Contains-append_left, Contains-append_right}
use Rattle.semver.specs.OrderLaws.{pre_total, build_total}
use Rattle.semver.specs.Identifiers.{parts_of}
use Rattle.warg_log_records.specs.PackageEntries.{VersionParts}
use Rattle.warg_package_log.specs.Latest.{IsGreatest, greater_of, parts_cmp, release_cmp}
use Rattle.warg_package_log.specs.declared.release.Release.{Release}

pub parts_total : IsTotalOrder parts_cmp
parts_total = then_total (on_total (λ (p : VersionParts). p.0) nat_cmp_total) (then_total (on_total (λ (p : VersionParts). p.1) nat_cmp_total) (then_total (on_total (λ (p : VersionParts). p.2) nat_cmp_total)
    (then_total (on_total (λ (p : VersionParts). p.3) pre_total) (on_total (λ (p : VersionParts). p.4) build_total))))

pub release_total : IsTotalOrder release_cmp
release_total = on_total (λ (r : Release). parts_of r.version) parts_total

all_push : {A : Type 0} (P Q : A → Type 0) (xs : List A) (x : A) → ((y : A) → P y → Q y) → AllByRecursion P xs → Q x → AllByRecursion Q (xs ++ x ∷ [])
all_push P Q [] x w all here = (here, tt)
all_push P Q (y ∷ xs) x w all here = (w y all.0, all_push P Q xs x w all.1 here)

own_gt : (r : Ordering) → r ≡ ordering_reverse r → is_gt r ≡ false
own_gt Less h = refl
own_gt Equal h = refl
own_gt Greater h = cc h

reverse_gt : (r s : Ordering) → s ≡ ordering_reverse r → is_lt r ≡ false → is_gt s ≡ false
reverse_gt Less s h l = absurd (true≢false l)
reverse_gt Equal s h l = ap is_gt h
reverse_gt Greater s h l = ap is_gt h

not_both : (b : Bool) (r : Ordering) → (b && not (is_lt r)) ≡ false → b ≡ true → is_gt r ≡ false
not_both true Less h e = refl
not_both true Equal h e = refl
not_both true Greater h e = absurd (true≢false h)
not_both false r h e = absurd (true≢false (sym e))

not_lt : (b : Bool) → not b ≡ true → b ≡ false
not_lt true h = sym h
not_lt false h = refl

module _ {A : Type 0} (test : A → Bool) (cmp : A → A → Ordering) (o : IsTotalOrder cmp) (xs : List A) (x : A) where
  own : is_gt (cmp x x) ≡ false
  own = own_gt (cmp x x) (o.antisymm x x)

  pub greatest-more : (b : Option A) → IsGreatest test cmp xs b → IsGreatest test cmp (xs ++ x ∷ []) (greater_of test cmp b x)
  greatest-more None h = by (test x) refl
    where
      by : (t : Bool) → test x ≡ t → IsGreatest test cmp (xs ++ x ∷ []) (greater_of test cmp None x)
      by true e = subst (λ t. IsGreatest test cmp (xs ++ x ∷ []) (if t then Some x else None)) (sym e)
          (Contains-push xs x, e, all_push (λ y. test y ≡ false) (λ y. test y ≡ true → is_gt (cmp y x) ≡ false) xs x (λ y off on. absurd (true≢false (sym on ∙ off))) h (λ _. own))
      by false e = subst (λ t. IsGreatest test cmp (xs ++ x ∷ []) (if t then Some x else None)) (sym e)
          (all_push (λ y. test y ≡ false) (λ y. test y ≡ false) xs x (λ y n. n) h e)
  greatest-more (Some best) h = by (test x && not (is_lt (cmp x best))) refl
    where
      by : (t : Bool) → (test x && not (is_lt (cmp x best))) ≡ t → IsGreatest test cmp (xs ++ x ∷ []) (greater_of test cmp (Some best) x)
      by true e = subst (λ t. IsGreatest test cmp (xs ++ x ∷ []) (if t then Some x else Some best)) (sym e) (
        Contains-push xs x,
        first_so (test x) _ e,
        all_push (λ y. test y ≡ true → is_gt (cmp y best) ≡ false) (λ y. test y ≡ true → is_gt (cmp y x) ≡ false) xs x
            (λ y g holds. upto o y best x (g holds) (reverse_gt (cmp x best) (cmp best x) (o.antisymm best x) (not_lt (is_lt (cmp x best)) (second_so (test x) _ e)))) h.2 (λ _. own),
      )
      by false e = subst (λ t. IsGreatest test cmp (xs ++ x ∷ []) (if t then Some x else Some best)) (sym e) (
        Contains-append_left xs (x ∷ []) best h.0,
        h.1,
        all_push (λ y. test y ≡ true → is_gt (cmp y best) ≡ false) (λ y. test y ≡ true → is_gt (cmp y best) ≡ false) xs x (λ y g. g) h.2 (not_both (test x) (cmp x best) e),
      )

no_elements : {A : Type 0} (x : A) → Contains [] x → ⊥
no_elements x h = let below : h.0 < 0 = h.1 in omega arith

contains_map : {A B : Type 0} (f : A → B) (xs : List A) (x : A) → Contains xs x → Contains (map f xs) (f x)
contains_map f [] x h = absurd (no_elements x h)
contains_map f (y ∷ ys) x h = elim (Contains-append_cases (y ∷ []) ys x h) [
  | inl here ↦ elim (Contains-push_cases [] y x here) [
    | inl none ↦ absurd (no_elements x none)
    | inr same ↦ Contains-append_left (f y ∷ []) (map f ys) (f x) (subst (λ z. Contains (f y ∷ []) (f z)) same (Contains-push [] (f y)))
  ]
  | inr later ↦ Contains-append_right (f y ∷ []) (map f ys) (f x) (contains_map f ys x later)
]

module _ {A B : Type 0} (f : A → B) (test : A → Bool) (shown : B → Bool) (cmp : B → B → Ordering) (agree : (x : A) → test x ≡ shown (f x)) where
  all_map : (P : A → Type 0) (Q : B → Type 0) (xs : List A) → ((x : A) → P x → Q (f x)) → AllByRecursion P xs → AllByRecursion Q (map f xs)
  all_map P Q [] w all = all
  all_map P Q (x ∷ xs) w all = (w x all.0, all_map P Q xs w all.1)

  -- the greatest of what a list shows
  pub greatest-map : (xs : List A) (o : Option A) → IsGreatest test (λ a b. cmp (f a) (f b)) xs o → IsGreatest shown cmp (map f xs) (option_map f o)
  greatest-map xs None h = all_map (λ x. test x ≡ false) (λ y. shown y ≡ false) xs (λ x n. sym (agree x) ∙ n) h
  greatest-map xs (Some best) h = (
    contains_map f xs best h.0,
    sym (agree best) ∙ h.1,
    all_map (λ x. test x ≡ true → is_gt (cmp (f x) (f best)) ≡ false) (λ y. shown y ≡ true → is_gt (cmp y (f best)) ≡ false) xs (λ x g holds. g (agree x ∙ holds)) h.2,
  )
