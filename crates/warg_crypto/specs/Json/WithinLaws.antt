-- A text within a member that was found, and the name of a pair that was written, stand in the JSON.
use Rattle.std.specs.Prelude.{◌≡◌, ◌⊎◌, ℕ, List, [], ◌∷◌, Option, Some, None, Result, Ok, Err, refl}
use Rattle.std.specs.declared.cmp.Ordering.{Ordering}
use Rattle.std.specs.declared.cmp.Ordering.TheVariants.{Less, Equal, Greater}
use Rattle.std.specs.Cmp.Lexicographic.{slice_cmp}
use Rattle.std.specs.List.{AllByRecursion}
use Rattle.std.specs.Ordering.{nat_cmp, is_eq, match_ordering}
use Rattle.std.specs.Str.{bytes_eq}
use Rattle.std.proofs.Common.{inl, inr, sym, ap, ◌∙◌, subst}
use Rattle.std.proofs.lemmas.Map.Text.{is_eq-slice_cmp}
use Rattle.std.proofs.lemmas.Slice.Eq.{bytes_eq-Decides}
use Rattle.semver.specs.Identifiers.{parts_text}
use Rattle.serde_json.specs.Data.{Data, Members, no_members, member, object, put}
use Rattle.serde_json.specs.Find.{get_member}
use Rattle.serde_json.proofs.Views.{get_member-put}
use Rattle.warg_crypto.specs.declared.json.error.JsonError.{JsonError}
use Rattle.warg_crypto.specs.Json.Json.{Version}
use Rattle.warg_crypto.specs.Json.Pairs.{pairs_json, pairs_onto}
use Rattle.warg_crypto.specs.Json.JsonLaws.{bind_ok, ok_same}
use Rattle.warg_crypto.specs.Json.Within.{AreWithin, IsWithin, IsInMembers}

some_same : (d e : Data) → Some d ≡ Some e → d ≡ e
some_same d e h = cc

-- what stands in a member that is found stands in the object
pub found_within : (t name : List ℕ) (d : Data) (ms : Members) → get_member name ms ≡ Some d → IsWithin t d
    → IsInMembers t ms
found_within t name d no_members at h = cc at
found_within t name d (member l e ms) at h =
    by (slice_cmp nat_cmp name l) at (λ is. found_within t name d ms is h)
  where
    by : (o : Ordering) → match_ordering o (get_member name ms) (Some e) (get_member name ms) ≡ Some d
        → (get_member name ms ≡ Some d → IsInMembers t ms)
        → (t ≡ l) ⊎ (IsWithin t e ⊎ IsInMembers t ms)
    by Less is later = inr (inr (later is))
    by Equal is later = inr (inl (subst (λ (x : Data). IsWithin t x) (sym (some_same e d is)) h))
    by Greater is later = inr (inr (later is))

-- and so do the texts of versions
pub member_within : (versions : List Version) (name : List ℕ) (d : Data) (ms : Members) → get_member name ms ≡ Some d
    → AreWithin versions d → AreWithin versions (object ms)
member_within [] name d ms at h = tt
member_within (v ∷ vs) name d ms at h =
    (found_within (parts_text v) name d ms at h.0, member_within vs name d ms at h.1)

-- the name is that of a member
abbrev IsNamed : List ℕ → Members → Type 0
IsNamed t no_members = ⊥
IsNamed t (member name d ms) = (t ≡ name) ⊎ IsNamed t ms

named_within : (t : List ℕ) (ms : Members) → IsNamed t ms → IsInMembers t ms
named_within t no_members h = absurd h
named_within t (member name d ms) (inl h) = inl h
named_within t (member name d ms) (inr h) = inr (inr (named_within t ms h))

same_name : (k l : List ℕ) → slice_cmp nat_cmp k l ≡ Equal → k ≡ l
same_name k l e = (bytes_eq-Decides k l).0 (sym (is_eq-slice_cmp k l) ∙ ap is_eq e)

-- a put leaves the names that are there
still_named : (t k : List ℕ) (d : Data) (ms : Members) → IsNamed t ms → IsNamed t (put k d ms)
still_named t k d no_members h = absurd h
still_named t k d (member l e ms) h = by (slice_cmp nat_cmp k l) (λ at. still_named t k d ms at) h
  where
    by : (o : Ordering) → (IsNamed t ms → IsNamed t (put k d ms)) → (t ≡ l) ⊎ IsNamed t ms
        → IsNamed t (match_ordering o (member k d (member l e ms)) (member l d ms) (member l e (put k d ms)))
    by Less again at = inr at
    by Equal again at = at
    by Greater again (inl is) = inl is
    by Greater again (inr at) = inr (again at)

-- what was put has its name
put_named : (k : List ℕ) (d : Data) (ms : Members) → IsNamed k (put k d ms)
put_named k d no_members = inl refl
put_named k d (member l e ms) = by (slice_cmp nat_cmp k l) refl (put_named k d ms)
  where
    by : (o : Ordering) → slice_cmp nat_cmp k l ≡ o → IsNamed k (put k d ms)
        → IsNamed k (match_ordering o (member k d (member l e ms)) (member l d ms) (member l e (put k d ms)))
    by Less is again = inl refl
    by Equal is again = inl (same_name k l is)
    by Greater is again = inr again

module _ {K A : Type 0} (name_of : K → List ℕ) (writes : A → Result Data JsonError) where
  kept : (t : List ℕ) (ms out : Members) (es : List (K × A)) → IsNamed t ms → pairs_onto name_of writes ms es ≡ Ok out
      → IsNamed t out
  kept t ms out [] h is = subst (λ (x : Members). IsNamed t x) (ok_same ms out is) h
  kept t ms out (e ∷ es) h is =
      let w = bind_ok (writes e.1) _ out is in
      kept t (put (name_of e.0) w.0 ms) out es (still_named t (name_of e.0) w.0 ms h) w.2

  all_named : (ms out : Members) (es : List (K × A)) → pairs_onto name_of writes ms es ≡ Ok out
      → AllByRecursion (λ e. IsNamed (name_of e.0) out) es
  all_named ms out [] is = tt
  all_named ms out (e ∷ es) is =
      let w = bind_ok (writes e.1) _ out is in
      let next : Members = put (name_of e.0) w.0 ms in
      (kept (name_of e.0) next out es (put_named (name_of e.0) w.0 ms) w.2, all_named next out es w.2)

  all_within : (out : Members) (es : List (K × A)) → AllByRecursion (λ e. IsNamed (name_of e.0) out) es
      → AllByRecursion (λ e. IsWithin (name_of e.0) (object out)) es
  all_within out [] h = tt
  all_within out (e ∷ es) h = (named_within (name_of e.0) out h.0, all_within out es h.1)

  -- the name of each pair stands in the object that was written of them
  pub names_within : (es : List (K × A)) (d : Data) → pairs_json name_of writes es ≡ Ok d
      → AllByRecursion (λ e. IsWithin (name_of e.0) d) es
  names_within es d is =
      let w = bind_ok (pairs_onto name_of writes no_members es) _ d is in
      subst (λ (x : Data). AllByRecursion (λ (e : K × A). IsWithin (name_of e.0) x) es) (ok_same _ _ w.2)
      (all_within w.0 es (all_named no_members w.0 es w.1))
