-- Of lawful events, the releases by filters are the releases made event by event.
use Rattle.std.proofs.Common.{◌≡◌, inl, inr, ℕ, List, [], ◌∷◌, ◌++◌, map, false, cond, Option, Some, None, refl, sym, ap, ◌∙◌, true≢false, is_some}
use Rattle.std.specs.Prelude.{is_none}
use Rattle.std.specs.List.{filter_map, cons_option}
use Rattle.std.specs.Option.{option_map, option_or}
use Rattle.std.proofs.lemmas.Bool.{cases_Bool}
use Rattle.std.proofs.lemmas.List.Folds.{find-append}
use Rattle.std.proofs.lemmas.List.Elements.{filter_map-append}
use Rattle.warg_crypto.specs.Time.Times.{Time}
use Rattle.warg_log_records.specs.PackageEntries.{VersionParts, PackageOwnEntry, Release, Yank}
use Rattle.warg_log_records.specs.declared.record_id.RecordId.{RecordId}
use Rattle.warg_log_records.specs.Walks.{view_after, AllLawful, IsStepwise}
use Rattle.warg_log_records.proofs.WalkLaws.{lawful-view}
use Rattle.warg_log.specs.SignedEntries.{latest}
use Rattle.warg_log.specs.Offences.{unless}
use Rattle.warg_log.specs.Rules.{Event}
use Rattle.warg_log.proofs.SignedEntryLaws.{latest-append, latest-one}
use Rattle.warg_package_log.specs.Versions.{same_parts}
use Rattle.warg_package_log.specs.Releases.{OwnOffence, ReleaseView, state_if_yanked, release_made_by_event, with_later_yanks, releases_made, releases_after, find_parts, own_offence, unyankable}
use Rattle.warg_package_log.specs.ReleaseLaws.{with_later_yanks-append, releases-none, releases-append}
use Rattle.warg_package_log.specs.EquivalentReleaseLaws.{find-with_later_yanks}
use Rattle.warg_package_log.specs.ListedReleases.{with_yank, listed_releases, own_after, event_offence}
use Rattle.warg_package_log.specs.SameReleaseLaws.{exact_parts}
use Rattle.warg_package_log.specs.declared.release.ReleaseState.{ReleaseState}
use Rattle.warg_package_log.specs.declared.release.ReleaseState.TheVariants.{Released, Yanked}

some≢none : {A : Type 0} {x : A} → Some x ≡ None → ⊥
some≢none h = true≢false (ap is_some h)

-- no Yank is of a version that is not released
abbrev pub NoStray : List (Event PackageOwnEntry) → Type 0
NoStray es = (v : VersionParts) → find_parts (listed_releases es) v ≡ None → (s : ReleaseState) → latest (state_if_yanked v) s es ≡ s

turned_cons : (ys : List (Event PackageOwnEntry)) (m : Option ReleaseView) (xs : List (Event PackageOwnEntry)) (rs : List ReleaseView) → cons_option (option_map (with_yank (xs ++ ys)) m) (map (with_later_yanks ys) rs) ≡ map (with_later_yanks ys) (cons_option (option_map (with_yank xs) m) rs)
turned_cons ys None xs rs = refl
turned_cons ys (Some r) xs rs = ap (λ x. x ∷ map (with_later_yanks ys) rs) (with_later_yanks-append xs ys r)

turned_front : (xs ys zs : List (Event PackageOwnEntry))
    → filter_map (λ e. option_map (with_yank (xs ++ ys)) (release_made_by_event e)) zs ≡ map (with_later_yanks ys) (filter_map (λ e. option_map (with_yank xs) (release_made_by_event e)) zs)
turned_front xs ys [] = refl
turned_front xs ys (z ∷ zs) = ap (cons_option (option_map (with_yank (xs ++ ys)) (release_made_by_event z))) (turned_front xs ys zs) ∙ turned_cons ys (release_made_by_event z) xs (filter_map (λ e. option_map (with_yank xs) (release_made_by_event e)) zs)

none_first : {A : Type 0} (a b : Option A) → option_or a b ≡ None → a ≡ None
none_first None b h = refl
none_first (Some x) b h = absurd (some≢none h)

none_inside : {A B : Type 0} (f : A → B) (o : Option A) → option_map f o ≡ None → o ≡ None
none_inside f None h = refl
none_inside f (Some x) h = absurd (some≢none h)

-- where a find is an offence and there is no offence, nothing was found
pub unless_none : {A : Type 0} (o : Option A) (x : OwnOffence) → unless (is_none o) x ≡ None → o ≡ None
unless_none None x h = refl
unless_none (Some a) x h = absurd (some≢none h)

yank_known : (v : VersionParts) (o : Option ReleaseView) → unyankable v (option_map (λ r. r.state) o) ≡ None
    → o ≡ None → ⊥
yank_known v None h g = some≢none h
yank_known v (Some r) h g = some≢none g

module _ (es : List (Event PackageOwnEntry)) (stray : NoStray es) where
  -- what was not released before, is not after one more event, and no Yank is of it
  found_before : (e : Event PackageOwnEntry)
      → listed_releases (es ++ e ∷ []) ≡ releases_after (listed_releases es) (e ∷ []) → (w : VersionParts)
      → find_parts (listed_releases (es ++ e ∷ [])) w ≡ None → find_parts (listed_releases es) w ≡ None
  found_before e is w h =
      let whole = sym (find-append (λ r. same_parts w r.version) (map (with_later_yanks (e ∷ [])) (listed_releases es)) (releases_made (e ∷ []))) ∙ ap (λ l. find_parts l w) (sym is) ∙ h in
      none_inside (with_later_yanks (e ∷ [])) (find_parts (listed_releases es) w) (sym (find-with_later_yanks (e ∷ []) w (listed_releases es)) ∙ none_first _ (find_parts (releases_made (e ∷ [])) w) whole)

  push : (e : Event PackageOwnEntry)
      → cons_option (option_map (with_yank (es ++ e ∷ [])) (release_made_by_event e)) [] ≡ releases_made (e ∷ [])
      → listed_releases (es ++ e ∷ []) ≡ releases_after (listed_releases es) (e ∷ [])
  push e last = filter_map-append (λ x. option_map (with_yank (es ++ e ∷ [])) (release_made_by_event x)) es (e ∷ []) ∙ (λ i. turned_front es (e ∷ []) es i ++ last i)

  module _ (signer : List ℕ) (time : Time) (id : RecordId) where
    -- an own entry as an event of this signer, time and record
    abbrev event : PackageOwnEntry → Event PackageOwnEntry
    event o = record { entry = o; signer = signer; time = time; record_id = id }

    last_said : (o : PackageOwnEntry) (w : VersionParts) → find_parts (listed_releases es) w ≡ None
        → (s : ReleaseState)
        → latest (state_if_yanked w) s (es ++ event o ∷ []) ≡ latest (state_if_yanked w) s (event o ∷ [])
    last_said o w none s = latest-append (state_if_yanked w) s es (event o ∷ []) ∙ ap (λ t. latest (state_if_yanked w) t (event o ∷ [])) (stray w none s)

    other : (v w : VersionParts) → own_offence (listed_releases es) (Yank v) ≡ None
        → find_parts (listed_releases es) w ≡ None
        → same_parts v w ≡ false
    other v w h none = elim (cases_Bool (same_parts v w)) [
      | inl equal ↦ absurd (yank_known v (find_parts (listed_releases es) v) h (ap (find_parts (listed_releases es)) (exact_parts v w equal) ∙ none))
      | inr apart ↦ apart
    ]

    one_more : (o : PackageOwnEntry) → own_offence (listed_releases es) o ≡ None
        → NoStray (es ++ event o ∷ []) × (listed_releases (es ++ event o ∷ []) ≡ releases_after (listed_releases es) (event o ∷ []))
    one_more (Release v content) h =
        let fresh = unless_none (find_parts (listed_releases es) v) _ h in
        let is = push (event (Release v content)) (ap (λ s. record { record_id = id; version = v; by = signer; timestamp = time; state = s } ∷ []) (last_said (Release v content) v fresh (Released content))) in
        (λ w none s. last_said (Release v content) w (found_before (event (Release v content)) is w none) s, is)
    one_more (Yank v) h =
        let is = push (event (Yank v)) refl in (
          λ w none s.
              let before = found_before (event (Yank v)) is w none in
              last_said (Yank v) w before s ∙ latest-one (same_parts v w) (Yanked signer time) s ∙ ap (λ b. cond b (Yanked signer time) s) (other v w h before),
          is,
        )

-- releases made event by event
pub view-after : (rs : List ReleaseView) (es : List (Event PackageOwnEntry))
    → view_after own_after rs es ≡ releases_after rs es
view-after rs [] = releases-none rs
view-after rs (e ∷ es) = view-after (releases_after rs (e ∷ [])) es ∙ sym (releases-append rs (e ∷ []) es)

-- one more event, as long as none has an offence
pub releases-stepwise : IsStepwise own_after event_offence [] listed_releases NoStray
releases-stepwise = record { none = refl; good = λ v none s. refl; more = λ es e stray h. one_more es stray e.signer e.time e.record_id e.entry h }

-- of events without offence, the releases by filters are those made event by event
pub releases-listed : (es : List (Event PackageOwnEntry)) → AllLawful own_after event_offence [] es
    → listed_releases es ≡ releases_after [] es
releases-listed es h = (lawful-view event_offence own_after [] listed_releases NoStray releases-stepwise es h).1 ∙ view-after [] es
