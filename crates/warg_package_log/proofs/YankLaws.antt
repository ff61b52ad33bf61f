-- Lawful events yank no version twice.
use Rattle.std.proofs.Common.{◌≡◌, ℕ, ◌≤◌, List, [], ◌∷◌, map, Bool, true, false, length, Option, Some, None, refl, sym, ap, ◌∙◌, if◌then◌else◌, arith}
use Rattle.std.specs.Prelude.{find}
use Rattle.std.specs.List.{filter_map, cons_option}
use Rattle.std.specs.Option.{option_map, option_map_or, option_or}
use Rattle.std.proofs.lemmas.List.Folds.{find-append}
use Rattle.warg_crypto.specs.Time.Times.{Time}
use Rattle.warg_log_records.specs.PackageEntries.{VersionParts, PackageOwnEntry, Release, Yank}
use Rattle.warg_log_records.specs.declared.record_id.RecordId.{RecordId}
use Rattle.warg_log_records.specs.Walks.{AllLawful}
use Rattle.warg_log.specs.Rules.{Event}
use Rattle.warg_log.proofs.SignedEntryLaws.{latest-one}
use Rattle.warg_package_log.specs.EquivalentReleaseLaws.{find-with_later_yanks}
use Rattle.warg_package_log.specs.ListedReleases.{own_after, event_offence}
use Rattle.warg_package_log.specs.Releases.{ReleaseView, state_if_yanked, with_later_yanks, releases_made, releases_after, find_parts, own_offence, unyankable, is_yanked}
use Rattle.warg_package_log.specs.SameReleaseLaws.{exact_parts}
use Rattle.warg_package_log.specs.Versions.{same_parts}
use Rattle.warg_package_log.specs.declared.release.ReleaseState.{ReleaseState}
use Rattle.warg_package_log.specs.declared.release.ReleaseState.TheVariants.{Released, Yanked}

-- whether the release of the version is yanked, if there is one
abbrev is_down : List ReleaseView → VersionParts → Bool
is_down rs v = option_map_or (λ r. is_yanked r.state) (find_parts rs v) false

-- a Yank of a version whose release is yanked is not lawful
not_again : (v : VersionParts) (o : Option ReleaseView) → option_map_or (λ r. is_yanked r.state) o false ≡ true → unyankable v (option_map (λ r. r.state) o) ≡ None → ⊥
not_again v None down h = cc
not_again v (Some r) down h = by r.state down h
  where
    by : (s : ReleaseState) → is_yanked s ≡ true → unyankable v (Some s) ≡ None → ⊥
    by (Released content) down h = cc
    by (Yanked signer time) down h = cc

-- a Yank that is lawful is of a release, and the release stands
there_before : (v : VersionParts) (o : Option ReleaseView) → unyankable v (option_map (λ r. r.state) o) ≡ None → (r : ReleaseView) × (o ≡ Some r)
there_before v None h = absurd (never h)
  where
    never : unyankable v None ≡ None → ⊥
    never h = cc
there_before v (Some r) h = (r, refl)

found_passes : (t : ReleaseView → Bool) (rs : List ReleaseView) (r : ReleaseView) → find t rs ≡ Some r → t r ≡ true
found_passes t [] r h = cc
found_passes t (x ∷ rs) r h = by (t x) refl h (found_passes t rs r)
  where
    by : (b : Bool) → t x ≡ b → (if b then Some x else find t rs) ≡ Some r → (find t rs ≡ Some r → t r ≡ true) → t r ≡ true
    by true e g rest = let is : x ≡ r = cc in ap t (sym is) ∙ e
    by false e g rest = rest g

-- what is found stays, turned by the event
found_after : (rs : List ReleaseView) (e : Event PackageOwnEntry) (v : VersionParts) (r : ReleaseView) → find_parts rs v ≡ Some r → find_parts (releases_after rs (e ∷ [])) v ≡ Some (with_later_yanks (e ∷ []) r)
found_after rs e v r h =
    find-append (λ q. same_parts v q.version) (map (with_later_yanks (e ∷ [])) rs) (releases_made (e ∷ []))
    ∙ ap (λ o. option_or o (find_parts (releases_made (e ∷ [])) v)) (find-with_later_yanks (e ∷ []) v rs ∙ ap (option_map (with_later_yanks (e ∷ []))) h)

module _ (signer : List ℕ) (time : Time) (id : RecordId) where
  abbrev event : PackageOwnEntry → Event PackageOwnEntry
  event o = record { entry = o; signer = signer; time = time; record_id = id }

  turned_down : (b : Bool) (s : ReleaseState) → is_yanked s ≡ true → is_yanked (if b then Yanked signer time else s) ≡ true
  turned_down true s down = refl
  turned_down false s down = down

  -- a yanked release stays so
  stays_down : (o : PackageOwnEntry) (r : ReleaseView) → is_yanked r.state ≡ true → is_yanked (with_later_yanks (event o ∷ []) r).state ≡ true
  stays_down (Release w content) r down = down
  stays_down (Yank w) r down = ap is_yanked (latest-one (same_parts w r.version) (Yanked signer time) r.state) ∙ turned_down (same_parts w r.version) r.state down

  still_down : (rs : List ReleaseView) (o : PackageOwnEntry) (v : VersionParts) (found : Option ReleaseView) → find_parts rs v ≡ found → option_map_or (λ r. is_yanked r.state) found false ≡ true → is_down (releases_after rs (event o ∷ [])) v ≡ true
  still_down rs o v None at down = cc
  still_down rs o v (Some r) at down = ap (λ f. option_map_or (λ (q : ReleaseView). is_yanked q.state) f false) (found_after rs (event o) v r at) ∙ stays_down o r down

  -- after a Yank the release is yanked
  yanked_now : (rs : List ReleaseView) (v : VersionParts) → own_offence rs (Yank v) ≡ None → is_down (releases_after rs (event (Yank v) ∷ [])) v ≡ true
  yanked_now rs v h =
      let found = there_before v (find_parts rs v) h in
      let r = found.0 in
      ap (λ f. option_map_or (λ (q : ReleaseView). is_yanked q.state) f false) (found_after rs (event (Yank v)) v r found.1)
      ∙ ap is_yanked (latest-one (same_parts v r.version) (Yanked signer time) r.state ∙ ap (λ b. if b then Yanked signer time else r.state) (found_passes (λ q. same_parts v q.version) rs r found.1))

  -- an event is no Yank of a version whose release is yanked
  silent : (rs : List ReleaseView) (o : PackageOwnEntry) (v : VersionParts) → is_down rs v ≡ true → own_offence rs o ≡ None → state_if_yanked v (event o) ≡ None
  silent rs (Release w content) v down h = refl
  silent rs (Yank w) v down h = by (same_parts w v) refl
    where
      by : (b : Bool) → same_parts w v ≡ b → (if same_parts w v then Some (Yanked signer time) else None) ≡ None
      by true e = absurd (not_again w (find_parts rs w) (ap (is_down rs) (exact_parts w v e) ∙ down) h)
      by false e = ap (λ b. if b then Some (Yanked signer time) else None) e

  -- an event that yanks a version leaves its release yanked
  spoken : (rs : List ReleaseView) (o : PackageOwnEntry) (v : VersionParts) (s : ReleaseState) → own_offence rs o ≡ None → state_if_yanked v (event o) ≡ Some s → is_down (releases_after rs (event o ∷ [])) v ≡ true
  spoken rs (Release w content) v s h says = cc
  spoken rs (Yank w) v s h says = by (same_parts w v) refl
    where
      by : (b : Bool) → same_parts w v ≡ b → is_down (releases_after rs (event (Yank w) ∷ [])) v ≡ true
      by true e = ap (is_down (releases_after rs (event (Yank w) ∷ []))) (sym (exact_parts w v e)) ∙ yanked_now rs w h
      by false e = absurd (never (sym (ap (λ b. if b then Some (Yanked signer time) else None) e) ∙ says))
        where
          never : None ≡ Some s → ⊥
          never g = cc

-- no Yank follows on a yanked release
none_more : (rs : List ReleaseView) (es : List (Event PackageOwnEntry)) (v : VersionParts) → is_down rs v ≡ true → AllLawful own_after event_offence rs es → filter_map (state_if_yanked v) es ≡ []
none_more rs [] v down h = refl
none_more rs (e ∷ es) v down h =
    ap (λ o. cons_option o (filter_map (state_if_yanked v) es)) (silent e.signer e.time e.record_id rs e.entry v down h.0)
    ∙ none_more (releases_after rs (e ∷ [])) es v (still_down e.signer e.time e.record_id rs e.entry v (find_parts rs v) refl down) h.1

-- a version has one Yank at most
pub one-yank : (rs : List ReleaseView) (es : List (Event PackageOwnEntry)) (v : VersionParts) → AllLawful own_after event_offence rs es → length (filter_map (state_if_yanked v) es) ≤ 1
one-yank rs [] v h = omega arith
one-yank rs (e ∷ es) v h = by (one-yank (releases_after rs (e ∷ [])) es v h.1) (state_if_yanked v e) refl
  where
    by : length (filter_map (state_if_yanked v) es) ≤ 1 → (o : Option ReleaseState) → state_if_yanked v e ≡ o → length (cons_option (state_if_yanked v e) (filter_map (state_if_yanked v) es)) ≤ 1
    by later None says = rw says later
    by later (Some s) says = rw (says, none_more (releases_after rs (e ∷ [])) es v (spoken e.signer e.time e.record_id rs e.entry v s h.0 says) h.1) (omega arith)
