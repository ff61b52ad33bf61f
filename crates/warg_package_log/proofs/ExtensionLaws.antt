-- Lawful events keep the releases that stand before them.
use Rattle.std.proofs.Common.{◌≡◌, inl, inr, ℕ, List, [], ◌∷◌, ◌++◌, map, Bool, true, false, cond, Some, None, refl, sym, ap, ◌∙◌, subst, true≢false, if◌then◌else◌}
use Rattle.std.specs.List.{AllByRecursion}
use Rattle.std.specs.Option.{option_map}
use Rattle.warg_crypto.specs.Time.Times.{Time}
use Rattle.warg_log_records.specs.PackageEntries.{VersionParts, PackageOwnEntry, Release, Yank}
use Rattle.warg_log_records.specs.declared.record_id.RecordId.{RecordId}
use Rattle.warg_log_records.specs.Walks.{view_after, AllLawful}
use Rattle.warg_log.specs.SignedEntries.{latest}
use Rattle.warg_log.specs.Rules.{Event}
use Rattle.warg_log.proofs.SignedEntryLaws.{latest-one}
use Rattle.warg_package_log.specs.Versions.{same_parts}
use Rattle.warg_package_log.specs.Releases.{ReleaseView, state_if_yanked, with_later_yanks, releases_made, releases_after, find_parts, own_offence, unyankable, is_yanked, versions}
use Rattle.warg_package_log.specs.ReleaseMap.{AreDistinct}
use Rattle.warg_package_log.specs.Extensions.{IsKeptState, IsKept, IsExtension}
use Rattle.warg_package_log.specs.ListedReleases.{own_after, event_offence}
use Rattle.warg_package_log.specs.ListedReleaseLaws.{unless_none}
use Rattle.warg_package_log.specs.SameReleaseLaws.{exact_parts}
use Rattle.warg_package_log.proofs.ReleaseMapLemmas.{distinct-release}
use Rattle.warg_package_log.specs.declared.release.ReleaseState.{ReleaseState}
use Rattle.warg_package_log.specs.declared.release.ReleaseState.TheVariants.{Released, Yanked}

kept_state-trans : (a b c : ReleaseState) → IsKeptState a b → IsKeptState b c → IsKeptState a c
kept_state-trans a b c (inl h) (inl g) = inl (h ∙ g)
kept_state-trans a b c (inl h) (inr g) = inr (ap is_yanked h ∙ g.0, g.1)
kept_state-trans a b c (inr h) (inl g) = inr (h.0, sym (ap is_yanked g) ∙ h.1)
kept_state-trans a b c (inr h) (inr g) = absurd (true≢false (sym h.1 ∙ g.0))

kept-self : (r : ReleaseView) → IsKept r r
kept-self r = record { record_id = refl; version = refl; by = refl; timestamp = refl; state = inl refl }

kept-trans : (a b c : ReleaseView) → IsKept a b → IsKept b c → IsKept a c
kept-trans a b c h g = record {
  record_id = g.record_id ∙ h.record_id;
  version = g.version ∙ h.version;
  by = g.by ∙ h.by;
  timestamp = g.timestamp ∙ h.timestamp;
  state = kept_state-trans a.state b.state c.state h.state g.state;
}

pub extension-self : (rs : List ReleaseView) → IsExtension rs rs
extension-self [] = tt
extension-self (r ∷ rs) = (kept-self r, extension-self rs)

pub extension-trans : (olds mids news : List ReleaseView) → IsExtension olds mids → IsExtension mids news → IsExtension olds news
extension-trans [] mids news h g = tt
extension-trans (a ∷ olds) [] news h g = absurd h
extension-trans (a ∷ olds) (b ∷ mids) [] h g = absurd g
extension-trans (a ∷ olds) (b ∷ mids) (c ∷ news) h g = (kept-trans a b c h.0 g.0, extension-trans olds mids news h.1 g.1)

unyanked : (v : VersionParts) (s : ReleaseState) → unyankable v (Some s) ≡ None → is_yanked s ≡ false
unyanked v (Released content) h = refl
unyanked v (Yanked by timestamp) h = cc

module _ (signer : List ℕ) (time : Time) (id : RecordId) where
  abbrev event : PackageOwnEntry → Event PackageOwnEntry
  event o = record { entry = o; signer = signer; time = time; record_id = id }

  -- a Yank keeps a release that it does not name, and one that stands
  kept-yank : (v : VersionParts) (r : ReleaseView) → (same_parts v r.version ≡ true → is_yanked r.state ≡ false) → IsKept r (with_later_yanks (event (Yank v) ∷ []) r)
  kept-yank v r stands = record { record_id = refl; version = refl; by = refl; timestamp = refl; state = by (same_parts v r.version) refl }
    where
      by : (b : Bool) → same_parts v r.version ≡ b → IsKeptState r.state (latest (state_if_yanked r.version) r.state (event (Yank v) ∷ []))
      by true e = inr (stands e, ap is_yanked (latest-one (same_parts v r.version) (Yanked signer time) r.state ∙ ap (λ b. if b then Yanked signer time else r.state) e))
      by false e = inl (sym (latest-one (same_parts v r.version) (Yanked signer time) r.state ∙ ap (λ b. if b then Yanked signer time else r.state) e))

  -- versions that differ from one differ from what is the same as it
  elsewhere : (v : VersionParts) (r q : ReleaseView) → same_parts v r.version ≡ true → same_parts r.version q.version ≡ false → same_parts v q.version ≡ true → is_yanked q.state ≡ false
  elsewhere v r q here apart there = absurd (true≢false (sym there ∙ ap (λ w. same_parts w q.version) (exact_parts v r.version here) ∙ apart))

  others-kept : (v : VersionParts) (r : ReleaseView) (rs more : List ReleaseView) → same_parts v r.version ≡ true → AllByRecursion (λ w. same_parts r.version w ≡ false) (versions rs)
      → IsExtension rs (map (with_later_yanks (event (Yank v) ∷ [])) rs ++ more)
  others-kept v r [] more here apart = tt
  others-kept v r (q ∷ rs) more here apart = (kept-yank v q (elsewhere v r q here apart.0), others-kept v r rs more here apart.1)

  yank-kept : (v : VersionParts) (rs more : List ReleaseView) → AreDistinct (versions rs) → unyankable v (option_map (λ r. r.state) (find_parts rs v)) ≡ None
      → IsExtension rs (map (with_later_yanks (event (Yank v) ∷ [])) rs ++ more)
  yank-kept v [] more d h = tt
  yank-kept v (r ∷ rs) more d h = by (same_parts v r.version) refl h (yank-kept v rs more d.1)
    where
      by : (b : Bool) → same_parts v r.version ≡ b → unyankable v (option_map (λ r. r.state) (cond b (Some r) (find_parts rs v))) ≡ None
          → (unyankable v (option_map (λ r. r.state) (find_parts rs v)) ≡ None → IsExtension rs (map (with_later_yanks (event (Yank v) ∷ [])) rs ++ more))
          → IsExtension (r ∷ rs) (map (with_later_yanks (event (Yank v) ∷ [])) (r ∷ rs) ++ more)
      by true e h rest = (kept-yank v r (λ _. unyanked v r.state h), others-kept v r rs more e d.0)
      by false e h rest = (kept-yank v r (λ t. absurd (true≢false (sym t ∙ e))), rest h)

  release-kept : (v : VersionParts) (rs more : List ReleaseView) (o : PackageOwnEntry) → ((r : ReleaseView) → IsKept r (with_later_yanks (event o ∷ []) r)) → IsExtension rs (map (with_later_yanks (event o ∷ [])) rs ++ more)
  release-kept v [] more o each = tt
  release-kept v (r ∷ rs) more o each = (each r, release-kept v rs more o each)

  step-kept : (o : PackageOwnEntry) (rs : List ReleaseView) → AreDistinct (versions rs) → own_offence rs o ≡ None → IsExtension rs (releases_after rs (event o ∷ []))
  step-kept (Release v content) rs d h = release-kept v rs (releases_made (event (Release v content) ∷ [])) (Release v content) (λ r. kept-self r)
  step-kept (Yank v) rs d h = yank-kept v rs (releases_made (event (Yank v) ∷ [])) d h

  versions-with_later_yanks : (es : List (Event PackageOwnEntry)) (rs : List ReleaseView) → versions (map (with_later_yanks es) rs) ≡ versions rs
  versions-with_later_yanks es [] = refl
  versions-with_later_yanks es (r ∷ rs) = ap (λ l. r.version ∷ l) (versions-with_later_yanks es rs)

  find-versions : (v : VersionParts) (rs qs : List ReleaseView) → versions rs ≡ versions qs → find_parts rs v ≡ None → find_parts qs v ≡ None
  find-versions v rs [] same h = refl
  find-versions v [] (q ∷ qs) same h = cc
  find-versions v (r ∷ rs) (q ∷ qs) same h = by (same_parts v r.version) refl h (find-versions v rs qs tail)
    where
      head : r.version ≡ q.version
      head = cc

      tail : versions rs ≡ versions qs
      tail = cc

      by : (b : Bool) → same_parts v r.version ≡ b → cond b (Some r) (find_parts rs v) ≡ None → (find_parts rs v ≡ None → find_parts qs v ≡ None) → cond (same_parts v q.version) (Some q) (find_parts qs v) ≡ None
      by true e g rest = cc
      by false e g rest = ap (λ b. cond b (Some q) (find_parts qs v)) (ap (same_parts v) (sym head) ∙ e) ∙ rest g

  nil_end : {A : Type 0} (xs : List A) → xs ++ [] ≡ xs
  nil_end [] = refl
  nil_end (x ∷ xs) = ap (λ l. x ∷ l) (nil_end xs)

  -- and the versions stay pairwise different
  step-distinct : (o : PackageOwnEntry) (rs : List ReleaseView) → AreDistinct (versions rs) → own_offence rs o ≡ None → AreDistinct (versions (releases_after rs (event o ∷ [])))
  step-distinct (Release v content) rs d h =
      let es = event (Release v content) ∷ [] in
      let made : ReleaseView = record { record_id = id; version = v; by = signer; timestamp = time; state = Released content } in
      distinct-release (map (with_later_yanks es) rs) made (find-versions v rs (map (with_later_yanks es) rs) (sym (versions-with_later_yanks es rs)) (unless_none (find_parts rs v) _ h)) (subst AreDistinct (sym (versions-with_later_yanks es rs)) d)
  step-distinct (Yank v) rs d h =
      let es = event (Yank v) ∷ [] in
      subst (λ qs. AreDistinct (versions qs)) (sym (nil_end (map (with_later_yanks es) rs))) (subst AreDistinct (sym (versions-with_later_yanks es rs)) d)

-- lawful events keep what stands before them
pub lawful-kept : (rs : List ReleaseView) (es : List (Event PackageOwnEntry)) → AreDistinct (versions rs) → AllLawful own_after event_offence rs es
    → IsExtension rs (view_after own_after rs es) × AreDistinct (versions (view_after own_after rs es))
lawful-kept rs [] d h = (extension-self rs, d)
lawful-kept rs (e ∷ es) d h =
    let kept = step-kept e.signer e.time e.record_id e.entry rs d h.0 in
    let rest = lawful-kept (releases_after rs (e ∷ [])) es (step-distinct e.signer e.time e.record_id e.entry rs d h.0) h.1 in
    (extension-trans rs (releases_after rs (e ∷ [])) (view_after own_after (releases_after rs (e ∷ [])) es) kept rest.0, rest.1)
