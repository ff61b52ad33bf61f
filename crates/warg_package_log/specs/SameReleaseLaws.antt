-- Equal releases are one, and equal lists of releases are equivalent ones.
use Rattle.std.proofs.Common.{◌≡◌, ◌⊎◌, inl, inr, refl, sym, ap, ◌∙◌, true≢false}
use Rattle.std.specs.Prelude.{List, [], ◌∷◌, Bool, true, false, ◌&&◌, cond, Option, Some, None}
use Rattle.std.specs.Bool.{Decides, one_answer}
use Rattle.std.specs.Cmp.{IsEquivalence, on_equiv, first_so, second_so}
use Rattle.std.specs.List.{list_all}
use Rattle.std.specs.Option.{option_eq}
use Rattle.std.specs.Str.{bytes_eq}
use Rattle.std.specs.Cmp.Lexicographic.{nat_list_eq_equiv}
use Rattle.std.proofs.lemmas.Bool.{eqb-true}
use Rattle.std.proofs.lemmas.Bool.Decides.{Decides-eqb, Decides-int_eq}
use Rattle.std.proofs.lemmas.Cmp.{nat_eq_equiv}
use Rattle.std.proofs.lemmas.Slice.Eq.{bytes_eq-Decides}
use Rattle.std.specs.Ordering.{int_eq}
use Rattle.warg_crypto.specs.Time.Times.{same_time, Time}
use Rattle.warg_crypto.specs.declared.hash.HashAlgorithm.{HashAlgorithm}
use Rattle.warg_crypto.specs.declared.hash.HashAlgorithm.TheVariants.{Sha256}
use Rattle.warg_log_records.specs.declared.record_id.RecordId.{RecordId}
use Rattle.warg_log.specs.RecordOffences.{same_id}
use Rattle.warg_crypto.specs.declared.hash.AnyHash.{AnyHash}
use Rattle.warg_log_records.specs.PackageEntries.{VersionParts}
use Rattle.warg_package_log.specs.ReleaseMap.{release_view}
use Rattle.warg_package_log.specs.Versions.{same_parts}
use Rattle.warg_package_log.specs.Releases.{ReleaseView, find_parts, versions}
use Rattle.warg_package_log.specs.SameReleases.{same_hash, same_state, same_release, same_at, same_releases, AreEquivalentReleases}
use Rattle.warg_package_log.specs.declared.release.Release.{Release}
use Rattle.warg_package_log.specs.declared.release.ReleaseState.{ReleaseState}
use Rattle.warg_package_log.specs.declared.release.ReleaseState.TheVariants.{Released, Yanked}

-- a test that decides equality is an equivalence
exact_equiv : {A : Type 0} {E : A → A → Bool} → ((a b : A) → Decides (E a b) (a ≡ b)) → IsEquivalence E
exact_equiv {A} {E} d = record {
  refl = λ a. (d a a).1 refl;
  symm = λ a b. one_answer (E a b) (E b a) (d a b) (λ h. sym ((d b a).0 h), λ h. (d b a).1 (sym h));
  congr = λ a b c h. ap (λ x. E x c) ((d a b).0 h);
}

one_algorithm : (a b : HashAlgorithm) → a ≡ b
one_algorithm Sha256 Sha256 = refl

hash_decides : (a b : AnyHash) → Decides (same_hash a b) (a ≡ b)
hash_decides a b = (
  λ h. let bytes = (bytes_eq-Decides a.bytes b.bytes).0 h in λ i. record { algorithm = one_algorithm a.algorithm b.algorithm i; bytes = bytes i },
  λ h. (bytes_eq-Decides a.bytes b.bytes).1 (ap (λ (x : AnyHash). x.bytes) h),
)

id_decides : (a b : RecordId) → Decides (same_id a b) (a ≡ b)
id_decides a b = (
  λ h. let hash = (hash_decides a.hash b.hash).0 h in λ i. record { hash = hash i },
  λ h. (hash_decides a.hash b.hash).1 (ap (λ (x : RecordId). x.hash) h),
)

time_decides : (a b : Time) → Decides (same_time a b) (a ≡ b)
time_decides a b = (
  λ h. let seconds = (Decides-int_eq a.seconds b.seconds).0 (first_so (int_eq a.seconds b.seconds) _ h) in let nanos = (Decides-eqb a.nanos b.nanos).0 (second_so (int_eq a.seconds b.seconds) _ h) in λ i. record { seconds = seconds i; nanos = nanos i },
  λ h i. (Decides-int_eq a.seconds b.seconds).1 (ap (λ (t : Time). t.seconds) h) i && (Decides-eqb a.nanos b.nanos).1 (ap (λ (t : Time). t.nanos) h) i,
)

-- parts that the test calls the same are one
pub exact_parts : (a b : VersionParts) → same_parts a b ≡ true → a ≡ b
exact_parts a b h =
    let h0 = first_so _ _ h in
    let t1 = second_so _ _ h in
    let h1 = first_so _ _ t1 in
    let t2 = second_so _ _ t1 in
    let h2 = first_so _ _ t2 in
    let t3 = second_so _ _ t2 in
    let h3 = first_so _ _ t3 in
    let h4 = second_so _ _ t3 in
    λ i. (eqb-true a.0 b.0 h0 i, eqb-true a.1 b.1 h1 i, eqb-true a.2 b.2 h2 i, (bytes_eq-Decides a.3 b.3).0 h3 i, (bytes_eq-Decides a.4 b.4).0 h4 i)

-- parts are the same as themselves
pub same_parts-self : (a : VersionParts) → same_parts a a ≡ true
same_parts-self a = λ i. nat_eq_equiv.refl a.0 i && (nat_eq_equiv.refl a.1 i && (nat_eq_equiv.refl a.2 i && (nat_list_eq_equiv.refl a.3 i && nat_list_eq_equiv.refl a.4 i)))

state_same : (a : ReleaseState) → same_state a a ≡ true
state_same (Released a) = (hash_decides a a).1 refl
state_same (Yanked by time) = λ i. nat_list_eq_equiv.refl by i && (time_decides time time).1 refl i

state_exact : (a b : ReleaseState) → same_state a b ≡ true → a ≡ b
state_exact (Released a) (Released b) h = ap Released ((hash_decides a b).0 h)
state_exact (Released a) (Yanked by time) h = absurd (true≢false (sym h))
state_exact (Yanked by time) (Released a) h = absurd (true≢false (sym h))
state_exact (Yanked a s) (Yanked b t) h = let by = (bytes_eq-Decides a b).0 (first_so _ _ h) in let time = (time_decides s t).0 (second_so _ _ h) in λ i. Yanked (by i) (time i)

-- the test calls two states of releases the same exactly if they are one
pub state_decides : (a b : ReleaseState) → Decides (same_state a b) (a ≡ b)
state_decides a b = (state_exact a b, λ h. ap (same_state a) (sym h) ∙ state_same a)

-- that two states of releases are the same is an equivalence
pub state_equiv : IsEquivalence same_state
state_equiv = exact_equiv state_decides

release_exact : (a b : ReleaseView) → same_release a b ≡ true → a ≡ b
release_exact a b h =
    let t1 = second_so (same_id a.record_id b.record_id) _ h in
    let t2 = second_so (same_parts a.version b.version) _ t1 in
    let t3 = second_so (bytes_eq a.by b.by) _ t2 in
    let id = (id_decides a.record_id b.record_id).0 (first_so (same_id a.record_id b.record_id) _ h) in
    let version = exact_parts a.version b.version (first_so (same_parts a.version b.version) _ t1) in
    let by = (bytes_eq-Decides a.by b.by).0 (first_so (bytes_eq a.by b.by) _ t2) in
    let time = (time_decides a.timestamp b.timestamp).0 (first_so (same_time a.timestamp b.timestamp) _ t3) in
    let state = state_exact a.state b.state (second_so (same_time a.timestamp b.timestamp) _ t3) in
    λ i. record { record_id = id i; version = version i; by = by i; timestamp = time i; state = state i }

release_same : (a : ReleaseView) → same_release a a ≡ true
release_same a = λ i. (id_decides a.record_id a.record_id).1 refl i && (same_parts-self a.version i && (nat_list_eq_equiv.refl a.by i && ((time_decides a.timestamp a.timestamp).1 refl i && state_same a.state i)))

-- the test calls two releases the same exactly if they are one
pub release_decides : (a b : ReleaseView) → Decides (same_release a b) (a ≡ b)
release_decides a b = (release_exact a b, λ h. ap (same_release a) (sym h) ∙ release_same a)

-- that two releases show the same is an equivalence
pub shown_equiv : IsEquivalence (λ (a b : Release). same_release (release_view a) (release_view b))
shown_equiv = on_equiv release_view (exact_equiv release_decides)

options_exact : {A : Type 0} (E : A → A → Bool) → ((a b : A) → E a b ≡ true → a ≡ b) → (p q : Option A)
    → option_eq E p q ≡ true → p ≡ q
options_exact E d None None h = refl
options_exact E d None (Some y) h = absurd (true≢false (sym h))
options_exact E d (Some x) None h = absurd (true≢false (sym h))
options_exact E d (Some x) (Some y) h = ap Some (d x y h)

options_same : {A : Type 0} (E : A → A → Bool) → ((a : A) → E a a ≡ true) → (p : Option A) → option_eq E p p ≡ true
options_same E d None = refl
options_same E d (Some x) = d x

all_pass : {A : Type 0} (t : A → Bool) → ((a : A) → t a ≡ true) → (xs : List A) → list_all t xs ≡ true
all_pass t f [] = refl
all_pass t f (x ∷ xs) = ap (λ b. b && list_all t xs) (f x) ∙ all_pass t f xs

-- the list has no release of the version, or the version passes each test that all of its versions pass
none-or-passes : (t : VersionParts → Bool) (rs : List ReleaseView) (v : VersionParts)
    → list_all t (versions rs) ≡ true
    → (find_parts rs v ≡ None) ⊎ (t v ≡ true)
none-or-passes t [] v h = inl refl
none-or-passes t (r ∷ rs) v h = by (same_parts v r.version) refl (none-or-passes t rs v (second_so (t r.version) _ h))
  where
    by : (b : Bool) → same_parts v r.version ≡ b → (find_parts rs v ≡ None) ⊎ (t v ≡ true)
        → (cond (same_parts v r.version) (Some r) (find_parts rs v) ≡ None) ⊎ (t v ≡ true)
    by true e rest = inr (ap t (exact_parts v r.version e) ∙ first_so (t r.version) _ h)
    by false e (inl none) = inl (ap (λ b. cond b (Some r) (find_parts rs v)) e ∙ none)
    by false e (inr passes) = inr passes

releases-equivalent : (rs qs : List ReleaseView) → same_releases rs qs ≡ true → AreEquivalentReleases rs qs
releases-equivalent rs qs h v = by (none-or-passes (same_at rs qs) rs v (first_so _ _ h)) (none-or-passes (same_at rs qs) qs v (second_so (list_all (same_at rs qs) (versions rs)) _ h))
  where
    by : (find_parts rs v ≡ None) ⊎ (same_at rs qs v ≡ true) → (find_parts qs v ≡ None) ⊎ (same_at rs qs v ≡ true)
        → find_parts rs v ≡ find_parts qs v
    by (inr passes) other = options_exact same_release release_exact (find_parts rs v) (find_parts qs v) passes
    by (inl none) (inl also) = none ∙ sym also
    by (inl none) (inr passes) = options_exact same_release release_exact (find_parts rs v) (find_parts qs v) passes

equivalent-releases : (rs qs : List ReleaseView) → AreEquivalentReleases rs qs → same_releases rs qs ≡ true
equivalent-releases rs qs equivalent =
    let at : (v : VersionParts) → same_at rs qs v ≡ true = λ v. ap (option_eq same_release (find_parts rs v)) (sym (equivalent v)) ∙ options_same same_release release_same (find_parts rs v) in
    λ i. all_pass (same_at rs qs) at (versions rs) i && all_pass (same_at rs qs) at (versions qs) i

-- equal lists of releases are equivalent ones
pub releases_decide : (rs qs : List ReleaseView) → Decides (same_releases rs qs) (AreEquivalentReleases rs qs)
releases_decide rs qs = (releases-equivalent rs qs, equivalent-releases rs qs)

-- that two lists of releases are the same is an equivalence
pub releases_equiv : IsEquivalence same_releases
releases_equiv = record {
  refl = λ rs. equivalent-releases rs rs (λ v. refl);
  symm = λ rs qs. one_answer (same_releases rs qs) (same_releases qs rs) (releases_decide rs qs) (λ h v. sym (releases-equivalent qs rs h v), λ h. equivalent-releases qs rs (λ v. sym (h v)));
  congr = λ rs qs ts e. one_answer (same_releases rs ts) (same_releases qs ts) (releases_decide rs ts) (λ h v. releases-equivalent rs qs e v ∙ releases-equivalent qs ts h v, λ h. equivalent-releases qs ts (λ v. sym (releases-equivalent rs qs e v) ∙ h v));
}
