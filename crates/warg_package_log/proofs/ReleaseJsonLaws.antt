-- What was written of releases reads back.
use Rattle.std.specs.Prelude.{◌≡◌, ℕ, List, codes, Ok, refl}
use Rattle.std.proofs.Common.{subst}
use Rattle.serde_json.specs.Data.{Data, no_members, object, put}
use Rattle.warg_crypto.specs.declared.hash.AnyHash.{AnyHash}
use Rattle.warg_crypto.specs.Json.Json.{ReadsBack}
use Rattle.warg_crypto.specs.Json.JsonTexts.{hash_in, key_id_in}
use Rattle.warg_crypto.specs.Time.TimeJson.{time_in}
use Rattle.warg_crypto.specs.Time.Times.{Time}
use Rattle.warg_log_records.specs.RecordIdJson.{record_id_in}
use Rattle.warg_package_log.specs.ReleaseJson.{release_in, release_state_in, status_member, version_in}
use Rattle.warg_package_log.specs.Releases.{ReleaseView}
use Rattle.warg_package_log.specs.declared.release.ReleaseState.TheVariants.{Released, Yanked}

released_read : (content : AnyHash) (a : Data) → hash_in a ≡ Ok content
    → release_state_in (object (put (codes "content") a (status_member (codes "released")))) ≡ Ok (Released content)
released_read content a f = rw f refl

-- of the members as they were put
pub released_back : (content : AnyHash) (a d : Data) → hash_in a ≡ Ok content → object (put (codes "content") a (status_member (codes "released"))) ≡ d
    → release_state_in d ≡ Ok (Released content)
released_back content a d f is = subst (λ (e : Data). release_state_in e ≡ Ok (Released content)) is (released_read content a f)

yanked_read : (by : List ℕ) (time : Time) (a b : Data) → key_id_in a ≡ Ok by → time_in b ≡ Ok time
    → release_state_in (object (put (codes "timestamp") b (put (codes "by") a (status_member (codes "yanked"))))) ≡ Ok (Yanked by time)
yanked_read by time a b f g = rw (f, g) refl

pub yanked_back : (by : List ℕ) (time : Time) (a b d : Data) → key_id_in a ≡ Ok by → time_in b ≡ Ok time
    → object (put (codes "timestamp") b (put (codes "by") a (status_member (codes "yanked")))) ≡ d
    → release_state_in d ≡ Ok (Yanked by time)
yanked_back by time a b d f g is = subst (λ (e : Data). release_state_in e ≡ Ok (Yanked by time)) is (yanked_read by time a b f g)

release_read : (r : ReleaseView) (a b c t s : Data) → record_id_in a ≡ Ok r.record_id → version_in b ≡ Ok r.version → key_id_in c ≡ Ok r.by → time_in t ≡ Ok r.timestamp
    → release_state_in s ≡ Ok r.state
    → release_in (object (put (codes "state") s (put (codes "timestamp") t (put (codes "by") c (put (codes "version") b (put (codes "recordId") a no_members)))))) ≡ Ok r
release_read r a b c t s f g h k l = rw (f, g, h, k, l) refl

pub release_back : (r : ReleaseView) (a b c t s d : Data) → record_id_in a ≡ Ok r.record_id → version_in b ≡ Ok r.version → key_id_in c ≡ Ok r.by → time_in t ≡ Ok r.timestamp
    → release_state_in s ≡ Ok r.state
    → object (put (codes "state") s (put (codes "timestamp") t (put (codes "by") c (put (codes "version") b (put (codes "recordId") a no_members))))) ≡ d
    → ReadsBack release_in (λ x y. x ≡ y) r d
release_back r a b c t s d f g h k l is =
    record { again = r; is = subst (λ (e : Data). release_in e ≡ Ok r) is (release_read r a b c t s f g h k l); equal = refl }
