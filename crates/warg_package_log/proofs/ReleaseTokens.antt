-- A release written member by member, in the order of the names.
use Rattle.std.specs.Prelude.{◌≡◌, ℕ, List, codes, Ok, refl}
use Rattle.semver.specs.Identifiers.{parts_text}
use Rattle.serde_json.specs.Data.{Data, no_members, member, object, string}
use Rattle.warg_crypto.specs.HashText.{hash_text}
use Rattle.warg_crypto.specs.Time.TimeText.{time_text}
use Rattle.warg_crypto.specs.Time.Times.{Time}
use Rattle.warg_package_log.specs.ReleaseJson.{release_json, release_state_json}
use Rattle.warg_package_log.specs.Releases.{ReleaseView}
use Rattle.warg_package_log.specs.declared.release.ReleaseState.TheVariants.{Yanked}

-- the JSON of a yanked state
abbrev pub yanked_object : List ℕ → List ℕ → Data
yanked_object by time = object
    (member (codes "by") (string by)
    (member (codes "status") (string (codes "yanked"))
    (member (codes "timestamp") (string time) no_members)))

pub yanked_whole : (by : List ℕ) (t : Time) (text : List ℕ) → time_text t ≡ Ok text
    → release_state_json (Yanked by t) ≡ Ok (yanked_object by text)
yanked_whole by t text time = rw time refl

-- the JSON of a release, of the texts of its members and of its state's JSON
abbrev pub release_object : List ℕ → List ℕ → Data → List ℕ → List ℕ → Data
release_object by record_id state time version = object
    (member (codes "by") (string by)
    (member (codes "recordId") (string record_id)
    (member (codes "state") state
    (member (codes "timestamp") (string time)
    (member (codes "version") (string version) no_members)))))

pub release_whole : (r : ReleaseView) (text : List ℕ) (state : Data) → time_text r.timestamp ≡ Ok text
    → release_state_json r.state ≡ Ok state → release_json r ≡ Ok (release_object r.by (hash_text r.record_id.hash) state text (parts_text r.version))
release_whole r text state time is = rw (time, is) refl
