-- The JSON of a release is canonical.
use Rattle.std.specs.Prelude.{ℕ, List, codes}
use Rattle.semver.specs.Identifiers.{parts_text}
use Rattle.serde_json.specs.Data.{Members, no_members, object, put, string}
use Rattle.warg_crypto.specs.HashText.{hash_text}
use Rattle.warg_crypto.specs.Json.Json.{◌>>=◌, json_result}
use Rattle.warg_crypto.specs.Time.TimeJson.{time_json}
use Rattle.warg_crypto.specs.Json.Members.{put_json}
use Rattle.warg_crypto.specs.Time.TimeText.{time_text}
use Rattle.warg_saved_states.specs.Canonical.{IsCanonical, WritesCanonical, value_depth}
use Rattle.warg_saved_states.specs.CanonicalLaws.{member_canonical, none_canonical, put_canonical, text_canonical, then_canonical}
use Rattle.warg_package_log.specs.ReleaseJson.{release_json, release_state_json, status_member}
use Rattle.warg_package_log.specs.Releases.{ReleaseView}
use Rattle.warg_package_log.specs.declared.release.ReleaseState.{ReleaseState}
use Rattle.warg_package_log.specs.declared.release.ReleaseState.TheVariants.{Released, Yanked}

status_canonical : (status : List ℕ) → IsCanonical 124 (object (status_member status))
status_canonical status = put_canonical 123 (codes "status") (string status) no_members tt (none_canonical 123)

state_canonical : (s : ReleaseState) → WritesCanonical 124 (release_state_json s)
state_canonical (Released content) =
    put_canonical 123 (codes "content") (string (hash_text content)) (status_member (codes "released")) tt (status_canonical (codes "released"))
state_canonical (Yanked by timestamp) =
    let before : Members = put (codes "by") (string by) (status_member (codes "yanked")) in
    then_canonical 124 (put_json time_json (codes "timestamp") timestamp before) (λ ms. json_result (object ms))
    (member_canonical 123 time_json (codes "timestamp") timestamp before (text_canonical 123 (time_text timestamp))
    (put_canonical 123 (codes "by") (string by) (status_member (codes "yanked")) tt (status_canonical (codes "yanked")))) (λ ms m. m)

pub release_canonical : (r : ReleaseView) → WritesCanonical value_depth (release_json r)
release_canonical r =
    let record_id : Members = put (codes "recordId") (string (hash_text r.record_id.hash)) no_members in
    let version : Members = put (codes "version") (string (parts_text r.version)) record_id in
    let before : Members = put (codes "by") (string r.by) version in
    let first : IsCanonical 125 (object before) = put_canonical 124 (codes "by") (string r.by) version tt
    (put_canonical 124 (codes "version") (string (parts_text r.version)) record_id tt
    (put_canonical 124 (codes "recordId") (string (hash_text r.record_id.hash)) no_members tt (none_canonical 124))) in
    then_canonical 125 (put_json time_json (codes "timestamp") r.timestamp before)
    (λ timed. put_json release_state_json (codes "state") r.state timed >>= λ ms. json_result (object ms))
    (member_canonical 124 time_json (codes "timestamp") r.timestamp before (text_canonical 124 (time_text r.timestamp)) first)
    (λ timed is. then_canonical 125 (put_json release_state_json (codes "state") r.state timed) (λ ms. json_result (object ms))
    (member_canonical 124 release_state_json (codes "state") r.state timed (state_canonical r.state) is) (λ ms m. m))
