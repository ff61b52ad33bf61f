-- The version of a release stands in what is written of it, and reads back where it was read.
use Rattle.std.specs.Prelude.{◌≡◌, ℕ, List, [], ◌∷◌, codes, Some, Result, Ok, Err, refl}
use Rattle.std.proofs.Common.{◌∙◌, ap, subst}
use Rattle.semver.proofs.Grammar.{version_parts-sound}
use Rattle.semver.specs.Identifiers.{parts_text}
use Rattle.semver.specs.Parse.{version_parts}
use Rattle.semver.specs.declared.error.Error.{Error}
use Rattle.serde_json.specs.Data.{Data, Members, no_members, object, put, string}
use Rattle.serde_json.specs.Find.{get_member}
use Rattle.warg_crypto.specs.Json.Json.{◌>>=◌, AreReadBack, Version, member_in, or_bad_text, text_in, json_result}
use Rattle.warg_crypto.specs.HashText.{hash_text}
use Rattle.warg_crypto.specs.Json.JsonTexts.{key_id_in}
use Rattle.warg_crypto.specs.Time.TimeJson.{time_in, time_json}
use Rattle.warg_crypto.specs.Json.Members.{put_json}
use Rattle.warg_crypto.specs.Json.JsonLaws.{bind_ok, ok_same}
use Rattle.warg_crypto.specs.Json.Within.{AreWithin}
use Rattle.warg_crypto.specs.Json.WithinLaws.{member_within}
use Rattle.warg_log_records.specs.RecordIdJson.{record_id_in}
use Rattle.warg_package_log.specs.ReleaseJson.{release_in, release_json, release_state_in, release_state_json, version_in}
use Rattle.warg_package_log.specs.Releases.{ReleaseView}

-- the version stands in the release
pub release_within : (r : ReleaseView) (d : Data) → release_json r ≡ Ok d → AreWithin (r.version ∷ []) d
release_within r d is =
    let hash = string (hash_text r.record_id.hash) in
    let version = string (parts_text r.version) in
    let before : Members = put (codes "by") (string r.by) (put (codes "version") version (put (codes "recordId") hash no_members)) in
    let w = bind_ok (put_json time_json (codes "timestamp") r.timestamp before)
    (λ timed. put_json release_state_json (codes "state") r.state timed >>= λ ms. json_result (object ms)) d is in
    let t = bind_ok (time_json r.timestamp) (λ e. json_result (put (codes "timestamp") e before)) w.0 w.1 in
    let v = bind_ok (put_json release_state_json (codes "state") r.state w.0) (λ ms. json_result (object ms)) d w.2 in
    let s = bind_ok (release_state_json r.state) (λ e. json_result (put (codes "state") e w.0)) v.0 v.1 in
    let with_time : put (codes "timestamp") t.0 before ≡ w.0 = ok_same (put (codes "timestamp") t.0 before) w.0 t.2 in
    let all : Members = put (codes "state") s.0 (put (codes "timestamp") t.0 before) in
    let whole : object all ≡ d =
    ap (λ ms. object (put (codes "state") s.0 ms)) with_time ∙ ap object (ok_same (put (codes "state") s.0 w.0) v.0 s.2) ∙ ok_same (object v.0) d v.2 in
    let found : get_member (codes "version") all ≡ Some version = refl in
    subst (λ (x : Data). AreWithin (r.version ∷ []) x) whole
    (member_within (r.version ∷ []) (codes "version") version all found (refl, tt))

-- a version that was read reads back
text_back : (r : Result Version Error) (text : List ℕ) (v : Version) → version_parts text ≡ r → or_bad_text r ≡ Ok v
    → version_parts (parts_text v) ≡ Ok v
text_back (Ok p) text v is h =
    let read : version_parts text ≡ Ok v = is ∙ ap Ok (ok_same p v h) in
    ap version_parts (version_parts-sound text v read).0 ∙ read
text_back (Err e) text v is h = cc h

version_back : (d : Data) (v : Version) → version_in d ≡ Ok v → version_parts (parts_text v) ≡ Ok v
version_back d v is =
    let w = bind_ok (text_in d) _ v is in
    text_back (version_parts w.0) w.0 v refl w.2

-- the version of a release that was read reads back
pub release_versions : (r : ReleaseView) (d : Data) → release_in d ≡ Ok r → AreReadBack (r.version ∷ [])
release_versions r d is =
    let w1 = bind_ok (member_in (codes "recordId") d) _ r is in
    let w2 = bind_ok (record_id_in w1.0) _ r w1.2 in
    let w3 = bind_ok (member_in (codes "version") d) _ r w2.2 in
    let w4 = bind_ok (version_in w3.0) _ r w3.2 in
    let w5 = bind_ok (member_in (codes "by") d) _ r w4.2 in
    let w6 = bind_ok (key_id_in w5.0) _ r w5.2 in
    let w7 = bind_ok (member_in (codes "timestamp") d) _ r w6.2 in
    let w8 = bind_ok (time_in w7.0) _ r w7.2 in
    let w9 = bind_ok (member_in (codes "state") d) _ r w8.2 in
    let w10 = bind_ok (release_state_in w9.0) _ r w9.2 in
    let same : w4.0 ≡ r.version = ap (λ (x : ReleaseView). x.version) (ok_same _ r w10.2) in
    (subst (λ (v : Version). version_parts (parts_text v) ≡ Ok v) same (version_back w3.0 w4.0 w4.1), tt)
