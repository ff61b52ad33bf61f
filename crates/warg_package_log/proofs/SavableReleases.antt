-- Releases of which there is JSON, and which read back.
use Rattle.std.specs.Prelude.{◌≡◌, ◌<◌, ◌^◌, ℕ, ℤ, pos, negsuc, List, [], ◌∷◌, false, codes, Ok, refl}
use Rattle.std.proofs.Common.{true≢false, subst, ap, ◌∙◌}
use Rattle.std.specs.Int.{is_negative}
use Rattle.semver.specs.Identifiers.{parts_text}
use Rattle.serde_json.specs.Data.{Data, Members, no_members, object, put, string}
use Rattle.warg_crypto.specs.Json.Json.{◌>>=◌, AreReadBack, IsReadBack, or_bad_text, json_result}
use Rattle.warg_crypto.specs.Json.JsonTexts.{hash_in, hash_json}
use Rattle.warg_crypto.specs.Time.TimeJson.{time_in, time_json}
use Rattle.warg_crypto.specs.Json.MemberLaws.{read_again}
use Rattle.warg_crypto.specs.Json.Members.{put_json}
use Rattle.warg_crypto.specs.HashText.{hash_text}
use Rattle.warg_crypto.specs.Json.JsonLaws.{bind_ok, ok_same}
use Rattle.warg_crypto.specs.Time.TimeText.{time_text}
use Rattle.warg_crypto.specs.Time.TimeTextLaws.{time_of-seconds_text}
use Rattle.warg_crypto.specs.Time.Times.{Time}
use Rattle.warg_package_log.specs.ReleaseJson.{release_in, release_json, release_state_in, release_state_json, status_member}
use Rattle.warg_package_log.specs.Releases.{ReleaseView}
use Rattle.warg_package_log.specs.declared.release.ReleaseState.TheVariants.{Released, Yanked}
use Rattle.warg_package_log.proofs.ReleaseJsonLaws.{release_back, released_back, yanked_back}

-- a time that is not before the epoch has a text
text_from : (s : ℤ) (n : ℕ) → is_negative s ≡ false → (text : List ℕ) × (time_text (record { seconds = s; nanos = n }) ≡ Ok text)
text_from (pos s) n h = (_, refl)
text_from (negsuc s) n h = absurd (true≢false h)

pub text_of_time : (t : Time) → is_negative t.seconds ≡ false → (text : List ℕ) × (time_text t ≡ Ok text)
text_of_time t h = text_from t.seconds t.nanos h

-- a time's text reads back
pub time_back : (t : Time) → t.nanos < 1_000_000_000 → ((n : ℕ) → t.seconds ≡ pos n → n < 2 ^ 63)
    → IsReadBack time_json time_in (λ a b. a ≡ b) t
time_back t small fits d is =
    let w = bind_ok (time_text t) (λ text. json_result (string text)) d is in
    record {
      again = t;
      is = subst (λ (e : Data). time_in e ≡ Ok t) (ok_same (string w.0) d w.2) (time_of-seconds_text t.seconds t.nanos w.0 small fits w.1);
      equal = refl;
    }

-- the state of a release reads back where its hash or its time does
pub released_reads_back : (content : _) → IsReadBack hash_json hash_in (λ a b. a ≡ b) content
    → IsReadBack release_state_json release_state_in (λ a b. a ≡ b) (Released content)
released_reads_back content own d is =
    let text = string (hash_text content) in
    record {
      again = Released content;
      is = released_back content text d (read_again hash_in content text (own text refl)) (ok_same _ d is);
      equal = refl;
    }

pub yanked_reads_back : (by : List ℕ) (t : Time) → IsReadBack time_json time_in (λ a b. a ≡ b) t
    → IsReadBack release_state_json release_state_in (λ a b. a ≡ b) (Yanked by t)
yanked_reads_back by t own d is =
    let before : Members = put (codes "by") (string by) (status_member (codes "yanked")) in
    let w = bind_ok (put_json time_json (codes "timestamp") t before) (λ ms. json_result (object ms)) d is in
    let v = bind_ok (time_json t) (λ e. json_result (put (codes "timestamp") e before)) w.0 w.1 in
    let whole : object (put (codes "timestamp") v.0 before) ≡ d = ap object (ok_same (put (codes "timestamp") v.0 before) w.0 v.2) ∙ ok_same (object w.0) d w.2 in
    record {
      again = Yanked by t;
      is = yanked_back by t (string by) v.0 d refl (read_again time_in t v.0 (own v.0 v.1)) whole;
      equal = refl;
    }

-- a release reads back where its parts do
pub release_reads_back : (r : ReleaseView) → IsReadBack hash_json hash_in (λ a b. a ≡ b) r.record_id.hash
    → IsReadBack time_json time_in (λ a b. a ≡ b) r.timestamp
    → IsReadBack release_state_json release_state_in (λ a b. a ≡ b) r.state
    → AreReadBack (r.version ∷ []) → IsReadBack release_json release_in (λ a b. a ≡ b) r
release_reads_back r id timed stated versions d is =
    let hash = string (hash_text r.record_id.hash) in
    let version = string (parts_text r.version) in
    let before : Members = put (codes "by") (string r.by) (put (codes "version") version (put (codes "recordId") hash no_members)) in
    let w = bind_ok (put_json time_json (codes "timestamp") r.timestamp before)
    (λ timed. put_json release_state_json (codes "state") r.state timed >>= λ ms. json_result (object ms)) d is in
    let t = bind_ok (time_json r.timestamp) (λ e. json_result (put (codes "timestamp") e before)) w.0 w.1 in
    let v = bind_ok (put_json release_state_json (codes "state") r.state w.0) (λ ms. json_result (object ms)) d w.2 in
    let s = bind_ok (release_state_json r.state) (λ e. json_result (put (codes "state") e w.0)) v.0 v.1 in
    let with_time : put (codes "timestamp") t.0 before ≡ w.0 = ok_same (put (codes "timestamp") t.0 before) w.0 t.2 in
    let whole : object (put (codes "state") s.0 (put (codes "timestamp") t.0 before)) ≡ d =
    ap (λ ms. object (put (codes "state") s.0 ms)) with_time ∙ ap object (ok_same (put (codes "state") s.0 w.0) v.0 s.2) ∙ ok_same (object v.0) d v.2 in
    release_back r hash version (string r.by) t.0 s.0 d
    (ap (λ q. q >>= λ h. json_result (record { hash = h })) (read_again hash_in r.record_id.hash hash (id hash refl)))
    (ap or_bad_text versions.0)
    refl
    (read_again time_in r.timestamp t.0 (timed t.0 t.1))
    (read_again release_state_in r.state s.0 (stated s.0 s.1))
    whole
