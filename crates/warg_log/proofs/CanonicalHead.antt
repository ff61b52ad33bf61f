-- The JSON of a head is canonical.
use Rattle.std.specs.Prelude.{◌≡◌, ◌<◌, ◌^◌, ◌==◌, ℕ, Bool, true, false, if◌then◌else◌, codes, Some, None}
use Rattle.std.proofs.Common.{subst}
use Rattle.serde_json.specs.Data.{Members, no_members, object, put, string}
use Rattle.warg_crypto.specs.HashText.{hash_text}
use Rattle.warg_crypto.specs.Json.Json.{◌>>=◌, json_result}
use Rattle.warg_crypto.specs.Time.TimeJson.{time_json}
use Rattle.warg_crypto.specs.Json.Members.{put_json, put_option}
use Rattle.warg_crypto.specs.Json.Numbers.{number_json}
use Rattle.warg_crypto.specs.Time.TimeText.{time_text}
use Rattle.warg_saved_states.specs.Canonical.{IsCanonical, WritesCanonical}
use Rattle.warg_saved_states.specs.CanonicalLaws.{member_canonical, none_canonical, option_canonical, put_canonical, text_canonical, then_canonical}
use Rattle.warg_log.specs.HeadJson.{head_json, unless_zero}
use Rattle.warg_log.specs.declared.head.Head.{Head}

some_same : (x y : ℕ) → Some x ≡ Some y → x ≡ y
some_same x y e = cc

written_below : (n x : ℕ) → n < 2 ^ 64 → unless_zero n ≡ Some x → x < 2 ^ 64
written_below n x small at = by (n == 0) at
  where
    by : (b : Bool) → (if b then None else Some n) ≡ Some x → x < 2 ^ 64
    by true at = cc at
    by false at = subst (λ (y : ℕ). y < 2 ^ 64) (some_same n x at) small

pub head_canonical : (h : Head) → h.version < 2 ^ 64 → WritesCanonical 126 (head_json h)
head_canonical h small =
    let text = hash_text h.digest.hash in
    let digest : Members = put (codes "digest") (string text) no_members in
    let first : IsCanonical 126 (object digest) = put_canonical 125 (codes "digest") (string text) no_members tt (none_canonical 125) in
    then_canonical 126 (put_json time_json (codes "timestamp") h.timestamp digest)
    (λ timed. put_option number_json (codes "version") (unless_zero h.version) timed >>= λ ms. json_result (object ms))
    (member_canonical 125 time_json (codes "timestamp") h.timestamp digest (text_canonical 125 (time_text h.timestamp)) first)
    (λ timed is. then_canonical 126 (put_option number_json (codes "version") (unless_zero h.version) timed) (λ ms. json_result (object ms))
    (option_canonical 125 number_json (codes "version") (unless_zero h.version) timed (λ n at. written_below h.version n small at) is) (λ ms m. m))
