-- What was written of a head reads back.
use Rattle.std.specs.Prelude.{◌≡◌, ◌^◌, ℕ, codes, OnOk, Option, Some, None, Result, Ok, Err, refl}
use Rattle.std.proofs.Common.{ap, subst}
use Rattle.serde_json.specs.Data.{Data, Members, no_members, object, put}
use Rattle.warg_crypto.specs.Json.Json.{ReadsBack, json_result}
use Rattle.warg_crypto.specs.Time.TimeJson.{time_in}
use Rattle.warg_crypto.specs.Json.MemberLaws.{read_again}
use Rattle.warg_crypto.specs.Json.Members.{put_some}
use Rattle.warg_crypto.specs.Json.Numbers.{number_below}
use Rattle.warg_crypto.specs.Json.JsonLaws.{ok_same}
use Rattle.warg_crypto.specs.declared.json.error.JsonError.{JsonError}
use Rattle.warg_log_records.specs.RecordIdJson.{record_id_in}
use Rattle.warg_log.specs.HeadJson.{head_in, version_or_zero}
use Rattle.warg_log.specs.declared.head.Head.{Head}

head_read : (h : Head) (a b : Data) (v : Option Data) → record_id_in a ≡ Ok h.digest → time_in b ≡ Ok h.timestamp → version_or_zero v ≡ Ok h.version
    → head_in (object (put_some (codes "version") v (put (codes "timestamp") b (put (codes "digest") a no_members)))) ≡ Ok h
head_read h a b None f g k = rw (f, g) (ap (λ (v : ℕ). json_result (record { digest = h.digest; timestamp = h.timestamp; version = v })) (ok_same 0 h.version k))
head_read h a b (Some d) f g k = rw (f, g, k) refl

-- of the members as they were put
pub head_back : (h : Head) (a b : Data) (v : Option Data) (d : Data) → record_id_in a ≡ Ok h.digest → time_in b ≡ Ok h.timestamp → version_or_zero v ≡ Ok h.version
    → object (put_some (codes "version") v (put (codes "timestamp") b (put (codes "digest") a no_members))) ≡ d
    → ReadsBack head_in (λ g h. g ≡ h) h d
head_back h a b v d f g k is = record { again = h; is = subst (λ (e : Data). head_in e ≡ Ok h) is (head_read h a b v f g k); equal = refl }

-- a version that was put
pub version_back : {A : Type 0} (r : Result A JsonError) (version : ℕ) (old new : Members)
    → OnOk r ((d : Data) × ReadsBack (number_below (2 ^ 32)) (λ m n. m ≡ n) version d × (new ≡ put (codes "version") d old))
    → OnOk r ((d : Option Data) × (version_or_zero d ≡ Ok version) × (new ≡ put_some (codes "version") d old))
version_back (Ok x) version old new h = (Some h.0, read_again (number_below (2 ^ 32)) version h.0 h.1, h.2)
version_back (Err e) version old new h = tt
