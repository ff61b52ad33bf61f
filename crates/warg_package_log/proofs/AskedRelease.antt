-- What is asked of a saved release is enough for it.
use Rattle.std.specs.Prelude.{ℕ, ◌≡◌, List, [], ◌∷◌, codes, if◌then◌else◌, Err, refl}
use Rattle.std.specs.Str.{bytes_eq}
use Rattle.std.proofs.Common.{ap₂}
use Rattle.serde_json.specs.Data.{Data}
use Rattle.warg_crypto.specs.Json.Json.{text_in}
use Rattle.warg_crypto.specs.Json.JsonTexts.{hash_in, key_id_in}
use Rattle.warg_crypto.specs.Time.TimeJson.{time_in}
use Rattle.warg_crypto.specs.declared.json.error.JsonError.TheVariants as fault
use Rattle.warg_log_records.specs.RecordIdJson.{record_id_in}
use Rattle.warg_saved_states.specs.Asked.{IsAskedOf}
use Rattle.warg_saved_states.specs.Next.{AsksFor}
use Rattle.warg_saved_states.proofs.AskedLaws.{read_member_asked}
use Rattle.warg_package_log.specs.ReleaseJson.{release_in, release_state_in, released_in, state_of, version_in, yanked_in}

-- the names that are asked for
abbrev pub release_names : List (List ℕ)
release_names =
    codes "recordId" ∷ codes "version" ∷ codes "by" ∷ codes "timestamp" ∷ codes "state" ∷ codes "status" ∷ codes "content" ∷ []

module _ (n : ℕ) where
  id_asked : AsksFor release_names n record_id_in
  id_asked d v like = rw like.text refl

  version_asked : AsksFor release_names n version_in
  version_asked d v like = rw like.text refl

  key_id_asked : AsksFor release_names n key_id_in
  key_id_asked d v like = rw like.text refl

  time_asked : AsksFor release_names n time_in
  time_asked d v like = rw like.text refl

  hash_asked : AsksFor release_names n hash_in
  hash_asked d v like = rw like.text refl

  status_asked : AsksFor release_names n text_in
  status_asked d v like = rw like.text refl

released_asked : AsksFor release_names 1 released_in
released_asked d v like = read_member_asked release_names 0 (codes "content") d v hash_in _ _ refl (hash_asked 0) like (λ content. refl)

yanked_asked : AsksFor release_names 1 yanked_in
yanked_asked d v like =
    read_member_asked release_names 0 (codes "by") d v key_id_in _ _ refl (key_id_asked 0) like (λ by.
    read_member_asked release_names 0 (codes "timestamp") d v time_in _ _ refl (time_asked 0) like (λ timestamp. refl))

state_asked : AsksFor release_names 1 release_state_in
state_asked d v like =
    read_member_asked release_names 0 (codes "status") d v text_in (λ status. state_of status v) (λ status. state_of status d) refl (status_asked 0) like (λ status.
    ap₂ (λ p q. if bytes_eq status (codes "released") then p else if bytes_eq status (codes "yanked") then q else Err fault.BadText) (released_asked d v like) (yanked_asked d v like))

-- a release asks for the members of these names, and of its state
pub release_asked : AsksFor release_names 2 release_in
release_asked d v like =
    read_member_asked release_names 1 (codes "recordId") d v record_id_in _ _ refl (id_asked 1) like (λ record_id.
    read_member_asked release_names 1 (codes "version") d v version_in _ _ refl (version_asked 1) like (λ version.
    read_member_asked release_names 1 (codes "by") d v key_id_in _ _ refl (key_id_asked 1) like (λ by.
    read_member_asked release_names 1 (codes "timestamp") d v time_in _ _ refl (time_asked 1) like (λ timestamp.
    read_member_asked release_names 1 (codes "state") d v release_state_in _ _ refl state_asked like (λ state. refl)))))
