-- No reading gives the fault that memory ran out.
use Rattle.std.proofs.Common.{◌≡◌, ℕ, List, [], ◌∷◌, Bool, true, false, cond, Option, Some, None, Result, Ok, Err, refl}
use Rattle.std.specs.Prelude.{ℤ, IfErr, length, ◌==◌}
use Rattle.std.specs.List.{before_first, after_first, position_or_len}
use Rattle.base64.specs.declared.decode.DecodeError.{DecodeError}
use Rattle.base64.specs.Engines.{standard}
use Rattle.base64.specs.GeneralPurpose.{decode_of}
use Rattle.warg_crypto.specs.HashText.{is_colon, hash_of, algorithm_of}
use Rattle.warg_crypto.specs.Keys.{with_fault, key_fault, signature_fault}
use Rattle.warg_crypto.specs.NamedBytes.{NamedBytes, named_bytes_of, named_bytes_or_bad}
use Rattle.warg_crypto.specs.declared.signing.algorithm_bytes.NamedBytesError.{NamedBytesError}
use Rattle.warg_crypto.specs.declared.signing.algorithm_bytes.NamedBytesError.TheVariants as tag
use Rattle.warg_crypto.specs.Time.Times.{time_from}
use Rattle.warg_protobuf.specs.Envelope.{EnvelopeValue, envelope_table}
use Rattle.warg_protobuf.specs.Envelope as message
use Rattle.warg_protobuf.specs.Meaning.{Computes}
use Rattle.semver.specs.Parse.{version_parts}
use Rattle.warg_protobuf.specs.GrantFlat.{GrantFlatValue}
use Rattle.warg_protobuf.specs.Init.{InitValue}
use Rattle.warg_protobuf.specs.Release.{ReleaseValue}
use Rattle.warg_protobuf.specs.RevokeFlat.{RevokeFlatValue}
use Rattle.warg_protobuf.specs.Yank.{YankValue}
use Rattle.warg_protobuf.specs.OperatorRecord.{IsOperatorRecord, operator_record_table}
use Rattle.warg_protobuf.specs.OperatorRecord as operator_message
use Rattle.warg_protobuf.specs.PackageRecord.{IsPackageRecord, package_record_table}
use Rattle.warg_protobuf.specs.PackageRecord as package_message
use Rattle.warg_protobuf.specs.Entry.{Member}
use Rattle.warg_protobuf.specs.Entry as member
use Rattle.warg_protobuf.specs.OperatorEntry.{OperatorMember}
use Rattle.warg_protobuf.specs.PackageEntry.{PackageMember}
use Rattle.warg_protobuf.specs.Record.{RecordValue}
use Rattle.warg_protobuf.specs.Table.{Table, HasFault}
use Rattle.warg_protobuf.specs.Timestamp.{TimestampValue}
use Rattle.warg_protobuf.specs.declared.error.WireError.{WireError}
use Rattle.warg_protobuf.specs.declared.error.WireError.TheVariants as error
use Rattle.warg_envelope.specs.Envelopes.{signed_data, enclosed_data, opened_data, envelope_of}
use Rattle.warg_envelope.specs.Faults.{RecordFault, Prev, TimeOutOfRange, Algorithm, Key, Version, ContentHash}
use Rattle.warg_log_records.specs.OfBytes.{IsOfContent, IsOfEnvelope}
use Rattle.warg_log_records.specs.OperatorReading.{define_namespace_of, import_namespace_of, operator_entry_of}
use Rattle.warg_log_records.specs.PackageReading.{package_entry_of, release_of, version_of, yank_of}
use Rattle.warg_log_records.specs.RecordData.{EntryData}
use Rattle.warg_log_records.specs.RecordReading.{◌>>=◌, map_fault, each, prev_of, time_of, hash_algorithm_of, key_of, beginning_of, init_of, known_permission, permission_in, grant_of, revoke_of, entry_in, message_of, record_of}
use Rattle.warg_permissions.specs.OperatorPermissions as operator_permission
use Rattle.warg_permissions.specs.PackagePermissions as package_permission

module _ {F : Type 0} (P : F → Type 0) where
  then_within : {A B : Type 0} (r : Result A F) (k : A → Result B F) → IfErr r P → ((x : A) → IfErr (k x) P) → IfErr (r >>= k) P
  then_within (Ok x) k h g = g x
  then_within (Err e) k h g = h

  named_within : {A E : Type 0} (name : E → F) → ((e : E) → P (name e)) → (r : Result A E) → IfErr (map_fault name r) P
  named_within name h (Ok x) = tt
  named_within name h (Err e) = h e

  each_within : {A B : Type 0} (f : A → Result B F) → ((x : A) → IfErr (f x) P) → (xs : List A) → IfErr (each f xs) P
  each_within f h [] = tt
  each_within f h (x ∷ xs) = then_within (f x) _ (h x) (λ y. then_within (each f xs) _ (each_within f h xs) (λ ys. tt))

-- a text's fault
abbrev IsOfText : NamedBytesError → Type 0
IsOfText tag.OutOfMemory = ⊥
IsOfText e = Unit {0}

or_bad_within : (name : List ℕ) (d : Result (List ℕ) DecodeError) → IfErr (named_bytes_or_bad name d) IsOfText
or_bad_within name (Ok bytes) = tt
or_bad_within name (Err e) = tt

parts_within : (a b : Bool) (r : Result NamedBytes NamedBytesError) → IfErr r IsOfText → IfErr (cond a (Err tag.MissingColon) (cond b (Err tag.EmptyAlgorithm) r)) IsOfText
parts_within true b r h = tt
parts_within false true r h = tt
parts_within false false r h = h

tag_within : (text : List ℕ) → IfErr (named_bytes_of text) IsOfText
tag_within text = parts_within (position_or_len is_colon text == length text) (length (before_first is_colon text) == 0) (named_bytes_or_bad (before_first is_colon text) (decode_of standard (after_first is_colon text))) (or_bad_within (before_first is_colon text) (decode_of standard (after_first is_colon text)))

key_from_within : (r : Result NamedBytes NamedBytesError) → IfErr r IsOfText → IfErr (map_fault Key (with_fault key_fault r)) IsOfContent
key_from_within (Ok t) h = tt
key_from_within (Err tag.MissingColon) h = tt
key_from_within (Err tag.EmptyAlgorithm) h = tt
key_from_within (Err tag.BadBase64) h = tt
key_from_within (Err tag.OutOfMemory) h = h

key_within : (text : List ℕ) → IfErr (key_of text) IsOfContent
key_within text = key_from_within (named_bytes_of text) (tag_within text)

prev_within : (o : Option (List ℕ)) → IfErr (prev_of o) IsOfContent
prev_within None = tt
prev_within (Some text) = then_within IsOfContent (map_fault Prev (hash_of text)) _ (named_within IsOfContent Prev (λ e. tt) (hash_of text)) (λ h. tt)

time_within : (o : Option TimestampValue) → IfErr (time_of o) IsOfContent
time_within None = tt
time_within (Some t) = named_within IsOfContent (λ e. TimeOutOfRange) (λ e. tt) (time_from t.seconds t.nanos)

beginning_within : (m : InitValue) → IfErr (beginning_of m) IsOfContent
beginning_within m =
    then_within IsOfContent (hash_algorithm_of m.hash_algorithm) _ (named_within IsOfContent (λ e. Algorithm) (λ e. tt) (algorithm_of m.hash_algorithm))
    (λ a. then_within IsOfContent (key_of m.key) _ (key_within m.key) (λ k. tt))

module _ {P : Type 0} (permission_of : ℤ → Option P) where
  known_within : (v : ℤ) (o : Option P) → IfErr (known_permission permission_of v o) IsOfContent
  known_within v (Some p) = tt
  known_within v None = tt

  permissions_within : (vs : List ℤ) → IfErr (each (permission_in permission_of) vs) IsOfContent
  permissions_within vs = each_within IsOfContent (permission_in permission_of) (λ v. known_within v (permission_of v)) vs

  grant_within : (m : GrantFlatValue) → IfErr (grant_of permission_of m) IsOfContent
  grant_within m = then_within IsOfContent (key_of m.key) _ (key_within m.key) (λ k. then_within IsOfContent (each (permission_in permission_of) m.permissions) _ (permissions_within m.permissions) (λ ps. tt))

  revoke_within : (m : RevokeFlatValue) → IfErr (revoke_of permission_of m) IsOfContent
  revoke_within m = then_within IsOfContent (each (permission_in permission_of) m.permissions) _ (permissions_within m.permissions) (λ ps. tt)

version_within : (text : List ℕ) → IfErr (version_of text) IsOfContent
version_within text = named_within IsOfContent (λ e. Version) (λ e. tt) (version_parts text)

release_within : (m : ReleaseValue) → IfErr (release_of m) IsOfContent
release_within m = then_within IsOfContent (version_of m.version) _ (version_within m.version) (λ v. then_within IsOfContent (map_fault ContentHash (hash_of m.content_hash)) _ (named_within IsOfContent ContentHash (λ e. tt) (hash_of m.content_hash)) (λ h. tt))

yank_within : (m : YankValue) → IfErr (yank_of m) IsOfContent
yank_within m = then_within IsOfContent (version_of m.version) _ (version_within m.version) (λ v. tt)

module _ {P O F G : Type 0} (permission_of : ℤ → Option P) (first_of : F → Result O RecordFault) (second_of : G → Result O RecordFault)
    (first_within : (m : F) → IfErr (first_of m) IsOfContent) (second_within : (m : G) → IfErr (second_of m) IsOfContent) where
  member_within : (o : Option (Member F G)) → IfErr (entry_in permission_of first_of second_of o) IsOfContent
  member_within None = tt
  member_within (Some (member.Init m)) = then_within IsOfContent (init_of m) _ (then_within IsOfContent (beginning_of m) _ (beginning_within m) (λ b. tt)) (λ a. tt)
  member_within (Some (member.GrantFlat m)) = then_within IsOfContent (grant_of permission_of m) _ (grant_within permission_of m) (λ a. tt)
  member_within (Some (member.RevokeFlat m)) = then_within IsOfContent (revoke_of permission_of m) _ (revoke_within permission_of m) (λ a. tt)
  member_within (Some (member.FirstOwn m)) = then_within IsOfContent (first_of m) _ (first_within m) (λ a. tt)
  member_within (Some (member.SecondOwn m)) = then_within IsOfContent (second_of m) _ (second_within m) (λ a. tt)

package_entry_within : (o : Option PackageMember) → IfErr (package_entry_of o) IsOfContent
package_entry_within o = member_within package_permission.permission_of release_of yank_of release_within yank_within o

operator_entry_within : (o : Option OperatorMember) → IfErr (operator_entry_of o) IsOfContent
operator_entry_within o = member_within operator_permission.permission_of define_namespace_of import_namespace_of (λ m. tt) (λ m. tt) o

module _ {E P O : Type 0} (entry_of : E → Result (EntryData P O) RecordFault) (entry_within : (x : E) → IfErr (entry_of x) IsOfContent) where
  record_within : (m : RecordValue (List E)) → IfErr (record_of entry_of m) IsOfContent
  record_within m =
      then_within IsOfContent (prev_of m.prev) _ (prev_within m.prev)
      (λ p. then_within IsOfContent (time_of m.time) _ (time_within m.time)
      (λ t. then_within IsOfContent (each entry_of m.entries) _ (each_within IsOfContent entry_of entry_within m.entries) (λ es. tt)))

  module _ (table : Table) (IsMessage : List ℕ → RecordValue (List E) → Type 0) (messages : List ℕ → Result (RecordValue (List E)) WireError) (content : List ℕ) (computes : Computes table messages IsMessage content) (no_memory : HasFault table content error.OutOfMemory → ⊥) where
    message_within : (m : Result (RecordValue (List E)) WireError) → messages content ≡ m → IfErr (message_of m) IsOfContent
    message_within (Ok v) e = tt
    message_within (Err error.Truncated) e = tt
    message_within (Err error.VarintTooLong) e = tt
    message_within (Err error.BadKey) e = tt
    message_within (Err error.Group) e = tt
    message_within (Err error.WrongWireType) e = tt
    message_within (Err error.NotUtf8) e = tt
    message_within (Err error.OutOfMemory) e = no_memory (computes.fault error.OutOfMemory e)

    content_within : IfErr (message_of (messages content) >>= record_of entry_of) IsOfContent
    content_within = then_within IsOfContent (message_of (messages content)) (record_of entry_of) (message_within (messages content) refl) record_within

pub package_within : (content : List ℕ) → Computes package_record_table package_message.package_record_of IsPackageRecord content → (HasFault package_record_table content error.OutOfMemory → ⊥) → IfErr (message_of (package_message.package_record_of content) >>= record_of package_entry_of) IsOfContent
package_within content computes no_memory = content_within package_entry_of package_entry_within package_record_table IsPackageRecord package_message.package_record_of content computes no_memory

pub operator_within : (content : List ℕ) → Computes operator_record_table operator_message.operator_record_of IsOperatorRecord content → (HasFault operator_record_table content error.OutOfMemory → ⊥) → IfErr (message_of (operator_message.operator_record_of content) >>= record_of operator_entry_of) IsOfContent
operator_within content computes no_memory = content_within operator_entry_of operator_entry_within operator_record_table IsOperatorRecord operator_message.operator_record_of content computes no_memory

signed_within : (v : EnvelopeValue) (r : Result NamedBytes NamedBytesError) → IfErr r IsOfText → IfErr (signed_data v (with_fault signature_fault r)) IsOfEnvelope
signed_within v (Ok t) h = tt
signed_within v (Err tag.MissingColon) h = tt
signed_within v (Err tag.EmptyAlgorithm) h = tt
signed_within v (Err tag.BadBase64) h = tt
signed_within v (Err tag.OutOfMemory) h = h

module _ {M : Type 0} (read : List ℕ → Result M RecordFault) (within : (content : List ℕ) → IfErr (read content) IsOfContent) (bytes : List ℕ) (computes : Computes envelope_table message.envelope_of message.IsEnvelope bytes) (no_memory : HasFault envelope_table bytes error.OutOfMemory → ⊥) where
  enclosed_within : (v : EnvelopeValue) (m : Result M RecordFault) → IfErr m IsOfContent → IfErr (enclosed_data v m) IsOfEnvelope
  enclosed_within v (Ok m) h = signed_within v (named_bytes_of v.signature) (tag_within v.signature)
  enclosed_within v (Err f) h = h

  opened_within : (o : Result EnvelopeValue WireError) → message.envelope_of bytes ≡ o → IfErr (opened_data read o) IsOfEnvelope
  opened_within (Ok v) e = enclosed_within v (read v.contents) (within v.contents)
  opened_within (Err error.Truncated) e = tt
  opened_within (Err error.VarintTooLong) e = tt
  opened_within (Err error.BadKey) e = tt
  opened_within (Err error.Group) e = tt
  opened_within (Err error.WrongWireType) e = tt
  opened_within (Err error.NotUtf8) e = tt
  opened_within (Err error.OutOfMemory) e = no_memory (computes.fault error.OutOfMemory e)

  pub envelope_within : IfErr (envelope_of read bytes) IsOfEnvelope
  envelope_within = opened_within (message.envelope_of bytes) refl
