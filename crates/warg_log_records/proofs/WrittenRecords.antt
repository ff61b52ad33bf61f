-- What is written of a record reads back as the record.
use Rattle.std.proofs.Common.{◌≡◌, ℕ, List, [], ◌∷◌, map, Option, Some, None, Result, Ok, Err, refl, ap}
use Rattle.std.specs.Prelude.{ℤ, IfOk}
use Rattle.std.specs.List.{AllByRecursion}
use Rattle.std.specs.Option.{option_map}
use Rattle.warg_crypto.specs.HashTextLaws.{hash_of-hash_text}
use Rattle.warg_crypto.specs.NamedBytesLaws.{public_key_of-named_bytes_text}
use Rattle.warg_crypto.specs.NamedBytes.{NamedBytes, named_bytes_text}
use Rattle.warg_crypto.specs.Time.Times.{Time}
use Rattle.warg_crypto.specs.declared.hash.HashAlgorithm.{HashAlgorithm}
use Rattle.warg_crypto.specs.declared.hash.HashAlgorithm.TheVariants.{Sha256}
use Rattle.warg_protobuf.specs.Entry.{Member}
use Rattle.warg_protobuf.specs.Record.{RecordValue}
use Rattle.warg_protobuf.specs.Table.{Table}
use Rattle.warg_envelope.specs.Faults.{RecordFault, Prev, TimeOutOfRange, Key, Version, ContentHash}
use Rattle.warg_log_records.specs.RecordData.{Init, GrantFlat, RevokeFlat, EntryData, Shared, Own, RecordData}
use Rattle.warg_log_records.specs.Relations.{ReadsRecord}
use Rattle.warg_log_records.specs.RecordReading.{◌>>=◌, map_fault, each, prev_of, time_of, key_of, init_of, known_permission, permission_in, grant_of, revoke_of, shared_entry, own_entry, entry_in, record_of}
use Rattle.warg_log_records.specs.WellFormed.{IsWellFormedNamedBytes, IsWellFormedTime, IsWellFormedLink, IsWellFormedEntry, IsWellFormed, IsWellFormedPackageOwnEntry, IsWellFormedOperatorOwnEntry}
use Rattle.warg_log_records.specs.Writing.{id_text, init_message, grant_message, revoke_message, message_of_entry, time_message, record_message}
use Rattle.warg_log_records.specs.declared.record_id.RecordId.{RecordId}
use Rattle.warg_log_records.specs.PackageEntries.{PackageOwnEntry, Release, Yank}
use Rattle.warg_permissions.specs.PackagePermissions as release_permission
use Rattle.warg_log_records.specs.PackageReading.{release_of, yank_of, package_entry_of}
use Rattle.warg_log_records.specs.PackageWriting.{package_own_message, package_entry_message}
use Rattle.warg_log_records.specs.PackageWriting as package_writing
use Rattle.warg_log_records.specs.OperatorEntries.{OperatorOwnEntry, DefineNamespace, ImportNamespace}
use Rattle.warg_permissions.specs.OperatorPermissions as commit_permission
use Rattle.warg_log_records.specs.OperatorReading.{define_namespace_of, import_namespace_of, operator_entry_of}
use Rattle.warg_log_records.specs.OperatorWriting.{operator_own_message, operator_entry_message}
use Rattle.warg_log_records.specs.OperatorWriting as operator_writing
use Rattle.warg_permissions.specs.declared.package.Permission as release
use Rattle.warg_permissions.specs.declared.operator.Permission as commit

prev_back : (o : Option RecordId) → IsWellFormedLink o → prev_of (option_map id_text o) ≡ Ok o
prev_back None w = refl
prev_back (Some id) w = ap (λ r. map_fault Prev r >>= λ h. Ok (Some (record { hash = h }))) (hash_of-hash_text id.hash w.size w.bytes)

time_back : (t : Time) → IsWellFormedTime t → time_of (Some (time_message t)) ≡ Ok t
time_back t w = ap (map_fault (λ e. TimeOutOfRange)) w

key_back : (k : NamedBytes) → IsWellFormedNamedBytes k → key_of (named_bytes_text k) ≡ Ok k
key_back k w = ap (map_fault Key) (public_key_of-named_bytes_text k w.name w.bytes)

module _ {A B : Type 0} (f : B → Result A RecordFault) (g : A → B) where
  each_back : {W : A → Type 0} → ((x : A) → W x → f (g x) ≡ Ok x) → (xs : List A) → AllByRecursion W xs → each f (map g xs) ≡ Ok xs
  each_back back [] w = refl
  each_back back (x ∷ xs) w = λ i. back x w.0 i >>= λ y. each_back back xs w.1 i >>= λ ys. Ok (y ∷ ys)

  each_back-all : ((x : A) → f (g x) ≡ Ok x) → (xs : List A) → each f (map g xs) ≡ Ok xs
  each_back-all back [] = refl
  each_back-all back (x ∷ xs) = λ i. back x i >>= λ y. each_back-all back xs i >>= λ ys. Ok (y ∷ ys)

init_back : {P : Type 0} (a : HashAlgorithm) (k : NamedBytes) → IsWellFormedNamedBytes k → init_of {P = P} (init_message a k) ≡ Ok (Init a k)
init_back Sha256 k w =
    let pair : NamedBytes → HashAlgorithm × NamedBytes = λ key. (Sha256, key) in
    ap (λ (r : Result NamedBytes RecordFault). (r >>= λ key. Ok (pair key)) >>= λ b. Ok (Init b.0 b.1)) (key_back k w)

module _ {P : Type 0} (permission_of : ℤ → Option P) (number_of : P → ℤ) (back : (p : P) → permission_of (number_of p) ≡ Some p) where
  permissions_back : (ps : List P) → each (permission_in permission_of) (map number_of ps) ≡ Ok ps
  permissions_back ps = each_back-all (permission_in permission_of) number_of (λ p. ap (known_permission permission_of (number_of p)) (back p)) ps

  grant_back : (k : NamedBytes) (ps : List P) → IsWellFormedNamedBytes k → grant_of permission_of (grant_message number_of k ps) ≡ Ok (GrantFlat k ps)
  grant_back k ps w = λ i. key_back k w i >>= λ key. permissions_back ps i >>= λ permissions. Ok (GrantFlat key permissions)

  revoke_back : (id : List ℕ) (ps : List P) → revoke_of permission_of (revoke_message number_of id ps) ≡ Ok (RevokeFlat id ps)
  revoke_back id ps = λ i. permissions_back ps i >>= λ permissions. Ok (RevokeFlat id permissions)

record_back : {E P O : Type 0} (entry_of : E → Result (EntryData P O) RecordFault) (entry_message : EntryData P O → E) (IsWellFormedOwn : O → Type 0)
    → ((x : EntryData P O) → IsWellFormedEntry IsWellFormedOwn x → entry_of (entry_message x) ≡ Ok x)
    → (s : RecordData P O) → IsWellFormed IsWellFormedOwn s → record_of entry_of (record_message entry_message s) ≡ Ok s
record_back entry_of entry_message IsWellFormedOwn back s w =
    λ i. prev_back s.prev w.prev i >>= λ p. time_back s.time w.time i >>= λ t. each_back entry_of entry_message back s.entries w.entries i >>= λ es.
    Ok (record { prev = p; version = s.version; time = t; entries = es })

module _ {P O F G : Type 0} (permission_of : ℤ → Option P) (number_of : P → ℤ) (permission_back : (p : P) → permission_of (number_of p) ≡ Some p)
    (first_of : F → Result O RecordFault) (second_of : G → Result O RecordFault) (own_message : O → Member F G) (IsWellFormedOwn : O → Type 0)
    (own_back : (o : O) → IsWellFormedOwn o → entry_in permission_of first_of second_of (Some (own_message o)) ≡ Ok (Own o)) where
  entry_back : (x : EntryData P O) → IsWellFormedEntry IsWellFormedOwn x → entry_in permission_of first_of second_of (message_of_entry number_of own_message x) ≡ Ok x
  entry_back (Shared (Init a k)) w = ap shared_entry (init_back a k w)
  entry_back (Shared (GrantFlat k ps)) w = ap shared_entry (grant_back permission_of number_of permission_back k ps w)
  entry_back (Shared (RevokeFlat id ps)) w = ap shared_entry (revoke_back permission_of number_of permission_back id ps)
  entry_back (Own o) w = own_back o w

package_own_back : (o : PackageOwnEntry) → IsWellFormedPackageOwnEntry o → package_entry_of (Some (package_own_message o)) ≡ Ok (Own o)
package_own_back (Release v h) w = λ i. own_entry (map_fault (λ e. Version) (w.0 i) >>= λ version. map_fault ContentHash (hash_of-hash_text h w.1.size w.1.bytes i) >>= λ content. Ok (Release version content))
package_own_back (Yank v) w = λ i. own_entry (map_fault (λ e. Version) (w i) >>= λ version. Ok (Yank version))

operator_own_back : (o : OperatorOwnEntry) → IsWellFormedOperatorOwnEntry o → operator_entry_of (Some (operator_own_message o)) ≡ Ok (Own o)
operator_own_back (DefineNamespace n) w = refl
operator_own_back (ImportNamespace n r) w = refl

package_entry_back : (x : EntryData release.Permission PackageOwnEntry) → IsWellFormedEntry IsWellFormedPackageOwnEntry x → package_entry_of (package_entry_message x) ≡ Ok x
package_entry_back x w =
    entry_back release_permission.permission_of package_writing.permission_number release_permission.permission_of-number_of
    release_of yank_of package_own_message IsWellFormedPackageOwnEntry package_own_back x w

operator_entry_back : (x : EntryData commit.Permission OperatorOwnEntry) → IsWellFormedEntry IsWellFormedOperatorOwnEntry x → operator_entry_of (operator_entry_message x) ≡ Ok x
operator_entry_back x w =
    entry_back commit_permission.permission_of operator_writing.permission_number commit_permission.permission_of-number_of
    define_namespace_of import_namespace_of operator_own_message IsWellFormedOperatorOwnEntry operator_own_back x w

-- what is written as this message reads back as the record
pub encoded_back : {E P O T X : Type 0} (table : Table) (IsMessage : List ℕ → RecordValue (List E) → Type 0) (entry_of : E → Result (EntryData P O) RecordFault) (read : List ℕ → Result (RecordData P O) RecordFault)
    → ((content : List ℕ) → ReadsRecord table IsMessage entry_of (read content) content)
    → (s : RecordData P O) (m : RecordValue (List E)) → record_of entry_of m ≡ Ok s
    → (items : T → List ℕ) (r : Result T X) → IfOk r (λ v. IsMessage (items v) m) → IfOk r (λ v. read (items v) ≡ Ok s)
encoded_back table IsMessage entry_of read reads s m says items (Ok v) h = (reads (items v)).value_converse s (record { message = m; is = h; says = says })
encoded_back table IsMessage entry_of read reads s m says items (Err e) h = tt

pub package_back : (s : RecordData release.Permission PackageOwnEntry) → IsWellFormed IsWellFormedPackageOwnEntry s → record_of package_entry_of (record_message package_entry_message s) ≡ Ok s
package_back s w = record_back package_entry_of package_entry_message IsWellFormedPackageOwnEntry package_entry_back s w

pub operator_back : (s : RecordData commit.Permission OperatorOwnEntry) → IsWellFormed IsWellFormedOperatorOwnEntry s → record_of operator_entry_of (record_message operator_entry_message s) ≡ Ok s
operator_back s w = record_back operator_entry_of operator_entry_message IsWellFormedOperatorOwnEntry operator_entry_back s w
