-- When entries and records of operator logs are equal: where their plain data are one.
use Rattle.std.specs.Prelude.{◌≡◌, ℕ, Bool, refl, string_bytes}
use Rattle.std.specs.Bool.{Decides}
use Rattle.std.proofs.lemmas.Bool.Decides.{Decides-and, Decides-like}
use Rattle.std.proofs.lemmas.Slice.Eq.{bytes_eq-Decides}
use Rattle.warg_crypto.specs.declared.hash.HashAlgorithm.TheVariants.{Sha256}
use Rattle.warg_log_records.specs.OperatorEntries.{OperatorOwnEntry, DefineNamespace, ImportNamespace, entry_data, record_data}
use Rattle.warg_permissions.specs.OperatorPermissions.{same_permission, same_permission-is, same_permission_equiv}
use Rattle.warg_permissions.proofs.Equality.{decided}
use Rattle.warg_log_records.specs.RecordData.{EntryData, Shared, Own, Init, GrantFlat, RevokeFlat}
use Rattle.warg_log_records.specs.contracts.operator.model.OperatorEntryPartialEq.TheImpl as entries
use Rattle.warg_permissions.specs.declared.operator.Permission.{Permission}
use Rattle.warg_log_records.specs.declared.operator.model.OperatorEntry.{OperatorEntry}
use Rattle.warg_log_records.specs.declared.operator.model.OperatorEntry.TheVariants as entry
use Rattle.warg_log_records.specs.declared.log_record.LogRecord.{LogRecord}
use Rattle.warg_log_records.proofs.Equalities.{init_decided, grant_decided, revoke_decided, cases_decided, record_decided, same_record}

abbrev pub same_entry : OperatorEntry → OperatorEntry → Bool
same_entry = (entries.ghosts).eq

abbrev case_of : EntryData Permission OperatorOwnEntry → ℕ
case_of (Shared (Init algorithm key)) = 0
case_of (Shared (GrantFlat key permissions)) = 1
case_of (Shared (RevokeFlat key_id permissions)) = 2
case_of (Own (DefineNamespace namespace)) = 3
case_of (Own (ImportNamespace namespace registry)) = 4

permission_decided : (p q : Permission) → Decides (same_permission p q) (p ≡ q)
permission_decided = decided same_permission same_permission_equiv same_permission-is

pub entry_decided : (a b : OperatorEntry) → Decides (same_entry a b) (entry_data a ≡ entry_data b)
entry_decided (entry.Init Sha256 k) (entry.Init Sha256 l) = init_decided same_permission permission_decided k l
entry_decided (entry.GrantFlat k ps) (entry.GrantFlat l qs) = grant_decided same_permission permission_decided k l ps.items qs.items
entry_decided (entry.RevokeFlat k ps) (entry.RevokeFlat l qs) = revoke_decided same_permission permission_decided k l ps.items qs.items
entry_decided (entry.DefineNamespace n) (entry.DefineNamespace m) =
    Decides-like _ (λ e i. Own (DefineNamespace (e i))) (λ (e : entry_data (entry.DefineNamespace n) ≡ entry_data (entry.DefineNamespace m)). cc)
    (bytes_eq-Decides (string_bytes n) (string_bytes m))
entry_decided (entry.ImportNamespace n r) (entry.ImportNamespace m s) =
    Decides-like _ (λ e i. Own (ImportNamespace (e.0 i) (e.1 i))) (λ (e : entry_data (entry.ImportNamespace n r) ≡ entry_data (entry.ImportNamespace m s)). (cc, cc))
    (Decides-and _ _ (bytes_eq-Decides (string_bytes n) (string_bytes m)) (bytes_eq-Decides (string_bytes r) (string_bytes s)))
entry_decided a b = cases_decided case_of (same_entry a b) (entry_data a) (entry_data b) refl refl

pub said_decided : (a b : LogRecord OperatorEntry) → Decides (same_record same_entry a b) (record_data a ≡ record_data b)
said_decided a b = record_decided entry_data same_entry entry_decided a.prev b.prev a.version b.version a.timestamp b.timestamp a.entries.items b.entries.items
