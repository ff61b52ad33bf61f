-- What was written of them reads back.
use Rattle.std.specs.Prelude.{◌≡◌, ℕ, List, true, codes, Result, Ok, refl}
use Rattle.std.proofs.Common.{subst}
use Rattle.serde_json.specs.Data.{Data, no_members, object, put}
use Rattle.warg_crypto.specs.Json.Json.{ReadsBack}
use Rattle.warg_crypto.specs.Json.JsonTexts.{hash_in}
use Rattle.warg_crypto.specs.Json.JsonLaws.{ok_same}
use Rattle.warg_crypto.specs.declared.json.error.JsonError.{JsonError}
use Rattle.warg_registry.specs.declared.checkpoint.Checkpoint.{Checkpoint}
use Rattle.warg_registry.specs.declared.checkpoint.TimestampedCheckpoint.{TimestampedCheckpoint}
use Rattle.warg_registry.specs.declared.leaf.LogLeaf.{LogLeaf}
use Rattle.warg_registry.specs.KebabNames.{is_package_name}
use Rattle.warg_crypto.specs.Json.Numbers.{number_in}
use Rattle.warg_log_records.specs.RecordIdJson.{record_id_in}
use Rattle.warg_registry.specs.RegistryJson.{checkpoint_in, log_id_in, log_leaf_in, package_name_in, package_name_json, timestamped_checkpoint_in}

abbrev pub Back : {A : Type 0} → (Data → Result A JsonError) → A → Data → Type 0
Back reads x d = ReadsBack reads (λ a b. a ≡ b) x d

pub package_name_reads_back : (name : List ℕ) (d : Data) → is_package_name name ≡ true → package_name_json name ≡ Ok d → Back package_name_in name d
package_name_reads_back name d own e = record { again = name; is = rw (← ok_same _ _ e, own) refl; equal = refl }

checkpoint_read : (x : Checkpoint) (a b c : Data) → hash_in a ≡ Ok x.log_root → number_in b ≡ Ok x.log_length → hash_in c ≡ Ok x.map_root
    → checkpoint_in (object (put (codes "mapRoot") c (put (codes "logLength") b (put (codes "logRoot") a no_members)))) ≡ Ok x
checkpoint_read x a b c f g h = rw (f, g, h) refl

-- of the members as they were put
pub checkpoint_back : (x : Checkpoint) (a b c d : Data) → hash_in a ≡ Ok x.log_root → number_in b ≡ Ok x.log_length → hash_in c ≡ Ok x.map_root
    → object (put (codes "mapRoot") c (put (codes "logLength") b (put (codes "logRoot") a no_members))) ≡ d → Back checkpoint_in x d
checkpoint_back x a b c d f g h is = record { again = x; is = subst (λ (y : Data). checkpoint_in y ≡ Ok x) is (checkpoint_read x a b c f g h); equal = refl }

timestamped_read : (x : TimestampedCheckpoint) (a b c t : Data) → hash_in a ≡ Ok x.checkpoint.log_root → number_in b ≡ Ok x.checkpoint.log_length → hash_in c ≡ Ok x.checkpoint.map_root → number_in t ≡ Ok x.timestamp
    → timestamped_checkpoint_in (object (put (codes "timestamp") t (put (codes "mapRoot") c (put (codes "logLength") b (put (codes "logRoot") a no_members))))) ≡ Ok x
timestamped_read x a b c t f g h k = rw (f, g, h, k) refl

pub timestamped_back : (x : TimestampedCheckpoint) (a b c t d : Data) → hash_in a ≡ Ok x.checkpoint.log_root → number_in b ≡ Ok x.checkpoint.log_length → hash_in c ≡ Ok x.checkpoint.map_root → number_in t ≡ Ok x.timestamp
    → object (put (codes "timestamp") t (put (codes "mapRoot") c (put (codes "logLength") b (put (codes "logRoot") a no_members)))) ≡ d → Back timestamped_checkpoint_in x d
timestamped_back x a b c t d f g h k is = record { again = x; is = subst (λ (y : Data). timestamped_checkpoint_in y ≡ Ok x) is (timestamped_read x a b c t f g h k); equal = refl }

log_leaf_read : (x : LogLeaf) (a b : Data) → log_id_in a ≡ Ok x.log_id → record_id_in b ≡ Ok x.record_id
    → log_leaf_in (object (put (codes "recordId") b (put (codes "logId") a no_members))) ≡ Ok x
log_leaf_read x a b f g = rw (f, g) refl

pub log_leaf_back : (x : LogLeaf) (a b d : Data) → log_id_in a ≡ Ok x.log_id → record_id_in b ≡ Ok x.record_id
    → object (put (codes "recordId") b (put (codes "logId") a no_members)) ≡ d → Back log_leaf_in x d
log_leaf_back x a b d f g is = record { again = x; is = subst (λ (y : Data). log_leaf_in y ≡ Ok x) is (log_leaf_read x a b f g); equal = refl }
