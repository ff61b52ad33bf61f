-- No prefix encoding is a proper beginning of another.
use Rattle.std.proofs.Common.{◌≡◌, ℕ, List, [], ◌++◌, Some, refl, sym, ap, ◌∙◌, append_assoc, append-nil, arith}
use Rattle.std.specs.Prelude.{codes, slice_get}
use Rattle.std.proofs.lemmas.List.{append_cancel_left}
use Rattle.warg_crypto.specs.HashText.{hash_text, hash_of}
use Rattle.warg_crypto.specs.Prefix.{unsigned_of, str_of}
use Rattle.warg_crypto.specs.HashTextLaws.{hash_of-hash_text}
use Rattle.warg_crypto.proofs.PrefixLemmas.{unsigned_of-same, str_of-same}
use Rattle.warg_crypto.specs.declared.hash.AnyHash.{AnyHash}
use Rattle.warg_registry.specs.declared.checkpoint.Checkpoint.{Checkpoint}
use Rattle.warg_registry.specs.declared.checkpoint.TimestampedCheckpoint.{TimestampedCheckpoint}
use Rattle.warg_registry.specs.declared.leaf.MapLeaf.{MapLeaf}
use Rattle.warg_registry.specs.declared.leaf.LogLeaf.{LogLeaf}
use Rattle.warg_registry.specs.PrefixEncodings.{hash_encoding_of, checkpoint_encoding_of, timestamped_checkpoint_encoding_of, map_leaf_encoding_of, log_leaf_encoding_of, package_name_encoding_of, EncodedValue, CheckpointValue, TimestampedCheckpointValue, MapLeafValue, LogLeafValue, PackageNameValue, prefix_encoding_of, IsHash, IsPrefixCode}

-- equal texts are texts of one hash
one_hash : (g h : AnyHash) → IsHash g → IsHash h → hash_text g ≡ hash_text h → g ≡ h
one_hash g h p q e = let r : hash_of (hash_text g) ≡ hash_of (hash_text h) = ap hash_of e in
    let s = hash_of-hash_text g p.len p.fits in let t = hash_of-hash_text h q.len q.fits in cc

-- what is left behind a hash
hash_cut : (g h : AnyHash) (a b : List ℕ) → IsHash g → IsHash h → hash_encoding_of g ++ a ≡ hash_encoding_of h ++ b → (g ≡ h) × (a ≡ b)
hash_cut g h a b p q e = let cut = str_of-same (hash_text g) (hash_text h) a b e in (one_hash g h p q cut.0, cut.1)

nothing_left : (rest : List ℕ) → rest ≡ [] ++ rest
nothing_left rest = refl

-- the byte by which the kinds differ
kind_byte : EncodedValue → ℕ
kind_byte (CheckpointValue c) = 67
kind_byte (TimestampedCheckpointValue t) = 84
kind_byte (MapLeafValue l) = 77
kind_byte (LogLeafValue l) = 76
kind_byte (PackageNameValue name) = 80

at_5 : (x : EncodedValue) (rest : List ℕ) → slice_get (prefix_encoding_of x ++ rest) 5 ≡ Some (kind_byte x)
unfolding kind_byte
at_5 (CheckpointValue c) rest = refl
at_5 (TimestampedCheckpointValue t) rest = refl
at_5 (MapLeafValue l) rest = refl
at_5 (LogLeafValue l) rest = refl
at_5 (PackageNameValue name) rest = refl

one_kind : (x y : EncodedValue) (rest : List ℕ) → prefix_encoding_of x ++ rest ≡ prefix_encoding_of y → kind_byte x ≡ kind_byte y
one_kind x y rest e =
    let p : slice_get (prefix_encoding_of x ++ rest) 5 ≡ Some (kind_byte x) = at_5 x rest in
    let q : slice_get (prefix_encoding_of y ++ []) 5 ≡ Some (kind_byte y) = at_5 y [] in
    let r : slice_get (prefix_encoding_of x ++ rest) 5 ≡ slice_get (prefix_encoding_of y ++ []) 5 = ap (λ (l : List ℕ). slice_get l 5) (e ∙ sym (append-nil (prefix_encoding_of y))) in
    cc

-- two, three or four pieces, and what follows them
body_2 : (a b r x y : List ℕ) → (a ++ b) ++ r ≡ x ++ y → a ++ (b ++ r) ≡ x ++ (y ++ [])
body_2 a b r x y e = sym (append_assoc a b r) ∙ e ∙ ap (λ (l : List ℕ). x ++ l) (sym (append-nil y))

body_3 : (a b c r x y z : List ℕ) → (a ++ (b ++ c)) ++ r ≡ x ++ (y ++ z) → a ++ (b ++ (c ++ r)) ≡ x ++ (y ++ (z ++ []))
body_3 a b c r x y z e = ap (λ (l : List ℕ). a ++ l) (sym (append_assoc b c r)) ∙ (sym (append_assoc a (b ++ c) r) ∙ (e ∙ ap (λ (l : List ℕ). x ++ (y ++ l)) (sym (append-nil z))))

body_4 : (a b c d r x y z w : List ℕ) → (a ++ (b ++ (c ++ d))) ++ r ≡ x ++ (y ++ (z ++ w)) → a ++ (b ++ (c ++ (d ++ r))) ≡ x ++ (y ++ (z ++ (w ++ [])))
body_4 a b c d r x y z w e = ap (λ (l : List ℕ). a ++ (b ++ l)) (sym (append_assoc c d r)) ∙ (ap (λ (l : List ℕ). a ++ l) (sym (append_assoc b (c ++ d) r))
    ∙ (sym (append_assoc a (b ++ (c ++ d)) r) ∙ (e ∙ ap (λ (l : List ℕ). x ++ (y ++ (z ++ l))) (sym (append-nil w)))))

-- behind the same raw text
behind_raw : (raw body rest other : List ℕ) → (raw ++ body) ++ rest ≡ raw ++ other → body ++ rest ≡ other
behind_raw raw body rest other e = append_cancel_left raw (body ++ rest) other (sym (append_assoc raw body rest) ∙ e)

same_checkpoint : (c d : Checkpoint) → c.log_root ≡ d.log_root → c.log_length ≡ d.log_length → c.map_root ≡ d.map_root → c ≡ d
same_checkpoint c d p q r = λ i. record { log_root = p i; log_length = q i; map_root = r i }

checkpoint_cut : (c d : Checkpoint) (rest : List ℕ) → IsHash c.log_root × IsHash c.map_root → IsHash d.log_root × IsHash d.map_root
    → checkpoint_encoding_of c ++ rest ≡ checkpoint_encoding_of d → (rest ≡ []) × (c ≡ d)
checkpoint_cut c d rest p q e =
    let u = unsigned_of c.log_length in let l = hash_encoding_of c.log_root in let m = hash_encoding_of c.map_root in
    let v = unsigned_of d.log_length in let k = hash_encoding_of d.log_root in let n = hash_encoding_of d.map_root in
    let body = body_3 u l m rest v k n (behind_raw (codes "WARG-CHECKPOINT-V0") (u ++ (l ++ m)) rest (v ++ (k ++ n)) e) in
    let length_cut = unsigned_of-same c.log_length d.log_length (l ++ (m ++ rest)) (k ++ (n ++ [])) body in
    let log_cut = hash_cut c.log_root d.log_root (m ++ rest) (n ++ []) p.0 q.0 length_cut.1 in
    let map_cut = hash_cut c.map_root d.map_root rest [] p.1 q.1 log_cut.1 in
    (map_cut.1, same_checkpoint c d log_cut.0 length_cut.0 map_cut.0)

timestamped_cut : (c d : TimestampedCheckpoint) (rest : List ℕ) → IsHash c.checkpoint.log_root × IsHash c.checkpoint.map_root → IsHash d.checkpoint.log_root × IsHash d.checkpoint.map_root
    → timestamped_checkpoint_encoding_of c ++ rest ≡ timestamped_checkpoint_encoding_of d → (rest ≡ []) × (c ≡ d)
timestamped_cut c d rest p q e =
    let u = unsigned_of c.checkpoint.log_length in let l = hash_encoding_of c.checkpoint.log_root in let m = hash_encoding_of c.checkpoint.map_root in let s = unsigned_of c.timestamp in
    let v = unsigned_of d.checkpoint.log_length in let k = hash_encoding_of d.checkpoint.log_root in let n = hash_encoding_of d.checkpoint.map_root in let t = unsigned_of d.timestamp in
    let body = body_4 u l m s rest v k n t (behind_raw (codes "WARG-TIMESTAMPED-CHECKPOINT-V0") (u ++ (l ++ (m ++ s))) rest (v ++ (k ++ (n ++ t))) e) in
    let length_cut = unsigned_of-same c.checkpoint.log_length d.checkpoint.log_length (l ++ (m ++ (s ++ rest))) (k ++ (n ++ (t ++ []))) body in
    let log_cut = hash_cut c.checkpoint.log_root d.checkpoint.log_root (m ++ (s ++ rest)) (n ++ (t ++ [])) p.0 q.0 length_cut.1 in
    let map_cut = hash_cut c.checkpoint.map_root d.checkpoint.map_root (s ++ rest) (t ++ []) p.1 q.1 log_cut.1 in
    let time_cut = unsigned_of-same c.timestamp d.timestamp rest [] map_cut.1 in
    let same : c.checkpoint ≡ d.checkpoint = same_checkpoint c.checkpoint d.checkpoint log_cut.0 length_cut.0 map_cut.0 in
    (time_cut.1, λ i. record { checkpoint = same i; timestamp = time_cut.0 i })

map_leaf_cut : (c d : MapLeaf) (rest : List ℕ) → IsHash c.record_id.hash → IsHash d.record_id.hash → map_leaf_encoding_of c ++ rest ≡ map_leaf_encoding_of d → (rest ≡ []) × (c ≡ d)
map_leaf_cut c d rest p q e =
    let body = behind_raw (codes "WARG-MAP-LEAF-V0") (hash_encoding_of c.record_id.hash) rest (hash_encoding_of d.record_id.hash) e in
    let cut = hash_cut c.record_id.hash d.record_id.hash rest [] p q (body ∙ sym (append-nil (hash_encoding_of d.record_id.hash))) in
    (cut.1, λ i. record { record_id = record { hash = cut.0 i } })

log_leaf_cut : (c d : LogLeaf) (rest : List ℕ) → IsHash c.log_id.hash × IsHash c.record_id.hash → IsHash d.log_id.hash × IsHash d.record_id.hash
    → log_leaf_encoding_of c ++ rest ≡ log_leaf_encoding_of d → (rest ≡ []) × (c ≡ d)
log_leaf_cut c d rest p q e =
    let l = hash_encoding_of c.log_id.hash in let r = hash_encoding_of c.record_id.hash in
    let k = hash_encoding_of d.log_id.hash in let s = hash_encoding_of d.record_id.hash in
    let body = body_2 l r rest k s (behind_raw (codes "WARG-LOG-LEAF-V0") (l ++ r) rest (k ++ s) e) in
    let log_cut = hash_cut c.log_id.hash d.log_id.hash (r ++ rest) (s ++ []) p.0 q.0 body in
    let record_cut = hash_cut c.record_id.hash d.record_id.hash rest [] p.1 q.1 log_cut.1 in
    (record_cut.1, λ i. record { log_id = record { hash = log_cut.0 i }; record_id = record { hash = record_cut.0 i } })

name_cut : (m n : List ℕ) (rest : List ℕ) → package_name_encoding_of m ++ rest ≡ package_name_encoding_of n → (rest ≡ []) × (m ≡ n)
name_cut m n rest e =
    let body = behind_raw (codes "WARG-PACKAGE-ID-V0") (str_of m) rest (str_of n) e in
    let cut = str_of-same m n rest [] (body ∙ sym (append-nil (str_of n))) in
    (cut.1, cut.0)

other_kind : (x y : EncodedValue) (rest : List ℕ) → prefix_encoding_of x ++ rest ≡ prefix_encoding_of y → (kind_byte x ≡ kind_byte y → ⊥) → (rest ≡ []) × (x ≡ y)
other_kind x y rest e differ = absurd (differ (one_kind x y rest e))

with_value : {A : Type 0} {x y : A} {rest : List ℕ} (make : A → EncodedValue) → (rest ≡ []) × (x ≡ y) → (rest ≡ []) × (make x ≡ make y)
with_value make h = (h.0, ap make h.1)

pub prefix_code : IsPrefixCode
unfolding kind_byte
prefix_code (CheckpointValue c) (CheckpointValue d) rest p q e = with_value CheckpointValue (checkpoint_cut c d rest p q e)
prefix_code (TimestampedCheckpointValue c) (TimestampedCheckpointValue d) rest p q e = with_value TimestampedCheckpointValue (timestamped_cut c d rest p q e)
prefix_code (MapLeafValue c) (MapLeafValue d) rest p q e = with_value MapLeafValue (map_leaf_cut c d rest p q e)
prefix_code (LogLeafValue c) (LogLeafValue d) rest p q e = with_value LogLeafValue (log_leaf_cut c d rest p q e)
prefix_code (PackageNameValue m) (PackageNameValue n) rest p q e = with_value PackageNameValue (name_cut m n rest e)
prefix_code (CheckpointValue c) (TimestampedCheckpointValue d) rest p q e = other_kind (CheckpointValue c) (TimestampedCheckpointValue d) rest e (λ h. absurd (omega (arith, h)))
prefix_code (CheckpointValue c) (MapLeafValue d) rest p q e = other_kind (CheckpointValue c) (MapLeafValue d) rest e (λ h. absurd (omega (arith, h)))
prefix_code (CheckpointValue c) (LogLeafValue d) rest p q e = other_kind (CheckpointValue c) (LogLeafValue d) rest e (λ h. absurd (omega (arith, h)))
prefix_code (CheckpointValue c) (PackageNameValue d) rest p q e = other_kind (CheckpointValue c) (PackageNameValue d) rest e (λ h. absurd (omega (arith, h)))
prefix_code (TimestampedCheckpointValue c) (CheckpointValue d) rest p q e = other_kind (TimestampedCheckpointValue c) (CheckpointValue d) rest e (λ h. absurd (omega (arith, h)))
prefix_code (TimestampedCheckpointValue c) (MapLeafValue d) rest p q e = other_kind (TimestampedCheckpointValue c) (MapLeafValue d) rest e (λ h. absurd (omega (arith, h)))
prefix_code (TimestampedCheckpointValue c) (LogLeafValue d) rest p q e = other_kind (TimestampedCheckpointValue c) (LogLeafValue d) rest e (λ h. absurd (omega (arith, h)))
prefix_code (TimestampedCheckpointValue c) (PackageNameValue d) rest p q e = other_kind (TimestampedCheckpointValue c) (PackageNameValue d) rest e (λ h. absurd (omega (arith, h)))
prefix_code (MapLeafValue c) (CheckpointValue d) rest p q e = other_kind (MapLeafValue c) (CheckpointValue d) rest e (λ h. absurd (omega (arith, h)))
prefix_code (MapLeafValue c) (TimestampedCheckpointValue d) rest p q e = other_kind (MapLeafValue c) (TimestampedCheckpointValue d) rest e (λ h. absurd (omega (arith, h)))
prefix_code (MapLeafValue c) (LogLeafValue d) rest p q e = other_kind (MapLeafValue c) (LogLeafValue d) rest e (λ h. absurd (omega (arith, h)))
prefix_code (MapLeafValue c) (PackageNameValue d) rest p q e = other_kind (MapLeafValue c) (PackageNameValue d) rest e (λ h. absurd (omega (arith, h)))
prefix_code (LogLeafValue c) (CheckpointValue d) rest p q e = other_kind (LogLeafValue c) (CheckpointValue d) rest e (λ h. absurd (omega (arith, h)))
prefix_code (LogLeafValue c) (TimestampedCheckpointValue d) rest p q e = other_kind (LogLeafValue c) (TimestampedCheckpointValue d) rest e (λ h. absurd (omega (arith, h)))
prefix_code (LogLeafValue c) (MapLeafValue d) rest p q e = other_kind (LogLeafValue c) (MapLeafValue d) rest e (λ h. absurd (omega (arith, h)))
prefix_code (LogLeafValue c) (PackageNameValue d) rest p q e = other_kind (LogLeafValue c) (PackageNameValue d) rest e (λ h. absurd (omega (arith, h)))
prefix_code (PackageNameValue c) (CheckpointValue d) rest p q e = other_kind (PackageNameValue c) (CheckpointValue d) rest e (λ h. absurd (omega (arith, h)))
prefix_code (PackageNameValue c) (TimestampedCheckpointValue d) rest p q e = other_kind (PackageNameValue c) (TimestampedCheckpointValue d) rest e (λ h. absurd (omega (arith, h)))
prefix_code (PackageNameValue c) (MapLeafValue d) rest p q e = other_kind (PackageNameValue c) (MapLeafValue d) rest e (λ h. absurd (omega (arith, h)))
prefix_code (PackageNameValue c) (LogLeafValue d) rest p q e = other_kind (PackageNameValue c) (LogLeafValue d) rest e (λ h. absurd (omega (arith, h)))
