-- Leaves and their saved form.
use Rattle.std.proofs.Common.{◌≡◌, ℕ, zero, suc, ◌+◌, ◌*◌, ◌<◌, List, [], ◌∷◌, ◌++◌, length, map, take, drop, get_or, refl, sym, ◌∙◌, ap, subst, arith}
use Rattle.std.specs.List.{All, concat}
use Rattle.std.specs.Simd.{first_chunks}
use Rattle.std.proofs.lemmas.List.{append_assoc, append_cancel_left, length-append, length-drop, map_push, nil_from_length, take-append-drop, take_at, take_more}
use Rattle.std.proofs.lemmas.List.Elements.{All-head, All-tail}
use Rattle.warg_crypto.specs.declared.hash.AnyHash.{AnyHash}
use Rattle.warg_log_records.specs.declared.record_id.RecordId.{RecordId}
use Rattle.warg_registry.specs.declared.leaf.LogLeaf.{LogLeaf}
use Rattle.warg_registry.specs.declared.log_id.LogId.{LogId}
use Rattle.warg_merkle.proofs.MapProofLemmas.Chunks.{concat-push}
use Rattle.warg_transparency.specs.RegistryTrees.{HasHashes}
use Rattle.warg_transparency.specs.SavedLeaves.{leaf_bytes, saved_form}
use Rattle.warg_transparency.proofs.RegistryLemmas.{one_hash}

-- bytes that are cut into as many pieces as they have
pub joined_pieces : (k : ℕ) (xs : List ℕ) → length xs ≡ 64 * k → concat (first_chunks 64 k xs) ≡ xs
joined_pieces zero xs e = sym (nil_from_length xs (omega arith))
joined_pieces (suc k) xs e = ap (λ ys. take 64 xs ++ ys) (joined_pieces k (drop 64 xs) (omega (arith, length-drop 64 xs))) ∙ take-append-drop 64 xs

-- the saved form of one leaf more
pub saved_more : (leaves : List LogLeaf) (leaf : LogLeaf) → saved_form (leaves ++ leaf ∷ []) ≡ saved_form leaves ++ leaf_bytes leaf
saved_more leaves leaf = ap concat (map_push leaf_bytes leaves leaf) ∙ concat-push (map leaf_bytes leaves) (leaf_bytes leaf)

-- the bytes of both ids of the leaf at a place, behind the saved form of those before it
pub saved_next : (leaves : List LogLeaf) (at : ℕ) (d : LogLeaf) (old mid new log_id record_id : List ℕ) → at < length leaves → old ≡ saved_form (take at leaves)
    → mid ≡ old ++ log_id → log_id ≡ (get_or leaves at d).log_id.hash.bytes → new ≡ mid ++ record_id → record_id ≡ (get_or leaves at d).record_id.hash.bytes
    → new ≡ saved_form (take (at + 1) leaves)
saved_next leaves at d old mid new log_id record_id below before is_mid is_log_id is_new is_record_id =
    let leaf : LogLeaf = get_or leaves at d in
    is_new
    ∙ ap (λ bytes. bytes ++ record_id) is_mid
    ∙ append_assoc old log_id record_id
    ∙ ap (λ bytes. bytes ++ (log_id ++ record_id)) before
    ∙ ap (λ bytes. saved_form (take at leaves) ++ (bytes ++ record_id)) is_log_id
    ∙ ap (λ bytes. saved_form (take at leaves) ++ (leaf.log_id.hash.bytes ++ bytes)) is_record_id
    ∙ sym (saved_more (take at leaves) leaf)
    ∙ ap saved_form (sym (take_more leaves at d below))

leaf_len : (leaf : LogLeaf) → HasHashes leaf → length (leaf_bytes leaf) ≡ 64
leaf_len leaf is =
    let log_id = is.log_id.len in
    let record_id = is.record_id.len in
    omega (arith, length-append leaf.log_id.hash.bytes leaf.record_id.hash.bytes, log_id, record_id)

-- lists of one length at the beginning of equal ones are equal, and so is what is behind them
same_front : (xs ys rest other : List ℕ) → length xs ≡ length ys → xs ++ rest ≡ ys ++ other → (xs ≡ ys) × (rest ≡ other)
same_front xs ys rest other len e =
    let front : xs ≡ ys = sym (take_at xs rest (length xs) refl) ∙ ap (take (length xs)) e ∙ take_at ys other (length xs) (sym len) in
    (front, append_cancel_left ys rest other (subst (λ zs. zs ++ rest ≡ ys ++ other) front e))

one_leaf : (leaf other : LogLeaf) → HasHashes leaf → HasHashes other → leaf_bytes leaf ≡ leaf_bytes other → leaf ≡ other
one_leaf leaf other is other_is e =
    let parts = same_front leaf.log_id.hash.bytes other.log_id.hash.bytes leaf.record_id.hash.bytes other.record_id.hash.bytes (is.log_id.len ∙ sym other_is.log_id.len) e in
    let log_id = one_hash leaf.log_id.hash other.log_id.hash parts.0 in
    let record_id = one_hash leaf.record_id.hash other.record_id.hash parts.1 in
    λ i. record { log_id = record { hash = log_id i }; record_id = record { hash = record_id i } }

no_front : (leaf : LogLeaf) (rest : List ℕ) → HasHashes leaf → leaf_bytes leaf ++ rest ≡ [] → ⊥
no_front leaf rest is e =
    let long = ap length e in
    let len = leaf_len leaf is in
    absurd (omega (arith, long, len, length-append (leaf_bytes leaf) rest))

-- leaves with one saved form are one
pub one_saved : (leaves others : List LogLeaf) → All HasHashes leaves → All HasHashes others → saved_form leaves ≡ saved_form others → leaves ≡ others
one_saved [] [] are others_are e = refl
one_saved [] (other ∷ others) are others_are e = absurd (no_front other (saved_form others) (All-head HasHashes other others others_are) (sym e))
one_saved (leaf ∷ leaves) [] are others_are e = absurd (no_front leaf (saved_form leaves) (All-head HasHashes leaf leaves are) e)
one_saved (leaf ∷ leaves) (other ∷ others) are others_are e =
    let is = All-head HasHashes leaf leaves are in
    let other_is = All-head HasHashes other others others_are in
    let parts = same_front (leaf_bytes leaf) (leaf_bytes other) (saved_form leaves) (saved_form others) (leaf_len leaf is ∙ sym (leaf_len other other_is)) e in
    let first = one_leaf leaf other is other_is parts.0 in
    let rest = one_saved leaves others (All-tail HasHashes leaf leaves are) (All-tail HasHashes other others others_are) parts.1 in
    ap (λ (l : LogLeaf). l ∷ leaves) first ∙ ap (λ (ls : List LogLeaf). other ∷ ls) rest
