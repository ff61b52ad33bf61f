-- The map and the log of one leaf more, and what the map has of a log.
use Rattle.std.proofs.Common.{◌≡◌, ◌≢◌, ◌⊎◌, ℕ, List, [], ◌∷◌, ◌++◌, Option, Some, None, Result, Ok, Err, IfOk, inl, inr, refl, sym, ◌∙◌, ap, subst}
use Rattle.std.specs.List.{All}
use Rattle.std.proofs.lemmas.List.Elements.{All-nil, All-cons, All-head, All-tail}
use Rattle.sha2.specs.Sha256.{sha256}
use Rattle.warg_crypto.specs.declared.hash.AnyHash.{AnyHash}
use Rattle.warg_crypto.specs.declared.hash.HashAlgorithm.{HashAlgorithm}
use Rattle.warg_crypto.specs.declared.hash.HashAlgorithm.TheVariants.{Sha256}
use Rattle.warg_log_records.specs.declared.record_id.RecordId.{RecordId}
use Rattle.warg_registry.specs.PrefixEncodings.{map_leaf_encoding_of, IsHash}
use Rattle.warg_registry.specs.declared.leaf.LogLeaf.{LogLeaf}
use Rattle.warg_registry.specs.declared.leaf.MapLeaf.{MapLeaf}
use Rattle.warg_registry.specs.declared.log_id.LogId.{LogId}
use Rattle.warg_merkle.specs.Trees.{Side}
use Rattle.warg_merkle.specs.SparseMap.Maps.{map_path, map_root, Leads}
use Rattle.warg_merkle.specs.SparseTree.Nodes.{Sets}
use Rattle.warg_merkle.proofs.SparseMapLemmas.Ways.{one_key}
use Rattle.warg_transparency.specs.Heads.{head_leaf}
use Rattle.warg_transparency.specs.MapTree.{way_of}
use Rattle.warg_transparency.specs.MapLeaves.{leaf_read}
use Rattle.warg_transparency.specs.RegistryTrees.{HasHashes, HasNone, IsHead, IsMapOf, IsMapRoot, ProvesHead, leaf_of}
use Rattle.warg_transparency.proofs.Encodings.{leaf_reads_back}
use Rattle.warg_transparency.proofs.MapLeafLemmas.{is_same_way}

one_algorithm : (a b : HashAlgorithm) → a ≡ b
one_algorithm Sha256 Sha256 = refl

-- hashes of the same bytes are one
pub one_hash : (hash other : AnyHash) → hash.bytes ≡ other.bytes → hash ≡ other
one_hash hash other e = λ i. record { algorithm = one_algorithm hash.algorithm other.algorithm i; bytes = e i }

-- logs with one way are one
same_log : (id other : LogId) → IsHash id.hash → IsHash other.hash → way_of id ≡ way_of other → id ≡ other
same_log id other is other_is e =
    let hash : id.hash ≡ other.hash = one_hash id.hash other.hash (one_key id.hash.bytes other.hash.bytes is.len other_is.len is.fits other_is.fits e) in
    λ i. record { hash = hash i }

-- what a leaf of one log is not, no leaf of its way is
other_way : (leaf : LogLeaf) (id : LogId) → HasHashes leaf → IsHash id.hash → leaf.log_id ≢ id → way_of leaf.log_id ≢ way_of id
other_way leaf id is id_is differ = λ e. differ (same_log leaf.log_id id is.log_id id_is e)

other_ways : (leaves : List LogLeaf) (id : LogId) → All HasHashes leaves → IsHash id.hash → HasNone leaves id → All (λ leaf. way_of leaf.log_id ≢ way_of id) leaves
other_ways [] id are is none = All-nil (λ (l : LogLeaf). way_of l.log_id ≢ way_of id)
other_ways (leaf ∷ leaves) id are is none =
    All-cons (λ (l : LogLeaf). way_of l.log_id ≢ way_of id) leaf leaves
    (other_way leaf id (All-head HasHashes leaf leaves are) is (All-head (λ (l : LogLeaf). l.log_id ≢ id) leaf leaves none))
    (other_ways leaves id (All-tail HasHashes leaf leaves are) is (All-tail (λ (l : LogLeaf). l.log_id ≢ id) leaf leaves none))

-- by their ways leaves are of other logs
other_logs : (leaves : List LogLeaf) (id : LogId) → All (λ leaf. way_of leaf.log_id ≢ way_of id) leaves → HasNone leaves id
other_logs [] id none = All-nil (λ (l : LogLeaf). l.log_id ≢ id)
other_logs (leaf ∷ leaves) id none =
    All-cons (λ (l : LogLeaf). l.log_id ≢ id) leaf leaves
    (λ e. All-head (λ (l : LogLeaf). way_of l.log_id ≢ way_of id) leaf leaves none (ap way_of e))
    (other_logs leaves id (All-tail (λ (l : LogLeaf). way_of l.log_id ≢ way_of id) leaf leaves none))

-- a leaf that is the last with its way, or no leaf has it
pub record LastOn (leaves : List LogLeaf) (way : List Side) : Type 0 where
  pub leaf : LogLeaf
  pub is_head : IsHead leaves leaf.log_id leaf.record_id
  pub on_way : way_of leaf.log_id ≡ way

before_more : (first : LogLeaf) (leaves : List LogLeaf) (id : LogId) (record_id : RecordId) → IsHead leaves id record_id → IsHead (first ∷ leaves) id record_id
before_more first leaves id record_id head = record { before = first ∷ head.before; after = head.after; parts = ap (λ ls. first ∷ ls) head.parts; last = head.last }

last_on : (leaves : List LogLeaf) (way : List Side) → LastOn leaves way ⊎ All (λ leaf. way_of leaf.log_id ≢ way) leaves
last_on [] way = inr (All-nil (λ (l : LogLeaf). way_of l.log_id ≢ way))
last_on (leaf ∷ leaves) way = elim (last_on leaves way) [
  | inl found ↦ inl (record { leaf = found.leaf; is_head = before_more leaf leaves found.leaf.log_id found.leaf.record_id found.is_head; on_way = found.on_way })
  | inr none ↦ elim (is_same_way (way_of leaf.log_id) way) [
    | inl same ↦ inl (record {
      leaf = leaf;
      is_head = record { before = []; after = leaves; parts = refl; last = other_logs leaves leaf.log_id (subst (λ w. All (λ l. way_of l.log_id ≢ w) leaves) (sym same) none) };
      on_way = same;
    })
    | inr differ ↦ inr (All-cons (λ (l : LogLeaf). way_of l.log_id ≢ way) leaf leaves differ none)
  ]
]

-- leaves have one map
pub one_map : (leaves : List LogLeaf) (m n : List Side → Option (List ℕ)) → IsMapOf leaves m → IsMapOf leaves n → m ≡ n
one_map leaves m n is other_is = λ i way. same_at way i
  where
    same_at : (way : List Side) → m way ≡ n way
    same_at way = elim (last_on leaves way) [
      | inl found ↦ sym (ap m found.on_way) ∙ is.heads found.leaf.log_id found.leaf.record_id found.is_head ∙ sym (other_is.heads found.leaf.log_id found.leaf.record_id found.is_head) ∙ ap n found.on_way
      | inr none ↦ is.others way none ∙ sym (other_is.others way none)
    ]

-- a fact of each element of two lists in a row is one of each element of both
both_parts : {X : Type 0} (P : X → Type 0) (xs ys : List X) → All P (xs ++ ys) → All P xs × All P ys
both_parts P [] ys all = (All-nil P, all)
both_parts P (x ∷ xs) ys all = let rest = both_parts P xs ys (All-tail P x (xs ++ ys) all) in (All-cons P x xs (All-head P x (xs ++ ys) all) rest.0, rest.1)

-- where an element stands in a list with one more at the end: it is that one, or stands before it
pub record StandsBefore {X : Type 0} (xs before after : List X) (x y : X) : Type 0 where
  pub rest : List X
  pub is_after : after ≡ rest ++ y ∷ []
  pub parts : xs ≡ before ++ x ∷ rest

no_room : {X : Type 0} (y b x : X) (before after : List X) → y ∷ [] ≡ b ∷ (before ++ x ∷ after) → ⊥
no_room y b x [] after e = cc
no_room y b x (c ∷ before) after e = cc

same_rest : {X : Type 0} (x y : X) (xs ys : List X) → x ∷ xs ≡ y ∷ ys → (x ≡ y) × (xs ≡ ys)
same_rest x y xs ys e = (cc, cc)

stands : {X : Type 0} (xs before after : List X) (x y : X) → xs ++ y ∷ [] ≡ before ++ x ∷ after → ((after ≡ []) × (y ≡ x)) ⊎ StandsBefore xs before after x y
stands [] [] after x y e = let same = same_rest y x [] after e in inl (sym same.1, same.0)
stands [] (b ∷ before) after x y e = absurd (no_room y b x before after e)
stands (z ∷ xs) [] after x y e =
    let same = same_rest z x (xs ++ y ∷ []) after e in
    inr (record { rest = xs; is_after = sym same.1; parts = ap (λ w. w ∷ xs) same.0 })
stands (z ∷ xs) (b ∷ before) after x y e =
    let same = same_rest z b (xs ++ y ∷ []) (before ++ x ∷ after) e in
    elim (stands xs before after x y same.1) [
      | inl last ↦ inl last
      | inr found ↦ inr (record { rest = found.rest; is_after = found.is_after; parts = ap (λ w. w ∷ xs) same.0 ∙ ap (λ ws. b ∷ ws) found.parts })
    ]

head_hashes : (leaves : List LogLeaf) (id : LogId) (record_id : RecordId) → All HasHashes leaves → IsHead leaves id record_id → HasHashes (leaf_of id record_id)
head_hashes leaves id record_id are head =
    All-head HasHashes (leaf_of id record_id) head.after (both_parts HasHashes head.before (leaf_of id record_id ∷ head.after) (subst (All HasHashes) head.parts are)).1

-- the map of one leaf more has its record at the end of its log's way
module _ (leaves : List LogLeaf) (leaf : LogLeaf) (m n : List Side → Option (List ℕ)) (are : All HasHashes leaves) (is : HasHashes leaf) (map_is : IsMapOf leaves m) (sets : Sets m n (way_of leaf.log_id) (map_leaf_encoding_of (head_leaf leaf.record_id))) where
  new_head : (id : LogId) (record_id : RecordId) → leaf ≡ leaf_of id record_id → n (way_of id) ≡ Some (map_leaf_encoding_of (head_leaf record_id))
  new_head id record_id same =
      ap (λ (l : LogLeaf). n (way_of l.log_id)) (sym same) ∙ sets.changed ∙ ap (λ (l : LogLeaf). Some (map_leaf_encoding_of (head_leaf l.record_id))) same

  old_head : (id : LogId) (record_id : RecordId) (before after : List LogLeaf) → HasNone after id → StandsBefore leaves before after (leaf_of id record_id) leaf → n (way_of id) ≡ Some (map_leaf_encoding_of (head_leaf record_id))
  old_head id record_id before after last found =
      let none = both_parts (λ (l : LogLeaf). l.log_id ≢ id) found.rest (leaf ∷ []) (subst (λ ls. HasNone ls id) found.is_after last) in
      let head : IsHead leaves id record_id = record { before = before; after = found.rest; parts = found.parts; last = none.0 } in
      let hashes = head_hashes leaves id record_id are head in
      sets.others (way_of id) (λ e. other_way leaf id is hashes.log_id (All-head (λ (l : LogLeaf). l.log_id ≢ id) leaf [] none.1) (sym e)) ∙ map_is.heads id record_id head

  pub pushed : IsMapOf (leaves ++ leaf ∷ []) n
  pushed = record {
    heads = λ id record_id head. elim (stands leaves head.before head.after (leaf_of id record_id) leaf head.parts) [
      | inl last ↦ new_head id record_id last.1
      | inr found ↦ old_head id record_id head.before head.after head.last found
    ];
    others = λ way none.
        let parts = both_parts (λ (l : LogLeaf). way_of l.log_id ≢ way) leaves (leaf ∷ []) none in
        sets.others way (λ e. All-head (λ (l : LogLeaf). way_of l.log_id ≢ way) leaf [] parts.1 (sym e)) ∙ map_is.others way parts.0;
  }

-- a head stands behind the first leaf, or is that one
split : (first : LogLeaf) (leaves before after : List LogLeaf) (x : LogLeaf) → first ∷ leaves ≡ before ++ x ∷ after → ((first ≡ x) × (leaves ≡ after)) ⊎ ((rest : List LogLeaf) × (leaves ≡ rest ++ x ∷ after))
split first leaves [] after x e = inl (same_rest first x leaves after e)
split first leaves (b ∷ before) after x e = inr (before, (same_rest first b leaves (before ++ x ∷ after) e).1)

-- a log with a head has a leaf
no_head : (leaves : List LogLeaf) (id : LogId) (record_id : RecordId) → IsHead leaves id record_id → HasNone leaves id → ⊥
no_head leaves id record_id head none =
    All-head (λ (l : LogLeaf). l.log_id ≢ id) (leaf_of id record_id) head.after (both_parts (λ (l : LogLeaf). l.log_id ≢ id) head.before (leaf_of id record_id ∷ head.after) (subst (λ ls. HasNone ls id) head.parts none)).1 refl

-- the map of one leaf more in front
module _ (leaf : LogLeaf) (leaves : List LogLeaf) (m : List Side → Option (List ℕ)) (are : All HasHashes leaves) (is : HasHashes leaf) (map_is : IsMapOf leaves m) where
  -- the first of its log: the map has its record at the end of the log's way
  pub put_before : (n : List Side → Option (List ℕ)) → HasNone leaves leaf.log_id → Sets m n (way_of leaf.log_id) (map_leaf_encoding_of (head_leaf leaf.record_id)) → IsMapOf (leaf ∷ leaves) n
  put_before n alone sets = record {
    heads = λ id record_id head. elim (split leaf leaves head.before head.after (leaf_of id record_id) head.parts) [
      | inl first ↦ new_head leaves leaf m n are is map_is sets id record_id first.0
      | inr found ↦
          let old : IsHead leaves id record_id = record { before = found.0; after = head.after; parts = found.1; last = head.last } in
          let none = (both_parts (λ (l : LogLeaf). l.log_id ≢ leaf.log_id) found.0 (leaf_of id record_id ∷ head.after) (subst (λ ls. HasNone ls leaf.log_id) found.1 alone)).1 in
          let differ = All-head (λ (l : LogLeaf). l.log_id ≢ leaf.log_id) (leaf_of id record_id) head.after none in
          sets.others (way_of id) (other_way (leaf_of id record_id) leaf.log_id (head_hashes leaves id record_id are old) is.log_id differ) ∙ map_is.heads id record_id old
    ];
    others = λ way none.
        sets.others way (λ e. All-head (λ (l : LogLeaf). way_of l.log_id ≢ way) leaf leaves none (sym e)) ∙ map_is.others way (All-tail (λ (l : LogLeaf). way_of l.log_id ≢ way) leaf leaves none);
  }

  -- one before another of its log: the map is as it was
  pub passed_over : (record_id : RecordId) → IsHead leaves leaf.log_id record_id → IsMapOf (leaf ∷ leaves) m
  passed_over last later = record {
    heads = λ id record_id head. elim (split leaf leaves head.before head.after (leaf_of id record_id) head.parts) [
      | inl first ↦
          let none : HasNone leaves id = subst (λ ls. HasNone ls id) (sym first.1) head.last in
          absurd (no_head leaves leaf.log_id last later (subst (HasNone leaves) (sym (ap (λ (l : LogLeaf). l.log_id) first.0)) none))
      | inr found ↦ map_is.heads id record_id record { before = found.0; after = head.after; parts = found.1; last = head.last }
    ];
    others = λ way none. map_is.others way (All-tail (λ (l : LogLeaf). way_of l.log_id ≢ way) leaf leaves none);
  }

-- the map of no leaves
pub of_none : (m : List Side → Option (List ℕ)) → ((way : List Side) → m way ≡ None) → IsMapOf [] m
of_none m empty = record { heads = λ id record_id head. absurd (no_parts head.before (leaf_of id record_id) head.after head.parts); others = λ way none. empty way }
  where
    no_parts : (before : List LogLeaf) (x : LogLeaf) (after : List LogLeaf) → [] ≡ before ++ x ∷ after → ⊥
    no_parts [] x after e = cc
    no_parts (b ∷ before) x after e = cc

-- the leaf whose encoding the map has is that of the log's last record
one_head : (leaf : MapLeaf) (record_id : RecordId) → IsHash leaf.record_id.hash → IsHash record_id.hash → map_leaf_encoding_of leaf ≡ map_leaf_encoding_of (head_leaf record_id) → record_id ≡ leaf.record_id
one_head leaf record_id is other_is e =
    let read : Some (head_leaf record_id) ≡ Some leaf = sym (leaf_reads_back (head_leaf record_id) other_is) ∙ ap leaf_read (sym e) ∙ leaf_reads_back leaf is in
    same_record (head_leaf record_id) leaf read
  where
    same_record : (a b : MapLeaf) → Some a ≡ Some b → a.record_id ≡ b.record_id
    same_record a b e = let same : a ≡ b = cc in ap (λ (l : MapLeaf). l.record_id) same

module _ (leaves : List LogLeaf) (m : List Side → Option (List ℕ)) (id : LogId) (are : All HasHashes leaves) (id_is : IsHash id.hash) (map_is : IsMapOf leaves m) where
  log_on : LastOn leaves (way_of id) → (record_id : RecordId) × IsHead leaves id record_id
  log_on found =
      let hashes = head_hashes leaves found.leaf.log_id found.leaf.record_id are found.is_head in
      let same : found.leaf.log_id ≡ id = same_log found.leaf.log_id id hashes.log_id id_is found.on_way in
      (found.leaf.record_id, subst (λ i. IsHead leaves i found.leaf.record_id) same found.is_head)

  -- what the map has of a log is its last record, if it has one
  pub head_found : (leaf : MapLeaf) → IsHash leaf.record_id.hash → Some (map_leaf_encoding_of leaf) ≡ m (way_of id) → IsHead leaves id leaf.record_id
  head_found leaf is there = elim (last_on leaves (way_of id)) [
    | inl found ↦
        let head = log_on found in
        let both : Some (map_leaf_encoding_of leaf) ≡ Some (map_leaf_encoding_of (head_leaf head.0)) = there ∙ map_is.heads id head.0 head.1 in
        let same : map_leaf_encoding_of leaf ≡ map_leaf_encoding_of (head_leaf head.0) = cc in
        subst (IsHead leaves id) (one_head leaf head.0 is (head_hashes leaves id head.0 are head.1).record_id same) head.1
    | inr none ↦ let no : Some (map_leaf_encoding_of leaf) ≡ None = there ∙ map_is.others (way_of id) none in absurd (cc no)
  ]

  pub none_found : None ≡ m (way_of id) → HasNone leaves id
  none_found there = elim (last_on leaves (way_of id)) [
    | inl found ↦
        let head = log_on found in
        let no : None ≡ Some (map_leaf_encoding_of (head_leaf head.0)) = there ∙ map_is.heads id head.0 head.1 in absurd (cc no)
    | inr none ↦ other_logs leaves id none
  ]

  -- what it has of a log is of a last record
  pub last_found : (value : List ℕ) → Some value ≡ m (way_of id) → (record_id : RecordId) × IsHead leaves id record_id
  last_found value there = elim (last_on leaves (way_of id)) [
    | inl found ↦ log_on found
    | inr none ↦ let no : Some value ≡ None = there ∙ map_is.others (way_of id) none in absurd (cc no)
  ]

  -- the map's own path of a log
  module _ (path : List (List ℕ)) (own : path ≡ map_path sha256 m (way_of id)) (leads : Leads sha256 (m (way_of id)) id.hash.bytes path (map_root sha256 256 m)) where
    to_root : (root : List ℕ) → IsMapRoot leaves root → Leads sha256 (m (way_of id)) id.hash.bytes path root
    to_root root is_of =
        let same : map_root sha256 256 m ≡ root = ap (map_root sha256 256) (one_map leaves m is_of.m map_is is_of.is_map) ∙ sym is_of.is_root in
        subst (λ r. Leads sha256 (m (way_of id)) id.hash.bytes path r) same leads

    pub proves_head : ProvesHead leaves id path
    proves_head = record {
      own = λ n is. own ∙ ap (λ f. map_path sha256 f (way_of id)) (one_map leaves m n map_is is);
      presence = λ record_id root head is_of. subst (λ v. Leads sha256 v id.hash.bytes path root) (map_is.heads id record_id head) (to_root root is_of);
      absence = λ root none is_of. subst (λ v. Leads sha256 v id.hash.bytes path root) (map_is.others (way_of id) (other_ways leaves id are id_is none)) (to_root root is_of);
    }

-- the same of what a call gives
pub proves_head_if : {E : Type 0} (leaves : List LogLeaf) (m : List Side → Option (List ℕ)) (id : LogId) → All HasHashes leaves → IsHash id.hash → IsMapOf leaves m → (r : Result (List (List ℕ)) E) → IfOk r (λ path. path ≡ map_path sha256 m (way_of id)) → IfOk r (λ path. Leads sha256 (m (way_of id)) id.hash.bytes path (map_root sha256 256 m)) → IfOk r (ProvesHead leaves id)
proves_head_if leaves m id are id_is map_is (Ok path) own leads = proves_head leaves m id are id_is map_is path own leads
proves_head_if leaves m id are id_is map_is (Err e) own leads = tt
