-- The hashes that proofs are made of are digests, so they are of bytes, and the proofs' texts are plain.
use Rattle.std.proofs.Common.{◌≡◌, ◌<◌, ◌≤◌, ◌+◌, ◌*◌, ◌-◌, ℕ, zero, suc, Bool, true, false, List, [], ◌∷◌, ◌++◌, length, take, drop, Option, arith}
use Rattle.std.specs.Prelude.{◌==◌, if◌then◌else◌, nat_lt, slice_index_or}
use Rattle.std.specs.List.{AllByRecursion, concat}
use Rattle.std.specs.Str.{bytes_eq}
use Rattle.sha2.specs.Sha256.{sha256}
use Rattle.warg_merkle.specs.MapProof.ShortForms.{is_left_out, mark_at, marks_from, others_of, short_form_of}
use Rattle.warg_merkle.specs.Extensions.{consistency_path, consistency_proof, extension, extension_within, start_index, subproof}
use Rattle.warg_merkle.specs.Trees.{Left, Right, Side, inclusion_path, inclusion_path_within, leaf_input, left_size, node_input, tree_hash, tree_hash_within}
use Rattle.warg_merkle.specs.SparseMap.Maps.{empty_root, map_path, map_root, value_input}
use Rattle.warg_transparency.specs.Texts.{log_proof_text, map_proof_text}
use Rattle.tool_laws.specs.Plain.Plain.{AreBytes, is_plain}
use Rattle.tool_laws.proofs.PlainLemmas.ByteLemmas.{bytes_append, bytes_concat, sha256_bytes}
use Rattle.tool_laws.proofs.PlainLemmas.WordLemmas.{base64_plain}

-- each of the hashes is of bytes
abbrev pub AllBytes : List (List ℕ) → Type 0
AllBytes hashes = AllByRecursion AreBytes hashes

-- ---- trees

within_bytes : (f : ℕ) (leaves : List (List ℕ)) → AreBytes (tree_hash_within sha256 f leaves)
unfolding tree_hash_within
within_bytes f [] = sha256_bytes []
within_bytes f (d ∷ []) = sha256_bytes (leaf_input d)
within_bytes zero (d ∷ e ∷ more) = sha256_bytes []
within_bytes (suc f) (d ∷ e ∷ more) =
    let leaves : List (List ℕ) = d ∷ e ∷ more in
    let k : ℕ = left_size (length leaves) in
    sha256_bytes (node_input (tree_hash_within sha256 f (take k leaves)) (tree_hash_within sha256 f (drop k leaves)))

-- the root of a tree
pub tree_bytes : (leaves : List (List ℕ)) → AreBytes (tree_hash sha256 leaves)
unfolding tree_hash
tree_bytes leaves = within_bytes (length leaves) leaves

more_bytes : (hashes : List (List ℕ)) (last : List ℕ) → AllBytes hashes → AreBytes last → AllBytes (hashes ++ last ∷ [])
more_bytes [] last h b = (b, tt)
more_bytes (it ∷ hashes) last h b = (h.0, more_bytes hashes last h.1 b)

either_bytes : (b : Bool) (x y : List (List ℕ)) → AllBytes x → AllBytes y → AllBytes (if b then x else y)
either_bytes true x y h k = h
either_bytes false x y h k = k

path_within : (f i : ℕ) (leaves : List (List ℕ)) → AllBytes (inclusion_path_within sha256 f i leaves)
unfolding inclusion_path_within
path_within zero i leaves = tt
path_within (suc f) i leaves =
    let k : ℕ = left_size (length leaves) in
    let left : List (List ℕ) = inclusion_path_within sha256 f i (take k leaves) in
    let right : List (List ℕ) = inclusion_path_within sha256 f (i - k) (drop k leaves) in
    let left_end : List ℕ = tree_hash sha256 (drop k leaves) in
    let right_end : List ℕ = tree_hash sha256 (take k leaves) in
    either_bytes (nat_lt 1 (length leaves)) (if nat_lt i k then left ++ left_end ∷ [] else right ++ right_end ∷ []) []
    (either_bytes (nat_lt i k) (left ++ left_end ∷ []) (right ++ right_end ∷ [])
    (more_bytes left left_end (path_within f i (take k leaves)) (tree_bytes (drop k leaves)))
    (more_bytes right right_end (path_within f (i - k) (drop k leaves)) (tree_bytes (take k leaves)))) tt

pub inclusion_bytes : (i : ℕ) (leaves : List (List ℕ)) → AllBytes (inclusion_path sha256 i leaves)
unfolding inclusion_path
inclusion_bytes i leaves = path_within (length leaves) i leaves

extension_all : (f m : ℕ) (leaves : List (List ℕ)) → AllBytes (extension_within sha256 f m leaves)
unfolding extension_within
extension_all zero m leaves = tt
extension_all (suc f) m leaves =
    let k : ℕ = left_size (length leaves) in
    let right : List (List ℕ) = extension_within sha256 f (m - k) (drop k leaves) in
    let left : List (List ℕ) = extension_within sha256 f m (take k leaves) in
    let right_end : List ℕ = tree_hash sha256 (take k leaves) in
    let left_end : List ℕ = tree_hash sha256 (drop k leaves) in
    either_bytes (nat_lt m (length leaves)) (if nat_lt k m then right ++ right_end ∷ [] else left ++ left_end ∷ []) (tree_hash sha256 leaves ∷ [])
    (either_bytes (nat_lt k m) (right ++ right_end ∷ []) (left ++ left_end ∷ [])
    (more_bytes right right_end (extension_all f (m - k) (drop k leaves)) (tree_bytes (take k leaves)))
    (more_bytes left left_end (extension_all f m (take k leaves)) (tree_bytes (drop k leaves)))) (tree_bytes leaves, tt)

extension_bytes : (m : ℕ) (leaves : List (List ℕ)) → AllBytes (extension sha256 m leaves)
unfolding extension
extension_bytes m leaves = extension_all (length leaves) m leaves

rest_bytes : (hashes : List (List ℕ)) → AllBytes hashes → AllBytes (drop 1 hashes)
rest_bytes [] h = tt
rest_bytes (it ∷ hashes) h = h.1

pub consistency_bytes : (first : ℕ) (leaves : List (List ℕ)) → AllBytes (consistency_proof sha256 first leaves)
consistency_bytes first leaves =
    either_bytes (first == 0) [] (subproof sha256 first leaves true) tt
    (either_bytes (first == length leaves) [] (consistency_path sha256 first leaves) tt
    (either_bytes (start_index 64 (first - 1) == 0) (drop 1 (extension sha256 first leaves)) (extension sha256 first leaves)
    (rest_bytes (extension sha256 first leaves) (extension_bytes first leaves)) (extension_bytes first leaves)))

-- ---- maps

-- the root of a map
pub root_bytes : (depth : ℕ) (m : List Side → Option (List ℕ)) → AreBytes (map_root sha256 depth m)
unfolding map_root
root_bytes zero m = sha256_bytes (value_input (m []))
root_bytes (suc depth) m =
    sha256_bytes (node_input (map_root sha256 depth (λ way. m (Left ∷ way))) (map_root sha256 depth (λ way. m (Right ∷ way))))

pub way_bytes : (m : List Side → Option (List ℕ)) (way : List Side) → AllBytes (map_path sha256 m way)
unfolding map_path
way_bytes m [] = tt
way_bytes m (Left ∷ way) =
    more_bytes (map_path sha256 (λ w. m (Left ∷ w)) way) (map_root sha256 (length way) (λ w. m (Right ∷ w))) (way_bytes (λ w. m (Left ∷ w)) way)
    (root_bytes (length way) (λ w. m (Right ∷ w)))
way_bytes m (Right ∷ way) =
    more_bytes (map_path sha256 (λ w. m (Right ∷ w)) way) (map_root sha256 (length way) (λ w. m (Left ∷ w))) (way_bytes (λ w. m (Right ∷ w)) way)
    (root_bytes (length way) (λ w. m (Left ∷ w)))

choice_small : (b : Bool) → (if b then 1 else 0) ≤ 1
choice_small true = omega arith
choice_small false = omega arith

mark_small : (path : List (List ℕ)) (height : ℕ) → mark_at sha256 path height ≤ 1
mark_small path height = choice_small (bytes_eq (slice_index_or path height []) (empty_root sha256 height))

eight_small : (a b c d e f g h : ℕ) → a ≤ 1 → b ≤ 1 → c ≤ 1 → d ≤ 1 → e ≤ 1 → f ≤ 1 → g ≤ 1 → h ≤ 1
    → 128 * a + 64 * b + 32 * c + 16 * d + 8 * e + 4 * f + 2 * g + h < 256
eight_small a b c d e f g h i j k l m n o p = omega arith

marks_bytes : (n height : ℕ) (path : List (List ℕ)) → AreBytes (marks_from sha256 n height path)
unfolding marks_from
marks_bytes zero height path = tt
marks_bytes (suc n) height path =
    let mark : ℕ → ℕ = mark_at sha256 path in
    let small : (i : ℕ) → mark i ≤ 1 = mark_small path in (
      eight_small (mark height) (mark (height + 1)) (mark (height + 2)) (mark (height + 3)) (mark (height + 4)) (mark (height + 5)) (mark (height + 6))
          (mark (height + 7)) (small height) (small (height + 1)) (small (height + 2)) (small (height + 3)) (small (height + 4)) (small (height + 5))
          (small (height + 6)) (small (height + 7)),
      marks_bytes n (height + 8) path,
    )

others_bytes : (height : ℕ) (bits : List ℕ) (path : List (List ℕ)) → AllBytes path → AllBytes (others_of height bits path)
unfolding others_of
others_bytes height bits [] h = tt
others_bytes height bits (it ∷ path) h =
    either_bytes (is_left_out bits height) (others_of (suc height) bits path) (it ∷ others_of (suc height) bits path)
    (others_bytes (suc height) bits path h.1) (h.0, others_bytes (suc height) bits path h.1)

short_bytes : (path : List (List ℕ)) → AllBytes path → AreBytes (short_form_of sha256 path)
unfolding short_form_of
short_bytes path h =
    let marks : List ℕ = marks_from sha256 32 0 path in
    bytes_append marks (concat (others_of 0 marks path)) (marks_bytes 32 0 path) (bytes_concat (others_of 0 marks path) (others_bytes 0 marks path h))

-- ---- texts

pub log_proof_plain : (hashes : List (List ℕ)) → AllBytes hashes → is_plain (log_proof_text hashes) ≡ true
log_proof_plain hashes h = base64_plain (concat hashes) (bytes_concat hashes h)

pub map_proof_plain : (path : List (List ℕ)) → AllBytes path → is_plain (map_proof_text path) ≡ true
map_proof_plain path h = base64_plain (short_form_of sha256 path) (short_bytes path h)
