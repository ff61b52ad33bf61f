-- The short form of a path in a sparse Merkle map: 32 bytes whose bits say which siblings are roots of empty subtrees, then
-- the other siblings.
use Rattle.std.specs.Prelude.{◌≡◌, ◌≢◌, ℕ, zero, suc, ◌+◌, ◌*◌, ◌/◌, ◌<◌, ◌≤◌, ◌↔◌, ◌==◌, nat_lt, Bool, false, not, ◌&&◌, ◌||◌, if◌then◌else◌, IsTrue, List, [], ◌∷◌, ◌++◌, length, take, drop, slice_index_or, Result, Ok, Err}
use Rattle.std.specs.List.{All, concat}
use Rattle.std.specs.Simd.{first_chunks}
use Rattle.std.specs.Str.{bytes_eq}
use Rattle.warg_merkle.specs.SparseMap.Maps.{is_right, empty_root}
use Rattle.warg_merkle.specs.declared.map_proof.error.MapProofError.{MapProofError}
use Rattle.warg_merkle.specs.declared.map_proof.error.MapProofError.TheVariants.{TooShort, TooLong, EmptySibling}

-- whether the bits say that the sibling at a height from the leaf up is left out: the first bit of the first byte is at the leaf
abbrev pub is_left_out : List ℕ → ℕ → Bool
is_left_out bits height = is_right bits height

-- how many siblings the bits do not leave out, at that many heights from a height up
unfoldable pub others_count : ℕ → ℕ → List ℕ → ℕ
others_count zero height bits = 0
others_count (suc n) height bits = (if is_left_out bits height then 0 else 1) + others_count n (suc height) bits

-- how long the short form is whose first 32 bytes these are
abbrev pub short_form_len : List ℕ → ℕ
short_form_len bytes = 32 + 32 * others_count 256 0 (take 32 bytes)

-- the hashes that stand behind the first 32 bytes
abbrev pub others_in : List ℕ → List (List ℕ)
others_in bytes = first_chunks 32 (length (drop 32 bytes) / 32) (drop 32 bytes)

-- the siblings of a path from a height up that the bits do not leave out
unfoldable pub others_of : ℕ → List ℕ → List (List ℕ) → List (List ℕ)
others_of height bits [] = []
others_of height bits (p ∷ ps) = if is_left_out bits height then others_of (suc height) bits ps else p ∷ others_of (suc height) bits ps

-- the others that are left above a height
abbrev pub others_above : ℕ → List ℕ → List (List ℕ) → List (List ℕ)
others_above height bits others = if is_left_out bits height then others else drop 1 others

module _ (hash : List ℕ → List ℕ) where
  -- the sibling at a height, where the others begin with the first that is not left out there or above
  abbrev pub sibling_at : ℕ → List ℕ → List (List ℕ) → List ℕ
  sibling_at height bits others = if is_left_out bits height then empty_root hash height else slice_index_or others 0 []

  -- the siblings at that many heights from a height up
  unfoldable pub siblings : ℕ → ℕ → List ℕ → List (List ℕ) → List (List ℕ)
  siblings zero height bits others = []
  siblings (suc n) height bits others = sibling_at height bits others ∷ siblings n (suc height) bits (others_above height bits others)

  -- the path that the bits and the others stand for
  unfoldable pub full_path : List ℕ → List (List ℕ) → List (List ℕ)
  full_path bits others = siblings 256 0 bits others

  -- at that many heights from a height up there is an other for each sibling that is not left out and no more, and none is
  -- the root of the empty subtree of its height
  unfoldable pub IsCanonical : ℕ → ℕ → List ℕ → List (List ℕ) → Type 0
  IsCanonical zero height bits others = others ≡ []
  IsCanonical (suc n) height bits others = (is_left_out bits height ≡ false → (0 < length others) × (slice_index_or others 0 [] ≢ empty_root hash height)) × IsCanonical n (suc height) bits (others_above height bits others)

  -- the bits of 256 siblings and the hashes that they do not leave out
  pub record AreParts (bits : List ℕ) (others : List (List ℕ)) : Type 0 where
    pub size : length bits ≡ 32
    pub hashes : All (λ other. length other ≡ 32) others
    pub canonical : IsCanonical 256 0 bits others

  -- the bytes are the short form of the path: exactly the siblings that are roots of empty subtrees are left out
  pub record IsShortForm (path : List (List ℕ)) (bytes : List ℕ) : Type 0 where
    pub heights : length path ≡ 256
    pub whole : 32 ≤ length bytes
    pub bits : (height : ℕ) → height < 256 → IsTrue (is_left_out (take 32 bytes) height) ↔ (slice_index_or path height [] ≡ empty_root hash height)
    pub others : drop 32 bytes ≡ concat (others_of 0 (take 32 bytes) path)

  -- the bytes are a short form: as long as their bits call for, and none of the hashes is the root of an empty subtree
  pub record IsShort (bytes : List ℕ) : Type 0 where
    pub size : length bytes ≡ short_form_len bytes
    pub canonical : IsCanonical 256 0 (take 32 bytes) (others_in bytes)

  -- the path that they are the short form of
  abbrev pub path_of : List ℕ → List (List ℕ)
  path_of bytes = full_path (take 32 bytes) (others_in bytes)

  -- whether there is an other for each sibling that is not left out and no more, none the root of an empty subtree
  unfoldable pub is_canonical : ℕ → ℕ → List ℕ → List (List ℕ) → Bool
  is_canonical zero height bits others = length others == 0
  is_canonical (suc n) height bits others = (is_left_out bits height || (nat_lt 0 (length others) && not (bytes_eq (slice_index_or others 0 []) (empty_root hash height)))) && is_canonical n (suc height) bits (others_above height bits others)

  -- the path that the bytes are the short form of, or why they are none
  abbrev pub path_in : List ℕ → Result (List (List ℕ)) MapProofError
  path_in bytes = if nat_lt (length bytes) (short_form_len bytes) then Err TooShort else (if nat_lt (short_form_len bytes) (length bytes) then Err TooLong else (if is_canonical 256 0 (take 32 bytes) (others_in bytes) then Ok (path_of bytes) else Err EmptySibling))

  -- 1 where the sibling at a height is the root of the empty subtree of that height, else 0
  abbrev pub mark_at : List (List ℕ) → ℕ → ℕ
  mark_at path height = if bytes_eq (slice_index_or path height []) (empty_root hash height) then 1 else 0

  -- the byte of the marks of eight heights, the first in the highest bit
  abbrev pub marks_byte : List (List ℕ) → ℕ → ℕ
  marks_byte path h = 128 * mark_at path h + 64 * mark_at path (h + 1) + 32 * mark_at path (h + 2) + 16 * mark_at path (h + 3) + 8 * mark_at path (h + 4) + 4 * mark_at path (h + 5) + 2 * mark_at path (h + 6) + mark_at path (h + 7)

  -- that many such bytes from a height up
  unfoldable pub marks_from : ℕ → ℕ → List (List ℕ) → List ℕ
  marks_from zero height path = []
  marks_from (suc n) height path = marks_byte path height ∷ marks_from n (height + 8) path

  -- the short form of a path of 256 siblings
  unfoldable pub short_form_of : List (List ℕ) → List ℕ
  short_form_of path = marks_from 32 0 path ++ concat (others_of 0 (marks_from 32 0 path) path)
