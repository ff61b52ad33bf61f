-- The prefix encodings of hashes and of leaves of a map.
use Rattle.std.proofs.Common.{arith, refl, sym, ap, ◌≡◌, ◌∙◌, ℕ, List, ◌∷◌, ◌++◌, codes, length, drop, Some, length-append}
use Rattle.hex.specs.Hex.{IsBytes, encode_lower, lower_digits}
use Rattle.hex.proofs.HexLemmas.{length-encode_with, decode_of-encode_lower}
use Rattle.warg_crypto.specs.Prefix.{str_of}
use Rattle.warg_crypto.proofs.PrefixLemmas.{one_group}
use Rattle.warg_crypto.specs.declared.hash.HashAlgorithm.{HashAlgorithm}
use Rattle.warg_crypto.specs.declared.hash.HashAlgorithm.TheVariants.{Sha256}
use Rattle.warg_registry.specs.declared.leaf.MapLeaf.{MapLeaf}
use Rattle.warg_registry.specs.PrefixEncodings.{IsHash, map_leaf_encoding_of}
use Rattle.warg_transparency.specs.MapLeaves.{leaf_of_digits, leaf_read, IsLeafEncoding}

-- a hash has 64 digits
pub digit_count : (bytes : List ℕ) → length bytes ≡ 32 → length (encode_lower bytes) ≡ 64
digit_count bytes len = omega (arith, length-encode_with lower_digits bytes)

-- the text of a hash stands behind its length, one byte
pub tagged : (bytes : List ℕ) → length bytes ≡ 32 → 71 ∷ (codes "sha256:" ++ encode_lower bytes) ≡ str_of (codes "sha256:" ++ encode_lower bytes)
tagged bytes len =
    let twice : length (encode_lower bytes) ≡ 64 = digit_count bytes len in
    let whole : length (codes "sha256:" ++ encode_lower bytes) ≡ 71 = rw (length-append (codes "sha256:") (encode_lower bytes), twice) refl in
    rw (whole, one_group 71 (omega arith)) refl

digits_read : (a : HashAlgorithm) (bytes : List ℕ) → length bytes ≡ 32 → IsBytes bytes
    → leaf_of_digits (encode_lower bytes) ≡ Some (record { record_id = record { hash = record { algorithm = a; bytes = bytes } } })
digits_read Sha256 bytes len fits = rw (decode_of-encode_lower bytes fits, digit_count bytes len) refl

-- the prefix encoding of a leaf reads as the leaf
pub leaf_reads_back : (leaf : MapLeaf) → IsHash leaf.record_id.hash → leaf_read (map_leaf_encoding_of leaf) ≡ Some leaf
unfolding leaf_read
leaf_reads_back leaf is =
    let digits : drop 24 (map_leaf_encoding_of leaf) ≡ encode_lower leaf.record_id.hash.bytes = ap (λ (t : List ℕ). drop 24 (codes "WARG-MAP-LEAF-V0" ++ t)) (sym (tagged leaf.record_id.hash.bytes is.len)) in
    ap leaf_of_digits digits ∙ digits_read leaf.record_id.hash.algorithm leaf.record_id.hash.bytes is.len is.fits

pub is_encoding : (leaf : MapLeaf) → IsHash leaf.record_id.hash → IsLeafEncoding (map_leaf_encoding_of leaf)
is_encoding leaf is = rw (leaf_reads_back leaf is) refl
