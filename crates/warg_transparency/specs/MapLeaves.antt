-- The values of a registry's map: the prefix encodings of leaves.
use Rattle.std.specs.Prelude.{◌≡◌, ℕ, ◌==◌, List, drop, length, Option, Some, None, Result, Ok, Err, if◌then◌else◌, option_map}
use Rattle.hex.specs.Hex.{decode_of}
use Rattle.hex.specs.declared.error.FromHexError.{FromHexError}
use Rattle.warg_crypto.specs.declared.hash.HashAlgorithm.TheVariants.{Sha256}
use Rattle.warg_registry.specs.declared.leaf.MapLeaf.{MapLeaf}
use Rattle.warg_registry.specs.PrefixEncodings.{map_leaf_encoding_of}

-- the leaf of a record whose id has these bytes
abbrev pub leaf_of_bytes : Result (List ℕ) FromHexError → Option MapLeaf
leaf_of_bytes (Ok bytes) = Some (record { record_id = record { hash = record { algorithm = Sha256; bytes = bytes } } })
leaf_of_bytes (Err fault) = None

-- the leaf of a record whose id these 64 digits spell
abbrev pub leaf_of_digits : List ℕ → Option MapLeaf
leaf_of_digits digits = if length digits == 64 then leaf_of_bytes (decode_of digits) else None

-- the leaf whose digits stand behind the first 24 bytes, which name the kind of the leaf and of its hash
unfoldable pub leaf_read : List ℕ → Option MapLeaf
leaf_read bytes = leaf_of_digits (drop 24 bytes)

-- the bytes are the prefix encoding of the leaf that they read as
abbrev pub IsLeafEncoding : List ℕ → Type 0
IsLeafEncoding bytes = option_map map_leaf_encoding_of (leaf_read bytes) ≡ Some bytes
