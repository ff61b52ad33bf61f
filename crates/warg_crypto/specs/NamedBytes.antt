-- Bytes under the name of an algorithm, and their text: the name, a colon, base64.
use Rattle.std.specs.Prelude.{ℕ, ◌≡◌, ◌≢◌, ◌<◌, ◌==◌, ◌&&◌, Bool, false, if◌then◌else◌, List, ◌∷◌, ◌++◌, length, Result, Ok, Err}
use Rattle.std.specs.List.{list_any, before_first, after_first, position_or_len}
use Rattle.std.specs.Str.{bytes_eq}
use Rattle.base64.specs.Engines.{standard}
use Rattle.base64.specs.GeneralPurpose.{encode_of, decode_of}
use Rattle.base64.specs.declared.decode.DecodeError.{DecodeError}
use Rattle.warg_crypto.specs.HashText.{is_colon, hash_text, sha256_hash_of}
use Rattle.warg_crypto.specs.declared.signing.algorithm_bytes.NamedBytesError.{NamedBytesError}
use Rattle.warg_crypto.specs.declared.signing.algorithm_bytes.NamedBytesError.TheVariants as fault

-- what keys and signatures hold
pub record NamedBytes : Type 0 where
  pub name : List ℕ
  pub bytes : List ℕ

-- the name of an algorithm: some bytes, none of them a colon
pub record IsName (name : List ℕ) : Type 0 where
  pub nonempty : 0 < length name
  pub no_colon : list_any is_colon name ≡ false

-- whether two keys or two signatures are the same: in name and in bytes
abbrev pub same_named_bytes : NamedBytes → NamedBytes → Bool
same_named_bytes a b = bytes_eq a.name b.name && bytes_eq a.bytes b.bytes

-- the text
abbrev pub named_bytes_text : NamedBytes → List ℕ
named_bytes_text t = t.name ++ 58 ∷ encode_of standard t.bytes

-- the name with what the base64 spells, or that it is bad
abbrev pub named_bytes_or_bad : List ℕ → Result (List ℕ) DecodeError → Result NamedBytes NamedBytesError
named_bytes_or_bad name (Ok bytes) = Ok (record { name = name; bytes = bytes })
named_bytes_or_bad name (Err e) = Err fault.BadBase64

-- what a name and what stands behind the colon say
abbrev pub named_bytes_of_parts : Bool → List ℕ → Result (List ℕ) DecodeError → Result NamedBytes NamedBytesError
named_bytes_of_parts is_colon_missing name decoded =
    if is_colon_missing then Err fault.MissingColon
    else if length name == 0 then Err fault.EmptyAlgorithm
    else named_bytes_or_bad name decoded

-- what a text says, or its first fault: the text is cut at its first colon
abbrev pub named_bytes_of : List ℕ → Result NamedBytes NamedBytesError
named_bytes_of text =
    named_bytes_of_parts (position_or_len is_colon text == length text) (before_first is_colon text) (decode_of standard (after_first is_colon text))

-- a name and a colon behind it begin the text, so that its base64 is read, which takes memory
abbrev pub HasName : List ℕ → Type 0
HasName text = (named_bytes_of text ≢ Err fault.MissingColon) × (named_bytes_of text ≢ Err fault.EmptyAlgorithm)

-- the fingerprint of a key, which is its id: the text of the hash of the key's text
unfoldable pub fingerprint_of : NamedBytes → List ℕ
fingerprint_of key = hash_text (sha256_hash_of (named_bytes_text key))

-- the grammar of a key's or a signature's text: a name, a colon, and base64 that spells the bytes
pub record IsKeyText (text : List ℕ) (t : NamedBytes) : Type 0 where
  pub named : IsName t.name
  pub behind : List ℕ
  pub whole : text ≡ t.name ++ 58 ∷ behind
  pub spell : decode_of standard behind ≡ Ok t.bytes
