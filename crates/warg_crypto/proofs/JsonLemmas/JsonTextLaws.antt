-- What was written as a text reads back.
use Rattle.std.specs.Prelude.{◌≡◌, length, Ok, refl}
use Rattle.base64.specs.GeneralPurpose as code
use Rattle.hex.specs.Hex.{IsBytes}
use Rattle.serde_json.specs.Data.{Data}
use Rattle.warg_crypto.specs.declared.hash.AnyHash.{AnyHash}
use Rattle.warg_crypto.specs.Json.Json.{ReadsBack}
use Rattle.warg_crypto.specs.Json.JsonTexts.{hash_in, hash_json, key_in, key_json, signature_in, signature_json}
use Rattle.warg_crypto.specs.NamedBytes.{IsName, NamedBytes}
use Rattle.warg_crypto.specs.HashTextLaws.{hash_of-hash_text}
use Rattle.warg_crypto.specs.NamedBytesLaws.{named_bytes_of-named_bytes_text}
use Rattle.warg_crypto.specs.Json.JsonLaws.{ok_same}

-- thirty-two bytes
pub record IsHash (h : AnyHash) : Type 0 where
  pub len : length h.bytes ≡ 32
  pub bytes : IsBytes h.bytes

-- a name, and bytes
pub record IsNamedBytes (t : NamedBytes) : Type 0 where
  pub name : IsName t.name
  pub bytes : code.IsBytes t.bytes

pub hash_reads_back : (h : AnyHash) (d : Data) → IsHash h → hash_json h ≡ Ok d → ReadsBack hash_in (λ x y. x ≡ y) h d
hash_reads_back h d own e = record { again = h; is = rw (← ok_same _ _ e) (rw (hash_of-hash_text h own.len own.bytes) refl); equal = refl }

pub key_reads_back : (key : NamedBytes) (d : Data) → IsNamedBytes key → key_json key ≡ Ok d → ReadsBack key_in (λ x y. x ≡ y) key d
key_reads_back key d own e = record { again = key; is = rw (← ok_same _ _ e) (rw (named_bytes_of-named_bytes_text key own.name own.bytes) refl); equal = refl }

pub signature_reads_back : (s : NamedBytes) (d : Data) → IsNamedBytes s → signature_json s ≡ Ok d → ReadsBack signature_in (λ x y. x ≡ y) s d
signature_reads_back s d own e = record { again = s; is = rw (← ok_same _ _ e) (rw (named_bytes_of-named_bytes_text s own.name own.bytes) refl); equal = refl }
