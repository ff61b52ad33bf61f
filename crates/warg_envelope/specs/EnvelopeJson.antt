-- The JSON of envelopes: of those that keep no bytes of their contents, and of those whose contents are bytes.
use Rattle.std.specs.Prelude.{◌≡◌, ℕ, List, codes, Result, Ok}
use Rattle.base64.specs.Engines.{standard}
use Rattle.base64.specs.GeneralPurpose.{decode_of, encode_of}
use Rattle.serde_json.specs.Data.{Data, Members, no_members, object, put, string}
use Rattle.warg_crypto.specs.Json.Json.{◌>>=◌, member_in, or_bad_text, text_in, json_result}
use Rattle.warg_crypto.specs.Json.JsonTexts.{key_id_in, key_id_json, signature_in, signature_json}
use Rattle.warg_crypto.specs.Json.Members.{put_json}
use Rattle.warg_crypto.specs.NamedBytes.{NamedBytes}
use Rattle.warg_crypto.specs.Json.Numbers.{number_in, number_json}
use Rattle.warg_crypto.specs.declared.json.error.JsonError.{JsonError}
use Rattle.warg_envelope.specs.EnvelopeData.{EnvelopeData}
use Rattle.warg_envelope.specs.declared.proto_envelope.body.PublishedProtoEnvelopeBody.{PublishedProtoEnvelopeBody}

-- contents, who signed them, and the signature
pub record SignedContents (A : Type 0) : Type 0 where
  pub contents : A
  pub key_id : List ℕ
  pub signature : NamedBytes

-- the same contents, key id and signature
pub record AreEquivalentSigned {A : Type 0} (same : A → A → Type 0) (x y : SignedContents A) : Type 0 where
  pub contents : same x.contents y.contents
  pub key_id : x.key_id ≡ y.key_id
  pub signature : x.signature ≡ y.signature

-- an envelope that keeps no bytes: `contents`, `keyId`, `signature`
abbrev pub signed_json : {A : Type 0} → (A → Result Data JsonError) → SignedContents A → Result Data JsonError
signed_json writes e = do
  contents ← put_json writes (codes "contents") e.contents no_members
  key_id ← put_json key_id_json (codes "keyId") e.key_id contents
  members ← put_json signature_json (codes "signature") e.signature key_id
  json_result (object members)

-- the envelope without bytes that the JSON says, or its first fault
abbrev pub signed_in : {A : Type 0} → (Data → Result A JsonError) → Data → Result (SignedContents A) JsonError
signed_in reads d = do
  inner ← member_in (codes "contents") d
  contents ← reads inner
  key ← member_in (codes "keyId") d
  key_id ← key_id_in key
  tag ← member_in (codes "signature") d
  signature ← signature_in tag
  json_result (record { contents = contents; key_id = key_id; signature = signature })

-- bytes: base64 of RFC 4648, with padding
abbrev pub bytes_json : List ℕ → Result Data JsonError
bytes_json bytes = json_result (string (encode_of standard bytes))

-- the bytes that a JSON text spells in such base64, or the fault
abbrev pub bytes_in : Data → Result (List ℕ) JsonError
bytes_in d = text_in d >>= λ text. or_bad_text (decode_of standard text)

-- the members of an envelope whose contents are bytes: `contentBytes`, `keyId`, `signature`
abbrev pub body_members : EnvelopeData → Result Members JsonError
body_members e = do
  bytes ← put_json bytes_json (codes "contentBytes") e.content no_members
  key_id ← put_json key_id_json (codes "keyId") e.key_id bytes
  put_json signature_json (codes "signature") e.signature key_id

-- an envelope whose contents are bytes: an object of those members
abbrev pub body_json : EnvelopeData → Result Data JsonError
body_json e = body_members e >>= λ members. json_result (object members)

-- the envelope of those members that the JSON says, or its first fault
abbrev pub body_in : Data → Result EnvelopeData JsonError
body_in d = do
  bytes ← member_in (codes "contentBytes") d
  content ← bytes_in bytes
  key ← member_in (codes "keyId") d
  key_id ← key_id_in key
  tag ← member_in (codes "signature") d
  signature ← signature_in tag
  json_result (record { content = content; key_id = key_id; signature = signature })

-- a published one: those three, and `registryIndex` as a number
abbrev pub published_json : PublishedProtoEnvelopeBody → Result Data JsonError
published_json p = do
  body ← body_members p.envelope
  members ← put_json number_json (codes "registryIndex") p.registry_index body
  json_result (object members)

-- the published envelope that the JSON says, or its first fault
abbrev pub published_in : Data → Result PublishedProtoEnvelopeBody JsonError
published_in d = do
  envelope ← body_in d
  index ← member_in (codes "registryIndex") d
  registry_index ← number_in index
  json_result (record { envelope = envelope; registry_index = registry_index })

-- members that read as the envelope, also where others stand beside them
pub record AreBodyMembers (e : EnvelopeData) (ms : Members) : Type 0 where
  pub bytes : Data
  pub key_id : Data
  pub signature : Data
  pub are : ms ≡ put (codes "signature") signature (put (codes "keyId") key_id (put (codes "contentBytes") bytes no_members))
  pub bytes_read : bytes_in bytes ≡ Ok e.content
  pub key_id_read : key_id_in key_id ≡ Ok e.key_id
  pub signature_read : signature_in signature ≡ Ok e.signature
