-- Signed checkpoints of a registry as texts of JSON.
use Rattle.std.specs.Prelude.{◌≡◌, ◌⊎◌, ℕ, List, [], ◌∷◌, ◌++◌, length, codes, Result, Ok, Err}
use Rattle.std.specs.Str.{IsUtf8}
use Rattle.warg_crypto.specs.HashText.{hash_text}
use Rattle.warg_crypto.specs.Keys.{signature_of}
use Rattle.warg_crypto.specs.NamedBytes.{named_bytes_text}
use Rattle.warg_envelope.specs.EnvelopeJson.{SignedContents, signed_in, signed_json}
use Rattle.warg_envelope.specs.declared.serde_envelope.SerdeEnvelope.{SerdeEnvelope}
use Rattle.warg_registry.specs.RegistryJson.{timestamped_checkpoint_in, timestamped_checkpoint_json}
use Rattle.warg_registry.specs.declared.checkpoint.TimestampedCheckpoint.{TimestampedCheckpoint}
use Rattle.warg_saved_states.specs.JsonText.{in_text}
use Rattle.warg_saved_states.specs.Texts.{text_of}
use Rattle.warg_saved_states.specs.declared.error.JsonTextError.{JsonTextError}
use Rattle.warg_saved_states.specs.declared.error.JsonTextError.TheVariants as json
use Rattle.warg_c.specs.CheckpointAnswers.{SaysCheckpoint, SaysNoCheckpoint}
use Rattle.warg_c.specs.ProofAnswers.{AreTwoHashes, IsNoText}
use Rattle.warg_c.specs.Saved.{fault_text}
use Rattle.warg_c.specs.Texts.{IsGiven}
use Rattle.warg_c.specs.declared.exports.checkpoint_texts.ShownCheckpoint.{ShownCheckpoint}

-- a checkpoint at a time, the id of the key that is said to have signed it, and the signature
abbrev pub Signed : Type 0
Signed = SignedContents TimestampedCheckpoint

-- the same of an envelope
abbrev pub signed_parts : SerdeEnvelope TimestampedCheckpoint → Signed
signed_parts it = record { contents = it.contents; key_id = it.key_id; signature = it.signature }

-- what is read of a text of JSON
abbrev pub signed_in_text : List ℕ → Result Signed JsonTextError
signed_in_text text = in_text (signed_in timestamped_checkpoint_in) text

-- the members of its JSON
abbrev pub signed_members : List (List ℕ)
signed_members =
    codes "contents" ∷ codes "logRoot" ∷ codes "logLength" ∷ codes "mapRoot" ∷ codes "timestamp" ∷ codes "keyId" ∷ codes "signature" ∷ []

-- the text is the JSON that is written of a signed checkpoint, and is read as it
pub record IsWrittenAs (it : Signed) (text : List ℕ) : Type 0 where
  pub written : text_of (signed_json timestamped_checkpoint_json it) ≡ Ok text
  pub read_back : signed_in_text text ≡ Ok it

-- the texts are those of the key's id and of the signature
pub record IsSignedBy (key_id signature : List ℕ) (it : Signed) : Type 0 where
  pub key_id_is : it.key_id ≡ key_id
  pub utf8 : IsUtf8 key_id
  pub signature_text : signature_of signature ≡ Ok it.signature

-- the key's id is no UTF-8, or the signature's text can't be read
abbrev pub IsNoSigner : (key_id signature : List ℕ) → Type 0
IsNoSigner key_id signature = (IsUtf8 key_id → ⊥) ⊎ IsNoText signature_of signature

-- a call says this signed checkpoint, by what it says of the checkpoint, and by the texts of the key's id and of the signature
pub record SaysSigned (log_length : ℕ) (log_root map_root : List ℕ) (timestamp : ℕ) (key_id signature : List ℕ) (it : Signed) : Type 0 where
  pub checkpoint : SaysCheckpoint log_length log_root map_root timestamp it.contents
  pub signer : IsSignedBy key_id signature it

-- a text of the call is not of its form
abbrev pub SaysNoSigned : (log_root map_root key_id signature : List ℕ) → Type 0
SaysNoSigned log_root map_root key_id signature = SaysNoCheckpoint log_root map_root ⊎ IsNoSigner key_id signature

-- memory is taken where the roots are hashes and the key's id is UTF-8
abbrev pub TakesSigned : (log_root map_root key_id : List ℕ) → Type 0
TakesSigned log_root map_root key_id = AreTwoHashes log_root map_root × IsUtf8 key_id

-- the bytes are the JSON text of the signed checkpoint that a call says
pub record IsTextOf (log_length : ℕ) (log_root map_root : List ℕ) (timestamp : ℕ) (key_id signature bytes : List ℕ) : Type 0 where
  pub signed : Signed
  pub says : SaysSigned log_length log_root map_root timestamp key_id signature signed
  pub is_text : IsWrittenAs signed bytes

-- the texts of a signed checkpoint one behind the other, with their lengths and both numbers; a call that is given them says it
pub record Tells (it : Signed) (n : ShownCheckpoint) (text : List ℕ) : Type 0 where
  pub says : SaysSigned n.log_length (hash_text it.contents.checkpoint.log_root) (hash_text it.contents.checkpoint.map_root) n.timestamp it.key_id (named_bytes_text it.signature) it
  pub text_is : text ≡ ((hash_text it.contents.checkpoint.log_root ++ hash_text it.contents.checkpoint.map_root) ++ it.key_id) ++ named_bytes_text it.signature
  pub log_root_len : n.log_root_len ≡ length (hash_text it.contents.checkpoint.log_root)
  pub map_root_len : n.map_root_len ≡ length (hash_text it.contents.checkpoint.map_root)
  pub key_id_len : n.key_id_len ≡ length it.key_id
  pub signature_len : n.signature_len ≡ length (named_bytes_text it.signature)

-- the JSON text says a signed checkpoint, which is told
pub record TellsText (bytes : List ℕ) (n : ShownCheckpoint) (text : List ℕ) : Type 0 where
  pub signed : Signed
  pub utf8 : IsUtf8 bytes
  pub is_read : signed_in_text bytes ≡ Ok signed
  pub tells : Tells signed n text

-- the bytes are no JSON text of a signed checkpoint, by this fault; those that are no UTF-8 are no JSON
pub record IsSignedFault (bytes : List ℕ) (e : JsonTextError) : Type 0 where
  pub of_text : IsUtf8 bytes → signed_in_text bytes ≡ Err e
  pub of_others : (IsUtf8 bytes → ⊥) → e ≡ json.NotJson

-- they are none, and the fault is told
abbrev pub IsNoSigned : (bytes : List ℕ) → ℕ → List ℕ → Type 0
IsNoSigned bytes used out = (e : JsonTextError) × IsSignedFault bytes e × IsGiven (fault_text e) used out
