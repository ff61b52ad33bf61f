-- Signed checkpoints of a registry, by the texts of a call.
use Rattle.std.specs.Prelude.{◌≡◌, ◌⊎◌, ℕ, List, Bool, true, false, codes, Some, None, Ok}
use Rattle.std.specs.Str.{IsUtf8}
use Rattle.warg_crypto.specs.HashText.{hash_of}
use Rattle.warg_crypto.specs.Keys.{signature_of}
use Rattle.warg_crypto.specs.NamedBytes.{NamedBytes}
use Rattle.warg_crypto.specs.Signed.{signed_message}
use Rattle.warg_operator_log.specs.State.{View, view_of}
use Rattle.warg_p256.specs.Scheme.{p256_belongs}
use Rattle.warg_permissions.specs.declared.operator.Permission.TheVariants.{Commit}
use Rattle.warg_registry.specs.PrefixEncodings.{timestamped_checkpoint_encoding_of}
use Rattle.warg_registry.specs.declared.checkpoint.TimestampedCheckpoint.{TimestampedCheckpoint}
use Rattle.warg_c.specs.declared.any_log.AnyLog.{AnyLog}
use Rattle.warg_c.specs.declared.any_log.AnyLog.TheVariants.{Package, Operator}
use Rattle.warg_c.specs.declared.call_error.CallError.{CallError}
use Rattle.warg_c.specs.declared.call_error.CallError.TheVariants.{OutOfMemory, Refused, BadArgument, UnknownAlgorithm}
use Rattle.warg_c.specs.Logs.{state_of}
use Rattle.warg_c.specs.ProofAnswers.{IsNoText}
use Rattle.warg_c.specs.Verifying.{IsP256Key, SaysSignature}

-- a call says this checkpoint: by the log's length in leaves, the texts of both roots, and the time in seconds since 1970
pub record SaysCheckpoint (log_length : ℕ) (log_root map_root : List ℕ) (timestamp : ℕ) (c : TimestampedCheckpoint) : Type 0 where
  pub length_is : c.checkpoint.log_length ≡ log_length
  pub log_text : hash_of log_root ≡ Ok c.checkpoint.log_root
  pub map_text : hash_of map_root ≡ Ok c.checkpoint.map_root
  pub time_is : c.timestamp ≡ timestamp

-- the text of a root is none of a hash
abbrev pub SaysNoCheckpoint : (log_root map_root : List ℕ) → Type 0
SaysNoCheckpoint log_root map_root = IsNoText hash_of log_root ⊎ IsNoText hash_of map_root

-- a call says a checkpoint of which this holds
abbrev pub OfCheckpoint : ℕ → List ℕ → List ℕ → ℕ → (TimestampedCheckpoint → Type 0) → Type 0
OfCheckpoint log_length log_root map_root timestamp P = (c : TimestampedCheckpoint) × SaysCheckpoint log_length log_root map_root timestamp c × P c

-- the message that is signed of a checkpoint
abbrev pub checkpoint_message : TimestampedCheckpoint → List ℕ
checkpoint_message c = signed_message (codes "WARG-CHECKPOINT-SIGNATURE-V0") (timestamped_checkpoint_encoding_of c)

-- the bytes are that message
abbrev pub IsMessage : List ℕ → TimestampedCheckpoint → Type 0
IsMessage bytes c = bytes ≡ checkpoint_message c

-- the bytes are the message of the checkpoint that a call says
pub record IsMessageOf (log_length : ℕ) (log_root map_root : List ℕ) (timestamp : ℕ) (bytes : List ℕ) : Type 0 where
  pub checkpoint : TimestampedCheckpoint
  pub says : SaysCheckpoint log_length log_root map_root timestamp checkpoint
  pub is_message : IsMessage bytes checkpoint

-- whether the signature of this text belongs to the checkpoint under the key
abbrev pub IsJudgedUnder : NamedBytes → List ℕ → Bool → TimestampedCheckpoint → Type 0
IsJudgedUnder key signature answer c = IsP256Key key × SaysSignature signature (λ s. p256_belongs key (checkpoint_message c) s ≡ answer)

-- why it is not taken: first the key's algorithm, then the signature's text; memory is taken for a key of P-256 alone
abbrev pub KeyErrors : NamedBytes → List ℕ → TimestampedCheckpoint → CallError → Type 0
KeyErrors key signature c OutOfMemory = IsP256Key key
KeyErrors key signature c Refused = IsJudgedUnder key signature false c
KeyErrors key signature c BadArgument = IsNoText signature_of signature
KeyErrors key signature c UnknownAlgorithm = ¬ IsP256Key key
KeyErrors key signature c f = ⊥

-- the operators let the key of this id sign checkpoints, and this is that key
pub record Signs (log : View) (key_id : List ℕ) (key : NamedBytes) : Type 0 where
  pub may : log.state.authority.holds key_id Commit ≡ true
  pub is_key : log.state.authority.key key_id ≡ Some key

-- they do not let it, or have no such key
abbrev pub SignsNot : View → List ℕ → Type 0
SignsNot log key_id = (log.state.authority.holds key_id Commit ≡ false) ⊎ (log.state.authority.key key_id ≡ None)

-- whether the signature of this text belongs to the checkpoint, under the key of this id, which may sign it
abbrev pub IsJudgedBy : View → List ℕ → List ℕ → Bool → TimestampedCheckpoint → Type 0
IsJudgedBy log key_id signature answer c = (key : NamedBytes) × Signs log key_id key × IsJudgedUnder key signature answer c

-- why a checkpoint is not taken: there was no memory, which is taken for the text of a key id first; the key may not sign, or
-- the signature does not belong; a text is not of its form; or the key that may sign is one of another algorithm
abbrev pub StateErrors : View → List ℕ → List ℕ → TimestampedCheckpoint → CallError → Type 0
StateErrors log key_id signature c OutOfMemory = IsUtf8 key_id
StateErrors log key_id signature c Refused = SignsNot log key_id ⊎ IsJudgedBy log key_id signature false c
StateErrors log key_id signature c BadArgument = (IsUtf8 key_id → ⊥) ⊎ IsNoText signature_of signature
StateErrors log key_id signature c UnknownAlgorithm = (key : NamedBytes) × Signs log key_id key × ¬ IsP256Key key
StateErrors log key_id signature c f = ⊥

-- the same of what a handle holds
abbrev pub JudgesCheckpoint : AnyLog → List ℕ → List ℕ → Bool → TimestampedCheckpoint → Type 0
JudgesCheckpoint (Package log) key_id signature answer c = ⊥
JudgesCheckpoint (Operator log) key_id signature answer c = IsJudgedBy (view_of (state_of log)) key_id signature answer c

-- a log of a package lets nobody sign checkpoints
abbrev pub CheckpointErrors : AnyLog → List ℕ → List ℕ → TimestampedCheckpoint → CallError → Type 0
CheckpointErrors (Package log) key_id signature c f = f ≡ BadArgument
CheckpointErrors (Operator log) key_id signature c f = StateErrors (view_of (state_of log)) key_id signature c f
