-- What an envelope asks of whoever verifies its signature.
use Rattle.std.specs.Prelude.{◌≡◌, ◌↔◌, ℕ, List, true, Option, None}
use Rattle.warg_crypto.specs.NamedBytes.{NamedBytes}
use Rattle.warg_envelope.specs.EnvelopeData.{EnvelopeData}
use Rattle.warg_log_records.specs.Kinds.{SignatureRelation, Kind, Refuses}
use Rattle.warg_log_records.specs.declared.signature_check.SignatureCheck.{SignatureCheck}

module _ {View Offence : Type 0} (k : Kind View Offence) where
  -- whatever the relation: nothing is wrong with the envelope exactly if it holds of the key, the message and the signature
  abbrev pub AsksFor : View → EnvelopeData → NamedBytes → List ℕ → NamedBytes → Type 0
  AsksFor v e key message signature = (b : SignatureRelation) → (k.offence b v e ≡ None) ↔ (b key message signature ≡ true)

  -- that is what is asked
  abbrev pub AsksOf : View → EnvelopeData → SignatureCheck → Type 0
  AsksOf v e q = AsksFor v e q.key q.message.items q.signature

  -- an envelope that is lawful under some relation asks for one signature
  abbrev pub AsksWhereLawful : Type 0
  AsksWhereLawful = (b : SignatureRelation) (v : View) (e : EnvelopeData) → k.offence b v e ≡ None → (key : NamedBytes) × (message : List ℕ) × (signature : NamedBytes) × AsksFor v e key message signature

  -- whatever the relation: this is wrong with the envelope
  abbrev pub RefusesAlways : View → EnvelopeData → Option Offence → Type 0
  RefusesAlways v e o = (b : SignatureRelation) → Refuses k b v e o
