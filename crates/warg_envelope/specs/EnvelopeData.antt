-- Envelopes as plain data.
use Rattle.std.specs.Prelude.{ℕ, List}
use Rattle.warg_crypto.specs.NamedBytes.{NamedBytes}

-- an envelope without its record: the content bytes, the signer's key id and the signature
pub record EnvelopeData : Type 0 where
  pub content : List ℕ
  pub key_id : List ℕ
  pub signature : NamedBytes

-- that, and the record held beside it
pub record DecodedEnvelope (C : Type 0) : Type 0 where
  pub contents : C
  pub envelope : EnvelopeData
