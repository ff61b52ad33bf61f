-- The signature schemes that the program verifies by itself.
use Rattle.std.specs.Prelude.{ℕ, Bool, true, false, ◌||◌, List}
use Rattle.warg_crypto.specs.NamedBytes.{NamedBytes}
use Rattle.warg_crypto.specs.Signed.{toy_belongs}
use Rattle.warg_p256.specs.Scheme.{p256_belongs}
use Rattle.warg_protocol.specs.Logs.{SignatureRelation}

-- the signature belongs to the message under the key by the toy scheme, or by `ecdsa-p256`
abbrev pub known_belongs : NamedBytes → List ℕ → NamedBytes → Bool
known_belongs key message signature = toy_belongs key message signature || p256_belongs key message signature

-- what tells which signatures belong: those of `ecdsa-p256` alone, unless the toy scheme, which anyone can forge, is asked for
abbrev pub asked_belongs : Bool → SignatureRelation
asked_belongs false = p256_belongs
asked_belongs true = known_belongs
