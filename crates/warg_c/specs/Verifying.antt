-- Signatures that the library verifies itself.
use Rattle.std.specs.Prelude.{◌≡◌, ◌⊎◌, ℕ, List, Bool, false, codes, Ok}
use Rattle.std.specs.Str.{IsUtf8}
use Rattle.warg_crypto.specs.Keys.{public_key_of, signature_of}
use Rattle.warg_crypto.specs.NamedBytes.{NamedBytes}
use Rattle.warg_p256.specs.Scheme.{p256_belongs}
use Rattle.warg_c.specs.declared.call_error.CallError.{CallError}
use Rattle.warg_c.specs.declared.call_error.CallError.TheVariants.{OutOfMemory, Refused, BadArgument, UnknownAlgorithm}
use Rattle.warg_c.specs.ProofAnswers.{IsNoText}

-- the key is one of the algorithm that the library verifies
abbrev pub IsP256Key : NamedBytes → Type 0
IsP256Key key = key.name ≡ codes "ecdsa-p256"

-- the text says a key of which this holds
abbrev pub SaysKey : List ℕ → (NamedBytes → Type 0) → Type 0
SaysKey text P = (key : NamedBytes) × IsUtf8 text × (public_key_of text ≡ Ok key) × P key

-- the text says a signature of which this holds
abbrev pub SaysSignature : List ℕ → (NamedBytes → Type 0) → Type 0
SaysSignature text P = (signature : NamedBytes) × IsUtf8 text × (signature_of text ≡ Ok signature) × P signature

-- whether the signature that a text says belongs to the message, under the key that a text says
abbrev pub IsJudged : List ℕ → List ℕ → List ℕ → Bool → Type 0
IsJudged key message signature answer = SaysKey key (λ k. IsP256Key k × SaysSignature signature (λ s. p256_belongs k message s ≡ answer))

-- the key's text can't be read; or it is one of the library's algorithm, and the signature's can't be
abbrev pub IsNotVerified : List ℕ → List ℕ → Type 0
IsNotVerified key signature = IsNoText public_key_of key ⊎ (SaysKey key IsP256Key × IsNoText signature_of signature)

-- the key is one of another algorithm
abbrev pub IsOtherKey : List ℕ → Type 0
IsOtherKey key = SaysKey key (λ k. ¬ IsP256Key k)

-- why a signature is not taken: first the key's text, then its algorithm, then the signature's text
abbrev pub VerifyErrors : List ℕ → List ℕ → List ℕ → CallError → Type 0
VerifyErrors key message signature OutOfMemory = Unit {0}
VerifyErrors key message signature Refused = IsJudged key message signature false
VerifyErrors key message signature BadArgument = IsNotVerified key signature
VerifyErrors key message signature UnknownAlgorithm = IsOtherKey key
VerifyErrors key message signature f = ⊥
