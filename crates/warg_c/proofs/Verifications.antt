-- Why a signature is not taken.
use Rattle.std.proofs.Common.{◌≡◌, ◌⊎◌, inl, inr, ℕ, List, Bool, true, false, not, IsTrue, Ok, refl, sym, subst, true≢false}
use Rattle.std.specs.Str.{IsUtf8}
use Rattle.warg_crypto.specs.Keys.{public_key_of, signature_of}
use Rattle.warg_crypto.specs.NamedBytes.{NamedBytes}
use Rattle.warg_c.specs.Verifying.{IsP256Key, VerifyErrors}
use Rattle.warg_c.specs.declared.call_error.CallError.{CallError}
use Rattle.warg_c.specs.declared.call_error.CallError.TheVariants.{OutOfMemory, BadArgument}

module _ (key message signature : List ℕ) where
  -- the key's text can't be read
  pub key-errors : (f : CallError) → (f ≡ OutOfMemory) ⊎ ((f ≡ BadArgument) × ((k : NamedBytes) → IsUtf8 key → public_key_of key ≡ Ok k → ⊥)) → VerifyErrors key message signature f
  key-errors f (inl is) = subst (λ g. VerifyErrors key message signature g) (sym is) tt
  key-errors f (inr (is, none)) = subst (λ g. VerifyErrors key message signature g) (sym is) (inl (λ utf8 k said. none k utf8 said))

  -- the signature's text can't be read
  pub signature-errors : (k : NamedBytes) → IsUtf8 key → public_key_of key ≡ Ok k → IsP256Key k → (f : CallError) → (f ≡ OutOfMemory) ⊎ ((f ≡ BadArgument) × ((s : NamedBytes) → IsUtf8 signature → signature_of signature ≡ Ok s → ⊥)) → VerifyErrors key message signature f
  signature-errors k utf8 said own f (inl is) = subst (λ g. VerifyErrors key message signature g) (sym is) tt
  signature-errors k utf8 said own f (inr (is, none)) = subst (λ g. VerifyErrors key message signature g) (sym is) (inr ((k, utf8, said, own), λ utf8 s said. none s utf8 said))

-- what is not otherwise is so
pub is-so : (b : Bool) → not b ≡ false → IsTrue b
is-so true h = refl
is-so false h = absurd (true≢false h)
