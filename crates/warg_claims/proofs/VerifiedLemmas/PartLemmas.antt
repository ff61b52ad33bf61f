-- The parts of a line, as they are read.
use Rattle.std.proofs.Common.{◌≡◌, ◌⊎◌, inl, inr, List, ℕ, Some, None, Ok, Err, sym, ap, ◌∙◌}
use Rattle.warg_crypto.specs.Keys.{public_key_of, signature_of}
use Rattle.warg_crypto.specs.NamedBytes.{NamedBytes}
use Rattle.warg_crypto.specs.declared.signing.error.KeyParseError.{KeyParseError}
use Rattle.warg_crypto.specs.declared.signing.error.KeyParseError.TheVariants as key
use Rattle.warg_crypto.specs.declared.signing.error.SignatureParseError.{SignatureParseError}
use Rattle.warg_crypto.specs.declared.signing.error.SignatureParseError.TheVariants as signature
use Rattle.warg_printable.specs.Back.{unprintable}
use Rattle.warg_claims.specs.Verified.Faults.{key_fault, signature_fault}
use Rattle.warg_claims.specs.Verified.Lines.{as_part, key_if_read, printed_key_of, printed_signature_of, signature_if_read}
use Rattle.warg_claims.specs.declared.verified.error.ClaimParseError.{ClaimParseError}
use Rattle.warg_claims.specs.declared.verified.error.ClaimParseError.TheVariants as fault

module _ (part : List ℕ) where
  -- ---- keys

  pub key_said : (text : List ℕ) (it : NamedBytes) → unprintable part ≡ Some text → public_key_of text ≡ Ok it → printed_key_of part ≡ Ok it
  key_said text it e f = ap key_if_read e ∙ ap (as_part key_fault) f

  pub key_unread : (error : ClaimParseError) → (error ≡ fault.OutOfMemory) ⊎ ((error ≡ fault.BadEscape) × (unprintable part ≡ None))
      → (error ≡ fault.OutOfMemory) ⊎ (printed_key_of part ≡ Err error)
  key_unread error (inl memory) = inl memory
  key_unread error (inr bad) = inr (ap key_if_read bad.1 ∙ ap Err (sym bad.0))

  pub key_bad : (text : List ℕ) (why : KeyParseError) (error : ClaimParseError) → unprintable part ≡ Some text
      → (why ≡ key.OutOfMemory) ⊎ (public_key_of text ≡ Err why) → error ≡ key_fault why
      → (error ≡ fault.OutOfMemory) ⊎ (printed_key_of part ≡ Err error)
  key_bad text why error e (inl memory) is = inl (is ∙ ap key_fault memory)
  key_bad text why error e (inr bad) is = inr (ap key_if_read e ∙ ap (as_part key_fault) bad ∙ ap Err (sym is))

  -- ---- signatures

  pub signature_said : (text : List ℕ) (it : NamedBytes) → unprintable part ≡ Some text → signature_of text ≡ Ok it → printed_signature_of part ≡ Ok it
  signature_said text it e f = ap signature_if_read e ∙ ap (as_part signature_fault) f

  pub signature_unread : (error : ClaimParseError) → (error ≡ fault.OutOfMemory) ⊎ ((error ≡ fault.BadEscape) × (unprintable part ≡ None))
      → (error ≡ fault.OutOfMemory) ⊎ (printed_signature_of part ≡ Err error)
  signature_unread error (inl memory) = inl memory
  signature_unread error (inr bad) = inr (ap signature_if_read bad.1 ∙ ap Err (sym bad.0))

  pub signature_bad : (text : List ℕ) (why : SignatureParseError) (error : ClaimParseError) → unprintable part ≡ Some text
      → (why ≡ signature.OutOfMemory) ⊎ (signature_of text ≡ Err why) → error ≡ signature_fault why
      → (error ≡ fault.OutOfMemory) ⊎ (printed_signature_of part ≡ Err error)
  signature_bad text why error e (inl memory) is = inl (is ∙ ap signature_fault memory)
  signature_bad text why error e (inr bad) is = inr (ap signature_if_read e ∙ ap (as_part signature_fault) bad ∙ ap Err (sym is))
