-- Laws of the errors that name faults.
use Rattle.std.specs.Prelude.{◌≡◌, Option, Some, None, Result, Ok, Err}
use Rattle.std.proofs.Common.{◌∙◌, ap, inl, inr, refl, subst, sym}
use Rattle.warg_crypto.specs.Coding.{IsDecoded}
use Rattle.warg_crypto.specs.declared.coding.DecodeError.{DecodeError}
use Rattle.warg_crypto.specs.declared.coding.DecodeError.TheVariants as error
use Rattle.warg_envelope.specs.Faults.{RecordFault, IsReading, NamesFault, decode_result, error_of, fault_of}

-- the error that names what an error names
abbrev named_error : Option RecordFault → DecodeError
named_error (Some f) = error_of f
named_error None = error.OutOfMemory

-- each error is the one that names its fault
error_of_its_fault : (e : DecodeError) → named_error (fault_of e) ≡ e
error_of_its_fault (error.Wire w) = refl
error_of_its_fault (error.Prev h) = refl
error_of_its_fault error.MissingTime = refl
error_of_its_fault error.TimeOutOfRange = refl
error_of_its_fault error.EmptyEntry = refl
error_of_its_fault error.Algorithm = refl
error_of_its_fault (error.Key k) = refl
error_of_its_fault (error.Permission v) = refl
error_of_its_fault error.Version = refl
error_of_its_fault (error.ContentHash h) = refl
error_of_its_fault error.OutOfMemory = refl

-- no two errors name one fault
pub fault_of-one : (d e : DecodeError) → fault_of d ≡ fault_of e → d ≡ e
fault_of-one d e h = sym (error_of_its_fault d) ∙ ap named_error h ∙ error_of_its_fault e

-- out of memory alone names none
pub fault_of-memory : (e : DecodeError) → fault_of e ≡ None → e ≡ error.OutOfMemory
fault_of-memory e h = fault_of-one e error.OutOfMemory h

-- a fault is no lack of memory
error_of-memory : (f : RecordFault) → error_of f ≡ error.OutOfMemory → ⊥
error_of-memory (RecordFault.Wire w) h = cc
error_of-memory (RecordFault.Prev x) h = cc
error_of-memory RecordFault.MissingTime h = cc
error_of-memory RecordFault.TimeOutOfRange h = cc
error_of-memory RecordFault.EmptyEntry h = cc
error_of-memory RecordFault.Algorithm h = cc
error_of-memory (RecordFault.Key k) h = cc
error_of-memory (RecordFault.Permission v) h = cc
error_of-memory RecordFault.Version h = cc
error_of-memory (RecordFault.ContentHash x) h = cc

-- what is said never ends with out of memory
pub decode_result-memory : {Y : Type 0} (said : Result Y RecordFault) → decode_result said ≡ Err error.OutOfMemory → ⊥
decode_result-memory (Ok y) h = cc
decode_result-memory {Y} (Err f) h = error_of-memory f (same h)
  where
    same : decode_result {X = Y} (Err f) ≡ Err error.OutOfMemory → error_of f ≡ error.OutOfMemory
    same h = cc

-- the error that names a fault names it
error_tells : (X : Type 0) (f : RecordFault) → NamesFault {X = X} (Err f) (fault_of (error_of f))
error_tells X (RecordFault.Wire w) = refl
error_tells X (RecordFault.Prev h) = refl
error_tells X RecordFault.MissingTime = refl
error_tells X RecordFault.TimeOutOfRange = refl
error_tells X RecordFault.EmptyEntry = refl
error_tells X RecordFault.Algorithm = refl
error_tells X (RecordFault.Key k) = refl
error_tells X (RecordFault.Permission v) = refl
error_tells X RecordFault.Version = refl
error_tells X (RecordFault.ContentHash h) = refl

module _ {X Y : Type 0} (view : X → Y) where
  -- what names the fault that is said is the error of what is said
  pub reading_decodes : (said : Result Y RecordFault) (r : Result X DecodeError) → IsReading view fault_of said r
      → IsDecoded view (decode_result said) r
  reading_decodes said (Ok x) h = ap decode_result h
  reading_decodes said (Err (error.Wire w)) h = inr (ap decode_result h)
  reading_decodes said (Err (error.Prev w)) h = inr (ap decode_result h)
  reading_decodes said (Err error.MissingTime) h = inr (ap decode_result h)
  reading_decodes said (Err error.TimeOutOfRange) h = inr (ap decode_result h)
  reading_decodes said (Err error.EmptyEntry) h = inr (ap decode_result h)
  reading_decodes said (Err error.Algorithm) h = inr (ap decode_result h)
  reading_decodes said (Err (error.Key k)) h = inr (ap decode_result h)
  reading_decodes said (Err (error.Permission v)) h = inr (ap decode_result h)
  reading_decodes said (Err error.Version) h = inr (ap decode_result h)
  reading_decodes said (Err (error.ContentHash x)) h = inr (ap decode_result h)
  reading_decodes said (Err error.OutOfMemory) h = inl refl

  -- and the other way round
  pub decoded_is_read : (said : Result Y RecordFault) (r : Result X DecodeError) → IsDecoded view (decode_result said) r
      → IsReading view fault_of said r
  decoded_is_read (Ok y) (Ok x) h = ap Ok (value h)
    where
      value : decode_result (Ok y) ≡ Ok (view x) → y ≡ view x
      value h = cc
  decoded_is_read (Err f) (Ok x) h = absurd cc
  decoded_is_read said (Err e) (inl none) = subst (λ x. NamesFault said (fault_of x)) (sym none) tt
  decoded_is_read (Ok y) (Err e) (inr h) = absurd cc
  decoded_is_read (Err f) (Err e) (inr h) = subst (λ x. NamesFault {X = Y} (Err f) (fault_of x)) (same h) (error_tells Y f)
    where
      same : decode_result {X = Y} (Err f) ≡ Err e → error_of f ≡ e
      same h = cc
