-- No two errors name the same offence.
use Rattle.std.proofs.Common.{◌≡◌, refl, sym, ap, ◌∙◌}
use Rattle.warg_log.specs.Offences.{offence_of, log_error_of}
use Rattle.warg_log.specs.declared.log_error.LogError.{LogError}
use Rattle.warg_log.specs.declared.log_error.LogError.TheVariants as log_error

module _ {P : Type 0} where
  told_back : (r : LogError P) → log_error_of (offence_of r) ≡ r
  told_back log_error.FirstEntryIsNotInit = refl
  told_back log_error.InitialRecordDoesNotInit = refl
  told_back (log_error.KeyIDNotRecognized k) = refl
  told_back log_error.InitialEntryAfterBeginning = refl
  told_back (log_error.UnauthorizedAction k p) = refl
  told_back (log_error.PermissionNotFoundToRevoke p k) = refl
  told_back (log_error.SignatureError e) = refl
  told_back (log_error.IncorrectHashAlgorithm found expected) = refl
  told_back log_error.RecordHashDoesNotMatch = refl
  told_back log_error.PreviousHashOnFirstRecord = refl
  told_back log_error.NoPreviousHashAfterInit = refl
  told_back (log_error.ProtocolVersionNotAllowed n) = refl
  told_back log_error.TimestampLowerThanPrevious = refl
  told_back (log_error.EmptyGrant k) = refl
  told_back log_error.OutOfMemory = refl

  pub told-apart : (r s : LogError P) → offence_of r ≡ offence_of s → r ≡ s
  told-apart r s h = sym (told_back r) ∙ ap log_error_of h ∙ told_back s
