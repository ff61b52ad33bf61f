-- What refuses a record where its signature is not taken.
use Rattle.warg_crypto.specs.declared.signing.error.SignatureError.{SignatureError}
use Rattle.warg_crypto.specs.declared.signing.error.SignatureError.TheVariants as signature
use Rattle.warg_log.specs.declared.log_error.LogError.{LogError}
use Rattle.warg_log.specs.declared.log_error.LogError.TheVariants as log_error

-- the error of a record whose signature is not taken: as wrong, or because memory ran out
abbrev pub log_error_of_signature : {P : Type 0} → SignatureError → LogError P
log_error_of_signature signature.Refused = log_error.SignatureError signature.Refused
log_error_of_signature signature.OutOfMemory = log_error.OutOfMemory
