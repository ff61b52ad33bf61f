-- The names of offences: the names of their cases, without fields.
use Rattle.std.specs.Prelude.{ℕ, List, [], codes}
use Rattle.warg_log.specs.Rules.{LogOffence}
use Rattle.warg_log.specs.Offences.{Offence}
use Rattle.warg_log.specs.Offences as shared

-- those of any log
abbrev pub shared_name : {P : Type 0} → Offence P → List ℕ
shared_name shared.FirstEntryIsNotInit = codes "FirstEntryIsNotInit"
shared_name shared.InitialRecordDoesNotInit = codes "InitialRecordDoesNotInit"
shared_name (shared.KeyIDNotRecognized key_id) = codes "KeyIDNotRecognized"
shared_name shared.InitialEntryAfterBeginning = codes "InitialEntryAfterBeginning"
shared_name (shared.UnauthorizedAction key_id permission) = codes "UnauthorizedAction"
shared_name (shared.PermissionNotFoundToRevoke permission key_id) = codes "PermissionNotFoundToRevoke"
shared_name (shared.WrongSignature fault) = codes "SignatureError"
shared_name (shared.IncorrectHashAlgorithm found expected) = codes "IncorrectHashAlgorithm"
shared_name shared.RecordHashDoesNotMatch = codes "RecordHashDoesNotMatch"
shared_name shared.PreviousHashOnFirstRecord = codes "PreviousHashOnFirstRecord"
shared_name shared.NoPreviousHashAfterInit = codes "NoPreviousHashAfterInit"
shared_name (shared.ProtocolVersionNotAllowed version) = codes "ProtocolVersionNotAllowed"
shared_name shared.TimestampLowerThanPrevious = codes "TimestampLowerThanPrevious"
shared_name (shared.EmptyGrant key_id) = codes "EmptyGrant"

-- with the names of those that one kind alone has; no error names a record that can't be read
abbrev pub log_offence_name : {P F : Type 0} → (F → List ℕ) → LogOffence P F → List ℕ
log_offence_name own_name (LogOffence.Shared offence) = shared_name offence
log_offence_name own_name (LogOffence.Own offence) = own_name offence
log_offence_name own_name LogOffence.Unreadable = []
