-- What is printed of errors.
use Rattle.std.specs.Prelude.{ℕ, List, ◌++◌, codes}
use Rattle.std.specs.Fmt.{decimal}
use Rattle.semver.specs.Identifiers.{version_text}
use Rattle.warg_crypto.specs.HashText.{algorithm_text}
use Rattle.warg_permissions.specs.PackagePermissions.{permission_text}
use Rattle.warg_package_log.specs.declared.error.ValidationError.{ValidationError}
use Rattle.warg_package_log.specs.declared.error.ValidationError.TheVariants as error

-- what is printed of an error: what is wrong with the record
abbrev pub error_text : ValidationError → List ℕ
error_text error.FirstEntryIsNotInit = codes "the first entry of the log is not \"init\""
error_text error.InitialRecordDoesNotInit = codes "the initial record is empty and does not \"init\""
error_text (error.KeyIDNotRecognized key_id) = codes "the Key ID used to sign this envelope is not known to this package log"
error_text error.InitialEntryAfterBeginning = codes "a second \"init\" entry was found"
error_text (error.UnauthorizedAction key_id needed_permission) = codes "the key with ID " ++ (key_id ++ (codes " did not have required permission " ++ permission_text needed_permission))
error_text (error.PermissionNotFoundToRevoke permission key_id) = codes "attempted to remove permission " ++ (permission_text permission ++ (codes " from key " ++ (key_id ++ codes " which did not have it")))
error_text (error.SignatureError e) = codes "unable to verify signature"
error_text (error.IncorrectHashAlgorithm found expected) = codes "record hash uses " ++ (algorithm_text found ++ (codes " algorithm but " ++ (algorithm_text expected ++ codes " was expected")))
error_text error.RecordHashDoesNotMatch = codes "previous record hash does not match"
error_text error.PreviousHashOnFirstRecord = codes "the first record contained a previous hash value"
error_text error.NoPreviousHashAfterInit = codes "non-initial record contained no previous hash"
error_text (error.ProtocolVersionNotAllowed version) = codes "protocol version " ++ (decimal version ++ codes " not allowed")
error_text error.TimestampLowerThanPrevious = codes "record has lower timestamp than previous"
error_text (error.EmptyGrant key_id) = codes "an entry granted no permission to key " ++ key_id
error_text (error.ReleaseOfReleased version) = codes "an entry attempted to release version " ++ (version_text version ++ codes " which is already released")
error_text (error.YankOfUnreleased version) = codes "an entry attempted to yank version " ++ (version_text version ++ codes " which had not yet been released")
error_text (error.YankOfYanked version) = codes "an entry attempted to yank version " ++ (version_text version ++ codes " which is already yanked")
error_text error.OutOfMemory = codes "OutOfMemory"
