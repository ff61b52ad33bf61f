-- What a publisher can do about a refused record.
use Rattle.std.specs.Prelude.{ℕ, List, codes, ◌||◌, if◌then◌else◌}
use Rattle.std.specs.Str.{bytes_eq}

-- what is advised on a record that is refused for the case of this name
abbrev pub advice_on : List ℕ → List ℕ
advice_on name =
    if bytes_eq name (codes "FirstEntryIsNotInit") || bytes_eq name (codes "InitialRecordDoesNotInit") then codes "begin the log with a record whose first entry is an init"
    else if bytes_eq name (codes "KeyIDNotRecognized") then codes "sign with a known key, an init with its own, or have a known key grant to yours first"
    else if bytes_eq name (codes "InitialEntryAfterBeginning") then codes "leave the init out: the log has begun, and further keys come in by grants"
    else if bytes_eq name (codes "UnauthorizedAction") then codes "have a key that holds the permission sign, or ask its owner for a grant"
    else if bytes_eq name (codes "PermissionNotFoundToRevoke") then codes "leave out what the key does not hold, and name each permission once"
    else if bytes_eq name (codes "SignatureError") then codes "ask for the right kind and scheme (--toy, --verified), or sign with the named key"
    else if bytes_eq name (codes "RecordHashDoesNotMatch") then codes "another record came first: fetch the log, name its head and sign again"
    else if bytes_eq name (codes "PreviousHashOnFirstRecord") then codes "name no record before the first one"
    else if bytes_eq name (codes "NoPreviousHashAfterInit") then codes "name the log's head as the record before"
    else if bytes_eq name (codes "ProtocolVersionNotAllowed") then codes "write version 1 into the record, the newest of the protocol that is known here"
    else if bytes_eq name (codes "TimestampLowerThanPrevious") then codes "set the clock: the time lies before that of the head"
    else if bytes_eq name (codes "EmptyGrant") then codes "name a permission in the grant"
    else if bytes_eq name (codes "ReleaseOfReleased") then codes "choose another version: a released one stays so, also if it is yanked"
    else if bytes_eq name (codes "YankOfUnreleased") then codes "look for the version among the releases"
    else if bytes_eq name (codes "YankOfYanked") then codes "nothing is left to do"
    else if bytes_eq name (codes "InvalidNamespace") then codes "choose words of lower-case letters and digits, a letter first, with dashes between"
    else if bytes_eq name (codes "NamespaceAlreadyDefined") then codes "choose another name: each is defined or imported once"
    else codes "write the envelope anew, or ask for the right kind: it is no record of such a log"
