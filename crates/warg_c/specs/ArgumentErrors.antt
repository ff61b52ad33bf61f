-- What is told of an argument that is not of its form, and of a log that a call is not for.
use Rattle.std.specs.Prelude.{ℕ, List, codes}
use Rattle.warg_c.specs.declared.any_log.AnyLog.{AnyLog}
use Rattle.warg_c.specs.declared.any_log.AnyLog.TheVariants.{Package, Operator}
use Rattle.warg_c.specs.declared.argument_error.ArgumentError.{ArgumentError}
use Rattle.warg_c.specs.declared.argument_error.ArgumentError.TheVariants.{NoKind, NoTree, WrongKind, Resumed, NotUtf8, BadName, BadRequirement, BadVersion, BadQuestion}

-- a name, a colon, a space and a sentence
abbrev pub argument_error_text : ArgumentError → List ℕ
argument_error_text NoKind = codes "NoKind: the number names no kind of log"
argument_error_text NoTree = codes "NoTree: the number names no tree"
argument_error_text WrongKind = codes "WrongKind: the call is for logs of the other kind"
argument_error_text Resumed = codes "Resumed: the log was resumed, and its records are elsewhere"
argument_error_text NotUtf8 = codes "NotUtf8: the text is not UTF-8"
argument_error_text BadName = codes "BadName: no log of the kind has this name"
argument_error_text BadRequirement = codes "BadRequirement: the text is no requirement of versions"
argument_error_text BadVersion = codes "BadVersion: the text is no version"
argument_error_text BadQuestion = codes "BadQuestion: the bytes and lengths are no question"

-- what is wrong where a call for package logs has a bad argument: this, or the log is of operators
abbrev pub package_argument_error : AnyLog → ArgumentError → ArgumentError
package_argument_error (Package log) wrong = wrong
package_argument_error (Operator log) wrong = WrongKind

-- the same of a call for logs of operators
abbrev pub operator_argument_error : AnyLog → ArgumentError → ArgumentError
operator_argument_error (Package log) wrong = WrongKind
operator_argument_error (Operator log) wrong = wrong
