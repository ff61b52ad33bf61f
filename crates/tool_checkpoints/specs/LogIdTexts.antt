-- What is printed of the name of a log: the log's id.
use Rattle.std.specs.Prelude.{◌≡◌, ℕ, List}
use Rattle.warg_crypto.specs.HashText.{hash_text, sha256_hash_of}
use Rattle.warg_registry.specs.KebabNames.{IsPackageText}
use Rattle.warg_registry.specs.LogIds.{operator_log_message, package_log_message}
use Rattle.warg_audit.specs.Files.OutputData.{OutputData}
use Rattle.warg_audit.specs.Files.Texts.{line, yes}
use Rattle.tool_checkpoints.specs.Words.{IsByWords}
use Rattle.tool_words.specs.declared.statement.NamedLog.{NamedLog}
use Rattle.tool_words.specs.declared.statement.NamedLog.TheVariants as named

-- what the id of a named log hashes; a package's name has to be one
abbrev pub Hashes : NamedLog → List ℕ → Type 0
Hashes (named.Package name) message = IsPackageText name.now × (message ≡ package_log_message name.now)
Hashes named.Operator message = message ≡ operator_log_message

-- the line of the id that hashes a message
abbrev pub id_line : List ℕ → OutputData
id_line message = yes (line (hash_text (sha256_hash_of message)))

-- what is answered to the name of a log
abbrev pub IsLogIdAnswer : NamedLog → OutputData → Type 0
IsLogIdAnswer log printed = IsByWords (Hashes log) (λ message it. it ≡ id_line message) printed
