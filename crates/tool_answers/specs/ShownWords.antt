-- The words in which times, records, keys, releases and namespaces are shown.
use Rattle.std.specs.Prelude.{◌≡◌, ℕ, pos, ◌+ℤ◌, ◌*ℤ◌, List, [], ◌∷◌, ◌++◌, codes, map, unwrap_or, Result, Ok}
use Rattle.std.specs.List.{IsDistinct}
use Rattle.std.specs.Map.{keys_of}
use Rattle.std.specs.Str.{bytes_eq}
use Rattle.jiff.specs.Words.{civil_nanos, iso_datetime_text}
use Rattle.jiff.specs.Instant.{IsTimestampParts}
use Rattle.jiff_core.specs.declared.civil.datetime.DateTime.{DateTime}
use Rattle.warg_crypto.specs.NamedBytes.{named_bytes_text}
use Rattle.warg_printable.specs.Printable.{printable}
use Rattle.warg_audit.specs.Files.Texts.{line}
use Rattle.warg_audit.specs.LogKinds.{operator_log, package_log}
use Rattle.warg_protocol.specs.Logs.{AreKeysOf, EnvelopeData, KeyData}
use Rattle.warg_protocol.specs.Operator.{Defined, Imported, Namespace, OperatorOwnEntry, names}
use Rattle.warg_protocol.specs.Operator as in_operator
use Rattle.warg_protocol.specs.Package.{PackageOwnEntry, ReleaseState, ReleaseView}
use Rattle.warg_protocol.specs.Package as in_package
use Rattle.warg_protocol.specs.Records.{AnyHash, EntryData, RecordData, SharedEntry, hash_text, parts_text}
use Rattle.warg_protocol.specs.ReleaseStates.{Released, Yanked}
use Rattle.warg_protocol.specs.Texts.{Time, shown_time}
use Rattle.warg_log_records.specs.OperatorEntries.{DefineNamespace, ImportNamespace}
use Rattle.warg_log_records.specs.PackageEntries.{Release, Yank}
use Rattle.warg_log_records.specs.RecordData.{GrantFlat, Init, Own, RevokeFlat, Shared}

-- ---- texts

-- the new text is the old one, and behind it what P holds of
abbrev pub IsGrownBy : (List ℕ → Type 0) → List ℕ → List ℕ → Type 0
IsGrownBy P old new = (more : List ℕ) × P more × (new ≡ old ++ more)

-- ---- times

-- the date and the time of day that a clock at UTC shows then
abbrev pub IsShownAt : Time → DateTime → Type 0
IsShownAt time shown = civil_nanos shown ≡ time.seconds *ℤ pos 1_000_000_000 +ℤ pos time.nanos

-- a time as RFC 3339 has it, in UTC; where the calendar does not reach, its seconds and nanoseconds since 1970
pub data IsTimeText (time : Time) (text : List ℕ) : Type 0 where
  in_utc : IsTimestampParts time.seconds (pos time.nanos) → (shown : DateTime) → IsShownAt time shown → text ≡ iso_datetime_text shown ++ codes "Z" → IsTimeText time text
  beyond : (IsTimestampParts time.seconds (pos time.nanos) → ⊥) → text ≡ shown_time time → IsTimeText time text

-- ---- records

-- what is shown of a record: its time, and its entries in words
pub record RecordWords : Type 0 where
  pub time : Time
  pub entries : List (List ℕ)

-- entries in words, of a record that was made then
abbrev pub words_at : Time → List (List ℕ) → RecordWords
words_at time entries = record { time = time; entries = entries }

-- the texts one after another, a space before each
abbrev pub after_spaces : List (List ℕ) → List ℕ
after_spaces [] = []
after_spaces (text ∷ more) = (codes " " ++ text) ++ after_spaces more

-- the same, a comma and a space before each
abbrev pub after_commas : List (List ℕ) → List ℕ
after_commas [] = []
after_commas (text ∷ more) = (codes ", " ++ text) ++ after_commas more

-- the texts in a list, behind a space
abbrev pub comma_list : List (List ℕ) → List ℕ
comma_list [] = []
comma_list (text ∷ more) = codes " " ++ (text ++ after_commas more)

-- what is said of a record by its parts: a time, the signer's id, and the entries
abbrev pub record_line : List ℕ → List ℕ → List ℕ → List ℕ
record_line time key_id entries = time ++ (codes " " ++ (key_id ++ entries))

-- the text is said of a record of which this is shown, and which this key is said to have signed
abbrev pub IsRecordLine : List ℕ → RecordWords → List ℕ → Type 0
IsRecordLine key_id words text = (time : List ℕ) × IsTimeText words.time time × (text ≡ record_line time key_id (comma_list words.entries))

-- an entry that both kinds have
abbrev pub shared_words : {P : Type 0} → (P → List ℕ) → SharedEntry P → List ℕ
shared_words text_of (Init algorithm key) = codes "init " ++ named_bytes_text key
shared_words text_of (GrantFlat key permissions) = codes "grant " ++ (named_bytes_text key ++ after_spaces (map text_of permissions))
shared_words text_of (RevokeFlat key_id permissions) = codes "revoke " ++ (key_id ++ after_spaces (map text_of permissions))

-- an entry of a package log
abbrev pub package_entry_words : EntryData in_package.Permission PackageOwnEntry → List ℕ
package_entry_words (Shared entry) = shared_words in_package.permission_text entry
package_entry_words (Own (Release version content)) = codes "release " ++ (parts_text version ++ (codes " " ++ hash_text content))
package_entry_words (Own (Yank version)) = codes "yank " ++ parts_text version

-- an entry of an operator log
abbrev pub operator_entry_words : EntryData in_operator.Permission OperatorOwnEntry → List ℕ
operator_entry_words (Shared entry) = shared_words in_operator.permission_text entry
operator_entry_words (Own (DefineNamespace namespace)) = codes "define " ++ namespace
operator_entry_words (Own (ImportNamespace namespace registry)) = codes "import " ++ (namespace ++ (codes " " ++ registry))

-- the content bytes say a record of which this is shown
abbrev pub SaysWords : {M F : Type 0} → (List ℕ → Result M F) → (M → RecordWords) → List ℕ → RecordWords → Type 0
SaysWords {M} read words_of content words = (it : M) × (read content ≡ Ok it) × (words ≡ words_of it)

-- what is shown of a record of either kind, by the words of its entries
abbrev pub record_words : {P O : Type 0} → (EntryData P O → List ℕ) → RecordData P O → RecordWords
record_words entry_words it = words_at it.time (map entry_words it.entries)

abbrev pub says_package_words : List ℕ → RecordWords → Type 0
says_package_words content words = SaysWords package_log.read (record_words package_entry_words) content words

abbrev pub says_operator_words : List ℕ → RecordWords → Type 0
says_operator_words content words = SaysWords operator_log.read (record_words operator_entry_words) content words

-- what is said of the record that the content bytes of an envelope say
pub record IsLineOf (Says : List ℕ → RecordWords → Type 0) (envelope : EnvelopeData) (said : List ℕ) : Type 0 where
  pub words : RecordWords
  pub says : Says envelope.content words
  pub is : IsRecordLine envelope.key_id words said

-- ---- states

-- the line of a key: its id, the key, and what it holds
abbrev pub key_line : {P : Type 0} → (P → List ℕ) → KeyData P → List ℕ
key_line text_of key =
    line (printable (codes "key " ++ (key.id ++ (codes " " ++ (named_bytes_text key.key ++ after_spaces (map text_of (unwrap_or key.permissions [])))))))

-- the lines of keys, one after another
abbrev pub key_lines : {P : Type 0} → (P → List ℕ) → List (KeyData P) → List ℕ
key_lines text_of [] = []
key_lines text_of (key ∷ more) = key_line text_of key ++ key_lines text_of more

-- the line of a release that stands
abbrev pub released_line : List ℕ → AnyHash → List ℕ
released_line version content = line (printable (codes "release " ++ (version ++ (codes " " ++ hash_text content))))

-- the line of a release that was yanked, by who did it and when
abbrev pub yanked_line : List ℕ → List ℕ → List ℕ → List ℕ
yanked_line version by time = line (printable (codes "release " ++ (version ++ (codes " yanked by " ++ (by ++ (codes " at " ++ time))))))

-- the line of a release that stands, or was yanked
abbrev pub IsStandingLine : List ℕ → ReleaseState → List ℕ → Type 0
IsStandingLine version (Released content) text = text ≡ released_line version content
IsStandingLine version (Yanked by timestamp) text = (time : List ℕ) × IsTimeText timestamp time × (text ≡ yanked_line version by time)

abbrev pub IsReleaseLine : ReleaseView → List ℕ → Type 0
IsReleaseLine release text = IsStandingLine (parts_text release.version) release.state text

-- the lines of releases, one after another
abbrev pub AreReleaseLines : List ReleaseView → List ℕ → Type 0
AreReleaseLines [] text = text ≡ []
AreReleaseLines (release ∷ more) text = (first : List ℕ) × (rest : List ℕ) × IsReleaseLine release first × (text ≡ first ++ rest) × AreReleaseLines more rest

-- what is said of a namespace: its name, and what it is
abbrev pub namespace_words : List ℕ → Namespace → List ℕ
namespace_words name Defined = codes "namespace " ++ (name ++ codes " defined")
namespace_words name (Imported registry) = codes "namespace " ++ (name ++ (codes " imported from " ++ registry))

-- the line of a namespace
abbrev pub namespace_line : List ℕ → Namespace → List ℕ
namespace_line name it = line (printable (namespace_words name it))

-- the lines of namespaces, one after another
abbrev pub namespace_lines : List (List ℕ × Namespace) → List ℕ
namespace_lines [] = []
namespace_lines (it ∷ more) = namespace_line it.0 it.1 ++ namespace_lines more

-- the state of a package log: its keys, and its releases in order
pub record ShowsReleases (view : in_package.View) (text : List ℕ) : Type 0 where
  pub keys : List (KeyData in_package.Permission)
  pub are_keys : AreKeysOf in_package.same_permission view.state.authority keys
  pub releases : List ℕ
  pub are_releases : AreReleaseLines view.state.own_state releases
  pub is : text ≡ key_lines in_package.permission_text keys ++ releases

-- the state of an operator log: its keys, and its namespaces, each once
pub record ShowsNamespaces (view : in_operator.View) (text : List ℕ) : Type 0 where
  pub keys : List (KeyData in_operator.Permission)
  pub are_keys : AreKeysOf in_operator.same_permission view.state.authority keys
  pub namespaces : List (List ℕ × Namespace)
  pub named : (name : List ℕ) → names namespaces name ≡ view.state.own_state name
  pub once : IsDistinct bytes_eq (keys_of namespaces)
  pub is : text ≡ key_lines in_operator.permission_text keys ++ namespace_lines namespaces

-- the state that records of a package log lead to, and that of an operator log
abbrev pub shows_releases : List EnvelopeData → List ℕ → Type 0
shows_releases records text = ShowsReleases (package_log.kind.view_of records) text

abbrev pub shows_namespaces : List EnvelopeData → List ℕ → Type 0
shows_namespaces records text = ShowsNamespaces (operator_log.kind.view_of records) text
