-- What is answered of ids and of the latest release.
use Rattle.std.proofs.Common.{◌≡◌, ◌<◌, ℕ, zero, suc, true, List, [], ◌∷◌, ◌++◌, codes, length, Option, Some, None, Ok, refl, subst, arith}
use Rattle.std.specs.Prelude.{slice_index_or}
use Rattle.std.specs.List.{AllByRecursion, Contains}
use Rattle.semver.specs.Identifiers.{parts_text}
use Rattle.semver.specs.Parse.{version_parts}
use Rattle.semver.specs.declared.Comparator.{Comparator}
use Rattle.warg_audit.specs.Answers.{IsEnvelopeAnswer, IsIdAnswer, bad_digits, has_fault, is_read, no_line, one_line, record_id_of, second_line}
use Rattle.warg_audit.specs.Printouts.{OutputData, bad_line, record_id, refused_line}
use Rattle.tool_answers.specs.Verdicts.{envelopes_of}
use Rattle.warg_audit.specs.LogKinds.{package_log}
use Rattle.warg_envelope.specs.FaultNames.{error_name}
use Rattle.warg_envelope.specs.declared.proto_envelope.error.ParseEnvelopeError.TheVariants.{ProtobufEnvelope}
use Rattle.warg_crypto.specs.Json.Json.{AreReadBack}
use Rattle.warg_audit.specs.declared.log_kind.LogKind.{LogKind}
use Rattle.warg_audit.specs.declared.log_kind.LogKind.TheVariants.{Operator, Package}
use Rattle.warg_package_log.specs.Latest.{IsGreatest, shown_cmp, shows_candidate}
use Rattle.warg_package_log.specs.Releases.{ReleaseView, content_of, versions}
use Rattle.warg_package_log.specs.declared.release.ReleaseState.{ReleaseState}
use Rattle.warg_package_log.specs.declared.release.ReleaseState.TheVariants.{Released, Yanked}
use Rattle.warg_protocol.specs.Records.{hash_text}
use Rattle.warg_log_records.specs.RecordHashes.{operator_record_message, package_record_message}
use Rattle.tool_changes.specs.Latest.{IsLatestOf, content_text, latest_text}
use Rattle.tool_laws.specs.Plain.Plain.{is_plain}
use Rattle.tool_laws.proofs.PlainLemmas.ByteLemmas.{sha256_bytes}
use Rattle.tool_laws.proofs.PlainLemmas.VersionLemmas.{version_plain}
use Rattle.tool_laws.proofs.PlainLemmas.WordLemmas.{hash_plain}
use Rattle.warg_printable.specs.Lines.{IsPrintedText}
use Rattle.tool_laws.proofs.ContentLemmas.{HaveBytes, StateHasBytes}
use Rattle.tool_laws.proofs.KindLemmas.{contents_in, releases_in, versions_in}
use Rattle.tool_laws.proofs.LineLemmas.{IsClean, clean_line, clean_same, line_text, plain_line, word_front}
use Rattle.tool_laws.proofs.LogLemmas.{bad_one, refused_one}
use Rattle.tool_laws.proofs.NameLemmas.{error_plain}

-- ---- ids

id_plain : (kind : LogKind) (content : List ℕ) → is_plain (hash_text (record_id_of kind content).hash) ≡ true
id_plain Package content = hash_plain (record_id_of Package content).hash (sha256_bytes (package_record_message content))
id_plain Operator content = hash_plain (record_id_of Operator content).hash (sha256_bytes (operator_record_message content))

envelope_clean : (kind : LogKind) (bytes : List ℕ) (printed : OutputData) → IsEnvelopeAnswer kind bytes printed → IsClean printed
envelope_clean kind bytes printed (is_read envelope h is) =
    clean_line printed (record_id (record_id_of kind envelope.contents)) is (plain_line (hash_text (record_id_of kind envelope.contents).hash) (id_plain kind envelope.contents))
envelope_clean kind bytes printed (has_fault fault h is) =
    clean_line printed (refused_line 0 (error_name (ProtobufEnvelope fault))) is
    (refused_one 0 (error_name (ProtobufEnvelope fault)) (error_plain (ProtobufEnvelope fault)))

pub id_clean : (kind : LogKind) (lines : List (List ℕ)) (printed : OutputData) → IsIdAnswer kind lines printed → IsClean printed
id_clean kind lines printed (no_line none is) = clean_line printed (bad_line 0) is (bad_one 0)
id_clean kind lines printed (bad_digits line more are bad is) = clean_line printed (bad_line 0) is (bad_one 0)
id_clean kind lines printed (second_line line bytes next more are spelled is) = clean_line printed (bad_line 1) is (bad_one 1)
id_clean kind lines printed (one_line line bytes are spelled h) = envelope_clean kind bytes printed h

-- ---- the latest release

-- a release whose version reads back, and whose content's hash is of bytes
abbrev IsReadRelease : ReleaseView → Type 0
IsReadRelease release = (version_parts (parts_text release.version) ≡ Ok release.version) × StateHasBytes release.state

all_read : (all : List ReleaseView) → AreReadBack (versions all) → HaveBytes all → AllByRecursion IsReadRelease all
all_read [] v h = tt
all_read (release ∷ more) v h = ((v.0, h.0), all_read more v.1 h.1)

read_at : (all : List ReleaseView) → AllByRecursion IsReadRelease all → (k : ℕ) (d : ReleaseView) → k < length all
    → IsReadRelease (slice_index_or all k d)
read_at [] h k d below = absurd (omega arith)
read_at (release ∷ more) h zero d below = h.0
read_at (release ∷ more) h (suc k) d below = read_at more h.1 k d (omega arith)

content_clean : (version : List ℕ) (state : ReleaseState) → is_plain version ≡ true → StateHasBytes state
    → IsPrintedText (content_text version (content_of state)).text
content_clean version (Released content) v h = line_text (version ++ (codes " " ++ (hash_text content ++ codes "\n"))) (word_front version (hash_text content ++ codes "\n") v (plain_line (hash_text content) (hash_plain content h)))
content_clean version (Yanked by timestamp) v h = line_text (codes "none\n") (plain_line (codes "none") refl)

latest_clean : (all : List ReleaseView) → AllByRecursion IsReadRelease all → (wanted : List Comparator) (release : Option ReleaseView)
    → IsGreatest (shows_candidate wanted) shown_cmp all release → IsPrintedText (latest_text release).text
latest_clean all h wanted None greatest = line_text (codes "none\n") (plain_line (codes "none") refl)
latest_clean all h wanted (Some release) greatest =
    let in_all : Contains all release = greatest.0 in
    let it : IsReadRelease release = subst IsReadRelease in_all.2 (read_at all h in_all.0 release in_all.1) in
    content_clean (parts_text release.version) release.state (version_plain release.version it.0) it.1

pub latest_of_clean : (wanted : List Comparator) (inputs : List (List ℕ)) (printed : OutputData) → IsLatestOf wanted inputs printed → IsClean printed
latest_of_clean wanted inputs printed h =
    let es = envelopes_of package_log inputs in
    clean_same printed (latest_text h.release) h.is
    (latest_clean (releases_in es) (all_read (releases_in es) (versions_in es) (contents_in es)) wanted h.release h.greatest)
