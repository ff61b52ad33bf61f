-- Logs of both kinds are plain: their hashes are of bytes, and the versions of releases were read from texts.
use Rattle.std.proofs.Common.{◌≡◌, ℕ, true, List, [], ◌∷◌, ◌++◌, codes, map, Option, Some, None, refl}
use Rattle.std.specs.List.{last_or}
use Rattle.std.specs.Option.{option_map}
use Rattle.semver.specs.Identifiers.{parts_text}
use Rattle.warg_crypto.specs.HashText.{hash_text}
use Rattle.warg_audit.specs.LogAnswers.{head_text}
use Rattle.warg_audit.specs.LogKinds.{operator_log, package_log}
use Rattle.warg_audit.specs.ReleaseLines.{release_line, release_lines, release_state_text}
use Rattle.warg_crypto.specs.Json.Json.{AreReadBack}
use Rattle.warg_envelope.specs.EnvelopeData.{EnvelopeData}
use Rattle.warg_log.specs.KindOfRules.{signed_record_of}
use Rattle.warg_log.specs.Rules.{SignedRecord, head_of}
use Rattle.warg_log.specs.declared.head.Head.{Head}
use Rattle.warg_operator_log.specs.Namespaces as namespaces
use Rattle.warg_operator_log.specs.StateLaws.{listed_namespaces}
use Rattle.warg_operator_log.specs.OffenceNames.{namespace_offence_name}
use Rattle.warg_package_log.specs.OffenceNames.{release_offence_name}
use Rattle.warg_package_log.specs.ReadVersionLaws.{read_versions}
use Rattle.warg_package_log.specs.Releases.{ReleaseView, versions}
use Rattle.warg_package_log.specs.Releases as releases
use Rattle.warg_package_log.specs.declared.release.ReleaseState.{ReleaseState}
use Rattle.warg_package_log.specs.declared.release.ReleaseState.TheVariants.{Released, Yanked}
use Rattle.warg_permissions.specs.OperatorPermissions as operator_permissions
use Rattle.warg_permissions.specs.PackagePermissions as package_permissions
use Rattle.warg_log_records.specs.PackageReading.{package_record_of}
use Rattle.warg_package_log.specs.ListedReleases.{listed_releases}
use Rattle.warg_envelope.specs.Envelopes.{envelope_of}
use Rattle.warg_log_records.specs.OperatorReading.{operator_record_of}
use Rattle.warg_log_records.specs.RecordHashes.{operator_record_message, package_record_message}
use Rattle.warg_log_records.specs.declared.record_id.RecordId.{RecordId}
use Rattle.tool_laws.specs.Plain.Plain.{is_plain}
use Rattle.tool_laws.proofs.PlainLemmas.ByteLemmas.{sha256_bytes}
use Rattle.tool_laws.proofs.PlainLemmas.PlainLemmas.{plain_append}
use Rattle.tool_laws.proofs.PlainLemmas.VersionLemmas.{version_plain}
use Rattle.tool_laws.proofs.PlainLemmas.WordLemmas.{hash_plain}
use Rattle.warg_printable.specs.Lines.{IsPrintedText}
use Rattle.warg_printable.proofs.LineLemmas.{both_lines, no_lines}
use Rattle.tool_laws.proofs.ClaimLemmas.{claims_bytes, from_test}
use Rattle.tool_laws.proofs.ContentBytes.{envelope_bytes}
use Rattle.tool_laws.proofs.ContentLemmas.{HaveBytes, StateHasBytes, contents_read, open_package}
use Rattle.tool_laws.proofs.LineLemmas.{line_text, plain_front, plain_line}
use Rattle.tool_laws.proofs.LogLemmas.{IsPlainLog}
use Rattle.tool_laws.proofs.NameLemmas.{namespace_offence_plain, offence_plain, record_fault_plain, release_offence_plain}

-- ---- hashes

package_id_plain : (content : List ℕ) → is_plain (hash_text (package_log.kind.id content).hash) ≡ true
package_id_plain content = hash_plain (package_log.kind.id content).hash (sha256_bytes (package_record_message content))

operator_id_plain : (content : List ℕ) → is_plain (hash_text (operator_log.kind.id content).hash) ≡ true
operator_id_plain content = hash_plain (operator_log.kind.id content).hash (sha256_bytes (operator_record_message content))

module _ {P O : Type 0} (id : List ℕ → RecordId) (ids : (content : List ℕ) → is_plain (hash_text (id content).hash) ≡ true) where
  head_plain : (o : Option (SignedRecord P O)) → is_plain (head_text (option_map (λ (h : Head). h.digest) (option_map (head_of id) o))) ≡ true
  head_plain None = refl
  head_plain (Some r) = ids r.envelope.content

package_head_plain : (es : List EnvelopeData) → is_plain (head_text (package_log.kind.head (package_log.kind.view_of es))) ≡ true
package_head_plain es = head_plain releases.record_id_of package_id_plain (last_or None (map open_package es))

operator_head_plain : (es : List EnvelopeData) → is_plain (head_text (operator_log.kind.head (operator_log.kind.view_of es))) ≡ true
operator_head_plain es =
    head_plain namespaces.record_id_of operator_id_plain
    (last_or None (map (signed_record_of namespaces.rules operator_permissions.same_permission operator_record_of) es))

-- ---- releases

state_one : (state : ReleaseState) → StateHasBytes state → is_plain (release_state_text state) ≡ true
state_one (Released content) h = plain_append (codes " released ") (hash_text content) refl (hash_plain content h)
state_one (Yanked by timestamp) h = refl

lines_clean : (all : List ReleaseView) → AreReadBack (versions all) → HaveBytes all → IsPrintedText (release_lines all)
lines_clean [] v h = no_lines
lines_clean (release ∷ more) v h =
    both_lines (release_line release) (release_lines more)
    (line_text (release_line release)
    (plain_front (parts_text release.version) (release_state_text release.state ++ codes "\n") (version_plain release.version v.0)
    (plain_line (release_state_text release.state) (state_one release.state h.0))))
    (lines_clean more v.1 h.1)

-- the releases of a package log
abbrev pub releases_in : List EnvelopeData → List ReleaseView
releases_in es = (package_log.kind.view_of es).state.own_state

-- their versions read back, and their hashes are of bytes
pub versions_in : (es : List EnvelopeData) → AreReadBack (versions (releases_in es))
versions_in es = read_versions es

pub contents_in : (es : List EnvelopeData) → HaveBytes (releases_in es)
contents_in es = contents_read es

-- ---- both kinds

pub package_plain : IsPlainLog package_log
package_plain = record {
  faults = record_fault_plain;
  offences = offence_plain release_offence_name release_offence_plain;
  ids = package_id_plain;
  heads = package_head_plain;
  shown = λ es. lines_clean (releases_in es) (versions_in es) (contents_in es);
  claims = claims_bytes releases.rules package_permissions.same_permission package_record_of listed_releases (from_test (releases.rules.signing_prefix ++ 58 ∷ []) refl)
      (envelope_of package_record_of) (envelope_bytes package_record_of);
}

pub operator_plain : IsPlainLog operator_log
operator_plain = record {
  faults = record_fault_plain;
  offences = offence_plain namespace_offence_name namespace_offence_plain;
  ids = operator_id_plain;
  heads = operator_head_plain;
  shown = λ es. no_lines;
  claims = claims_bytes namespaces.rules operator_permissions.same_permission operator_record_of listed_namespaces (from_test (namespaces.rules.signing_prefix ++ 58 ∷ []) refl)
      (envelope_of operator_record_of) (envelope_bytes operator_record_of);
}
