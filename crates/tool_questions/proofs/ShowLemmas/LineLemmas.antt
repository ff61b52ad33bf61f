-- The lines of logs in words.
use Rattle.std.proofs.Common.{ℕ, ◌+◌, List, [], ◌∷◌, ◌++◌, codes, map, Option, unwrap_or}
use Rattle.std.specs.Fmt.{decimal}
use Rattle.warg_protocol.specs.Texts.{named_bytes_text}
use Rattle.warg_protocol.specs.Logs.{EnvelopeData, KeyData}
use Rattle.warg_protocol.specs.Operator.{Defined, Imported, Namespace}
use Rattle.warg_protocol.specs.Package.{ReleaseState, ReleaseView}
use Rattle.warg_protocol.specs.Records.{RecordId, hash_text, parts_text}
use Rattle.warg_protocol.specs.ReleaseStates.{Released, Yanked}
use Rattle.warg_protocol.specs.Operator as operators
use Rattle.warg_protocol.specs.Package as packages
use Rattle.warg_audit.specs.LogAnswers.{head_text}
use Rattle.warg_audit.specs.LogKinds.{package_log}
use Rattle.tool_answers.specs.ShownWords.{AreReleaseLines, IsStandingLine, RecordWords, after_spaces, key_line, key_lines, namespace_line, namespace_lines, shows_namespaces, shows_releases}
use Rattle.warg_printable.specs.Lines.{IsPrintedText}
use Rattle.warg_printable.proofs.LineLemmas.{both_lines, no_lines, one_line, same_lines}
use Rattle.tool_questions.specs.Show.ShownLogs.{IsLogText, head_line, lines_with_places, placed_line}

placed : (place : ℕ) (lines : List (List ℕ)) → IsPrintedText (lines_with_places place lines)
placed place [] = no_lines
placed place (said ∷ more) =
    both_lines (placed_line place said) (lines_with_places (place + 1) more) (one_line (decimal place ++ (codes " " ++ said))) (placed (place + 1) more)

module _ {P : Type 0} (text_of : P → List ℕ) where
  keys_shown : (keys : List (KeyData P)) → IsPrintedText (key_lines text_of keys)
  keys_shown [] = no_lines
  keys_shown (key ∷ more) =
      both_lines (key_line text_of key) (key_lines text_of more)
      (one_line (codes "key " ++ (key.id ++ (codes " " ++ (named_bytes_text key.key ++ after_spaces (map text_of (unwrap_or key.permissions []))))))) (keys_shown more)

standing : (version text : List ℕ) (state : ReleaseState) → IsStandingLine version state text → IsPrintedText text
standing version text (Released content) is = same_lines text _ is (one_line (codes "release " ++ (version ++ (codes " " ++ hash_text content))))
standing version text (Yanked by timestamp) is =
    same_lines text _ is.2 (one_line (codes "release " ++ (version ++ (codes " yanked by " ++ (by ++ (codes " at " ++ is.0))))))

releases_shown : (releases : List ReleaseView) (text : List ℕ) → AreReleaseLines releases text → IsPrintedText text
releases_shown [] text none = same_lines text [] none no_lines
releases_shown (release ∷ more) text are =
    same_lines text (are.0 ++ are.1) are.3
    (both_lines are.0 are.1 (standing (parts_text release.version) are.0 release.state are.2) (releases_shown more are.1 are.4))

one_namespace : (name : List ℕ) (it : Namespace) → IsPrintedText (namespace_line name it)
one_namespace name Defined = one_line (codes "namespace " ++ (name ++ codes " defined"))
one_namespace name (Imported registry) = one_line (codes "namespace " ++ (name ++ (codes " imported from " ++ registry)))

namespaces_shown : (all : List (List ℕ × Namespace)) → IsPrintedText (namespace_lines all)
namespaces_shown [] = no_lines
namespaces_shown (it ∷ more) = both_lines (namespace_line it.0 it.1) (namespace_lines more) (one_namespace it.0 it.1) (namespaces_shown more)

pub releases_text : (records : List EnvelopeData) (text : List ℕ) → shows_releases records text → IsPrintedText text
releases_text records text h =
    same_lines text (key_lines packages.permission_text h.keys ++ h.releases) h.is
    (both_lines (key_lines packages.permission_text h.keys) h.releases (keys_shown packages.permission_text h.keys)
    (releases_shown (package_log.kind.view_of records).state.own_state h.releases h.are_releases))

pub namespaces_text : (records : List EnvelopeData) (text : List ℕ) → shows_namespaces records text → IsPrintedText text
namespaces_text records text h =
    same_lines text (key_lines operators.permission_text h.keys ++ namespace_lines h.namespaces) h.is
    (both_lines (key_lines operators.permission_text h.keys) (namespace_lines h.namespaces) (keys_shown operators.permission_text h.keys)
    (namespaces_shown h.namespaces))

module _ (Says : List ℕ → RecordWords → Type 0) (Shows : List EnvelopeData → List ℕ → Type 0)
    (shown : (records : List EnvelopeData) (text : List ℕ) → Shows records text → IsPrintedText text) where
  -- a log in words is lines with no hidden character in them
  pub log_lines : (id : List ℕ → RecordId) (head : Option RecordId) (envelopes : List EnvelopeData) (text : List ℕ)
      → IsLogText id Says head Shows envelopes text → IsPrintedText text
  log_lines id head envelopes text h =
      same_lines text _ h.is
      (both_lines h.records (head_line head ++ h.state)
      (same_lines h.records _ h.are_records.is (placed 0 h.are_records.lines))
      (both_lines (head_line head) h.state (one_line (codes "head " ++ head_text head)) (shown envelopes h.state h.is_state)))
