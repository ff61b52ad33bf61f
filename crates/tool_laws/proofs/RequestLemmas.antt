-- What is answered to requests.
use Rattle.std.proofs.Common.{◌≡◌, ℕ, Bool, true, List, [], ◌∷◌, Option, refl}
use Rattle.std.specs.Prelude.{is_some}
use Rattle.warg_permissions.specs.OperatorPermissions as operator_permissions
use Rattle.warg_permissions.specs.PackagePermissions as package_permissions
use Rattle.warg_permissions.specs.declared.operator.Permission.{Permission as OperatorPermission}
use Rattle.warg_permissions.specs.declared.operator.Permission.TheVariants as operator_permission
use Rattle.warg_permissions.specs.declared.package.Permission.{Permission as PackagePermission}
use Rattle.warg_permissions.specs.declared.package.Permission.TheVariants as package_permission
use Rattle.warg_protocol.specs.Json.{in_text, text_of}
use Rattle.warg_protocol.specs.Logs.{SignatureRelation}
use Rattle.warg_protocol.specs.Operator as operators
use Rattle.warg_protocol.specs.Package as packages
use Rattle.tool_answers.specs.Explanations.{explains_operator, explains_package}
use Rattle.tool_answers.specs.ShownWords.{says_operator_words, says_package_words, shows_namespaces, shows_releases}
use Rattle.tool_answers.specs.Verdicts.{IsPrintedOf}
use Rattle.warg_audit.specs.Answers.{IsIdAnswer}
use Rattle.warg_audit.specs.LogKinds.{operator_log, package_log}
use Rattle.warg_audit.specs.Printouts.{OutputData}
use Rattle.warg_audit.specs.Files.Files.{Files}
use Rattle.warg_audit.specs.Files.RecordLines.{texts}
use Rattle.warg_audit.specs.declared.log_kind.LogKind.{LogKind}
use Rattle.warg_audit.specs.declared.log_kind.LogKind.TheVariants as log_kind
use Rattle.tool_questions.specs.Show.ShownLogs.{IsShown}
use Rattle.tool_questions.proofs.ShowLemmas.LineLemmas.{namespaces_text, releases_text}
use Rattle.tool_changes.specs.Latest.{IsLatestOf}
use Rattle.weoldrin.specs.Requests.{IsAskedAnswer, IsLatestAnswer, IsRequestAnswer, IsShownAnswer}
use Rattle.tool_words.specs.declared.request.LogQuery.{LogQuery}
use Rattle.tool_words.specs.declared.request.Request.{Request}
use Rattle.tool_words.specs.declared.request.Request.TheVariants as request
use Rattle.tool_laws.specs.Plain.Plain.{is_plain}
use Rattle.tool_laws.specs.Premises.{IfMakes}
use Rattle.tool_laws.proofs.AuditLemmas.{many_clean, one_clean}
use Rattle.tool_laws.proofs.CheckpointLemmas.{log_id_clean, proof_clean, statement_clean}
use Rattle.tool_laws.proofs.SignedLemmas.{checkpoint_clean}
use Rattle.tool_laws.proofs.FileLemmas.{lines_clean, words_clean}
use Rattle.tool_laws.proofs.KindLemmas.{operator_plain, package_plain}
use Rattle.tool_laws.proofs.LatestLemmas.{id_clean, latest_of_clean}
use Rattle.tool_laws.proofs.LineLemmas.{IsClean}
use Rattle.tool_laws.proofs.LogLemmas.{lawful_clean}
use Rattle.tool_laws.proofs.QuestionLemmas.{question_clean}
use Rattle.tool_laws.proofs.ShowLemmas.{show_clean}
use Rattle.tool_laws.proofs.TaskLemmas.{done_clean}
use Rattle.tool_laws.proofs.ViewLemmas.{leaf_clean, views_clean}

package_text_plain : (it : PackagePermission) → is_plain (package_permissions.permission_text it) ≡ true
package_text_plain package_permission.Release = refl
package_text_plain package_permission.Yank = refl

operator_text_plain : (it : OperatorPermission) → is_plain (operator_permissions.permission_text it) ≡ true
operator_text_plain operator_permission.Commit = refl
operator_text_plain operator_permission.DefineNamespace = refl
operator_text_plain operator_permission.ImportNamespace = refl

pub asked_clean : (kind : LogKind) (belongs : SignatureRelation) (files : Option Files) (it : LogQuery) (printed : OutputData)
    → IsAskedAnswer kind belongs files it printed → IsClean printed
asked_clean log_kind.Package belongs files it printed h =
    question_clean
    (record {
      shown = package_log;
      view = packages.view_of;
      json = λ state. text_of (packages.state_json state);
      reads = in_text packages.state_in;
      has_key = λ state key. is_some ((packages.view_of state).state.authority.key key);
      knows = λ state key. (packages.view_of state).state.authority.has_entry key;
      held = λ view key permission. view.state.authority.holds key permission;
      order = package_permission.Release ∷ package_permission.Yank ∷ [];
      text_of = packages.permission_text;
      effects = packages.effects;
      last = λ state. (packages.view_of state).head;
    })
    says_package_words package_plain package_text_plain belongs files it printed h
asked_clean log_kind.Operator belongs files it printed h =
    question_clean
    (record {
      shown = operator_log;
      view = operators.view_of;
      json = λ state. text_of (operators.state_json state);
      reads = in_text operators.state_in;
      has_key = λ state key. is_some ((operators.view_of state).state.authority.key key);
      knows = λ state key. (operators.view_of state).state.authority.has_entry key;
      held = λ view key permission. view.state.authority.holds key permission;
      order = operator_permission.Commit ∷ operator_permission.DefineNamespace ∷ operator_permission.ImportNamespace ∷ [];
      text_of = operators.permission_text;
      effects = operators.effects;
      last = λ state. (operators.view_of state).head;
    })
    says_operator_words operator_plain operator_text_plain belongs files it printed h

pub shown_clean : (kind : LogKind) (belongs : SignatureRelation) (files : Option Files) (path : List ℕ) (printed : OutputData)
    → IsShownAnswer kind belongs files path printed → IsClean printed
shown_clean log_kind.Package belongs files path printed h =
    lines_clean files path (IsShown package_log belongs says_package_words shows_releases explains_package)
    (show_clean package_log package_plain belongs says_package_words shows_releases explains_package releases_text) printed h
shown_clean log_kind.Operator belongs files path printed h =
    lines_clean files path (IsShown operator_log belongs says_operator_words shows_namespaces explains_operator)
    (show_clean operator_log operator_plain belongs says_operator_words shows_namespaces explains_operator namespaces_text) printed h

pub latest_clean : (belongs : SignatureRelation) (files : Option Files) (requirement path : List ℕ) (printed : OutputData)
    → IsLatestAnswer belongs files requirement path printed → IsClean printed
latest_clean belongs files requirement path printed h =
    words_clean printed h (λ wanted said by_lines.
    lines_clean files path (IsPrintedOf package_log belongs (IsLatestOf wanted))
    (lawful_clean package_log package_plain belongs (IsLatestOf wanted) (latest_of_clean wanted)) printed by_lines)

-- the answer to a request
pub request_clean : (json : Bool) (belongs : SignatureRelation) (old new : Option Files) (it : Request) (printed : OutputData)
    → IsRequestAnswer json belongs old new it printed → IfMakes it printed.text → IsClean printed
request_clean json belongs old new (request.Id kind path) printed h made = lines_clean old path.now (IsIdAnswer kind) (id_clean kind) printed h
request_clean json belongs old new (request.Audit kind path demands shows_path) printed h made = one_clean json old kind belongs demands shows_path path.now printed h
request_clean json belongs old new (request.Audits kind paths allows_empty) printed h made = many_clean json kind belongs old allows_empty (texts paths.items) printed h
request_clean json belongs old new (request.Show kind path) printed h made = shown_clean kind belongs old path.now printed h
request_clean json belongs old new (request.Latest requirement path) printed h made = latest_clean belongs old requirement.now path.now printed h
request_clean json belongs old new (request.LogId log) printed h made = log_id_clean log printed h
request_clean json belongs old new (request.Leaf leaf) printed h made = leaf_clean leaf printed h
request_clean json belongs old new (request.Prove wanted path) printed h made = proof_clean old wanted path.now printed h
request_clean json belongs old new (request.Verify statement) printed h made = statement_clean old statement printed h
request_clean json belongs old new (request.Compare views) printed h made = views_clean old views printed h
request_clean json belongs old new (request.Checkpoint query) printed h made = checkpoint_clean belongs old query printed h
request_clean json belongs old new (request.Ask kind question) printed h made = asked_clean kind belongs old question printed h
request_clean json belongs old new (request.Do kind it) printed h made = done_clean kind belongs old new it printed h made
