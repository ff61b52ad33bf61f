-- What is answered to requests, by the words that they have and what the files that they name hold.
use Rattle.std.specs.Prelude.{◌≡◌, ◌⊎◌, ℕ, Bool, true, false, List, [], ◌∷◌, Option, Some, None, is_some, IsUtf8}
use Rattle.std.specs.Borrow.{Bor}
use Rattle.std.specs.Str.Lines.{lines}
use Rattle.warg_permissions.specs.declared.operator.Permission.TheVariants as operator_permission
use Rattle.warg_permissions.specs.declared.package.Permission.TheVariants as package_permission
use Rattle.warg_protocol.specs.Json.{in_text, text_of}
use Rattle.warg_protocol.specs.Logs.{SignatureRelation}
use Rattle.warg_protocol.specs.Operator as operators
use Rattle.warg_protocol.specs.Package as packages
use Rattle.warg_audit.specs.Answers.{IsIdAnswer}
use Rattle.warg_audit.specs.LogKinds.{operator_log, package_log}
use Rattle.warg_audit.specs.declared.log_kind.LogKind.{LogKind}
use Rattle.warg_audit.specs.declared.log_kind.LogKind.TheVariants as log_kind
use Rattle.warg_audit.specs.Printouts.{OutputData}
use Rattle.warg_claims.specs.Verified.Claims.{ClaimData, is_claimed}
use Rattle.warg_claims.specs.Verified.Texts.{IsReadFrom}
use Rattle.warg_audit.specs.Files.Files.{Files}
use Rattle.tool_changes.specs.JsonLines.{IsInJson}
use Rattle.tool_changes.specs.ManyAudits.{IsManyAnswer, IsOneAnswer}
use Rattle.tool_checkpoints.specs.CheckpointAnswers.{IsCheckpointAnswer}
use Rattle.tool_checkpoints.specs.Comparisons.{IsViewsAnswer}
use Rattle.tool_checkpoints.specs.LeafTexts.{IsLeafAnswer}
use Rattle.tool_checkpoints.specs.LogIdTexts.{IsLogIdAnswer}
use Rattle.tool_checkpoints.specs.ProofTexts.{IsProofAnswer}
use Rattle.tool_checkpoints.specs.Proofs.{IsStatementVerdict}
use Rattle.tool_checkpoints.specs.Words.{IsByWords, IsIn, IsUnsaidIn}
use Rattle.tool_changes.specs.Latest.{IsLatestOf, IsRequirement}
use Rattle.tool_questions.specs.QuestionAnswers.{IsQuestionAnswer}
use Rattle.warg_audit.specs.Files.RecordLines.{texts}
use Rattle.tool_answers.specs.Explanations.{explains_operator, explains_package}
use Rattle.tool_answers.specs.ShownWords.{says_operator_words, says_package_words, shows_namespaces, shows_releases}
use Rattle.tool_questions.specs.Show.ShownLogs.{IsShown}
use Rattle.tool_changes.specs.Tasks.{DoneLeaves, IsDoneAnswer}
use Rattle.warg_audit.specs.Files.Unusable.{IsOfLines}
use Rattle.warg_audit.specs.Files.Answers.{output_data}
use Rattle.warg_audit.specs.declared.files.command_error.CommandError.{CommandError}
use Rattle.warg_audit.specs.declared.files.command_error.CommandError.TheVariants as command_error
use Rattle.tool_answers.specs.Verdicts.{IsPrintedOf}
use Rattle.tool_layout.specs.declared.look.Look.{Look}
use Rattle.weoldrin.specs.Looks.{as_it_is, IsNamed, IsUnnamed, laid_out, layout_of}
use Rattle.weoldrin.specs.Schemes.{asked_belongs}
use Rattle.tool_words.specs.declared.request.Invocation.{Invocation}
use Rattle.tool_words.specs.declared.request.LogQuery.{LogQuery}
use Rattle.tool_words.specs.declared.request.Request.{Request}
use Rattle.tool_words.specs.declared.request.Request.TheVariants as request

-- what is printed of the log of a kind in words
abbrev pub IsShownAnswer : LogKind → SignatureRelation → Option Files → List ℕ → OutputData → Type 0
IsShownAnswer log_kind.Package belongs files path printed =
    IsOfLines files path (IsShown package_log belongs says_package_words shows_releases explains_package) printed
IsShownAnswer log_kind.Operator belongs files path printed =
    IsOfLines files path (IsShown operator_log belongs says_operator_words shows_namespaces explains_operator) printed

-- what is answered to a question on logs of a kind
abbrev pub IsAskedAnswer : LogKind → SignatureRelation → Option Files → LogQuery → OutputData → Type 0
IsAskedAnswer log_kind.Package belongs files question printed =
    IsQuestionAnswer (record {
      shown = package_log;
      view = packages.view_of;
      json = λ state. text_of (packages.state_json state);
      reads = in_text packages.state_in;
      has_key = λ state key. is_some ((packages.view_of state).state.authority.key key);
      knows = λ state key. (packages.view_of state).state.authority.has_entry key;
      held = λ view key permission. view.state.authority.holds key permission;
      order = package_permission.Release ∷ package_permission.Yank ∷ [];
      text_of = packages.permission_text;
      effects = packages.effects;
      last = λ state. (packages.view_of state).head;
    }) says_package_words belongs files question printed
IsAskedAnswer log_kind.Operator belongs files question printed =
    IsQuestionAnswer (record {
      shown = operator_log;
      view = operators.view_of;
      json = λ state. text_of (operators.state_json state);
      reads = in_text operators.state_in;
      has_key = λ state key. is_some ((operators.view_of state).state.authority.key key);
      knows = λ state key. (operators.view_of state).state.authority.has_entry key;
      held = λ view key permission. view.state.authority.holds key permission;
      order = operator_permission.Commit ∷ operator_permission.DefineNamespace ∷ operator_permission.ImportNamespace ∷ [];
      text_of = operators.permission_text;
      effects = operators.effects;
      last = λ state. (operators.view_of state).head;
    }) says_operator_words belongs files question printed

-- the greatest release of the log in a file that meets the requirement that a word says
abbrev pub IsLatestAnswer : SignatureRelation → Option Files → List ℕ → List ℕ → OutputData → Type 0
IsLatestAnswer belongs files requirement path printed =
    IsByWords (IsRequirement requirement) (λ wanted. IsOfLines files path (IsPrintedOf package_log belongs (IsLatestOf wanted))) printed

-- what is answered to a request, by what files hold before and after; verdicts behind paths may be in JSON
abbrev pub IsRequestAnswer : Bool → SignatureRelation → Option Files → Option Files → Request → OutputData → Type 0
IsRequestAnswer json belongs old new (request.Id kind path) printed = IsOfLines old path.now (IsIdAnswer kind) printed
IsRequestAnswer json belongs old new (request.Audit kind path demands shows_path) printed = IsOneAnswer json kind belongs old demands shows_path path.now printed
IsRequestAnswer json belongs old new (request.Audits kind paths allows_empty) printed = IsManyAnswer json kind belongs old allows_empty (texts paths.items) printed
IsRequestAnswer json belongs old new (request.Show kind path) printed = IsShownAnswer kind belongs old path.now printed
IsRequestAnswer json belongs old new (request.Latest requirement path) printed = IsLatestAnswer belongs old requirement.now path.now printed
IsRequestAnswer json belongs old new (request.LogId log) printed = IsLogIdAnswer log printed
IsRequestAnswer json belongs old new (request.Leaf leaf) printed = IsLeafAnswer leaf printed
IsRequestAnswer json belongs old new (request.Prove wanted path) printed = IsProofAnswer old wanted path.now printed
IsRequestAnswer json belongs old new (request.Verify statement) printed = IsStatementVerdict old statement printed
IsRequestAnswer json belongs old new (request.Compare views) printed = IsViewsAnswer old views printed
IsRequestAnswer json belongs old new (request.Checkpoint query) printed = IsCheckpointAnswer old belongs query printed
IsRequestAnswer json belongs old new (request.Ask kind question) printed = IsAskedAnswer kind belongs old question printed
IsRequestAnswer json belongs old new (request.Do kind task) printed = IsDoneAnswer kind belongs old new task printed

-- what files hold after a request: what they held, unless records are added
abbrev pub RequestLeaves : SignatureRelation → Option Files → Option Files → Request → Type 0
RequestLeaves belongs old new (request.Id kind path) = new ≡ old
RequestLeaves belongs old new (request.Audit kind path demands shows_path) = new ≡ old
RequestLeaves belongs old new (request.Audits kind paths allows_empty) = new ≡ old
RequestLeaves belongs old new (request.Show kind path) = new ≡ old
RequestLeaves belongs old new (request.Latest requirement path) = new ≡ old
RequestLeaves belongs old new (request.LogId log) = new ≡ old
RequestLeaves belongs old new (request.Leaf leaf) = new ≡ old
RequestLeaves belongs old new (request.Prove wanted path) = new ≡ old
RequestLeaves belongs old new (request.Verify statement) = new ≡ old
RequestLeaves belongs old new (request.Compare views) = new ≡ old
RequestLeaves belongs old new (request.Checkpoint query) = new ≡ old
RequestLeaves belongs old new (request.Ask kind question) = new ≡ old
RequestLeaves belongs old new (request.Do kind task) = DoneLeaves kind belongs old new task

-- whether each verdict is asked for behind its path
abbrev pub is_many : Request → Bool
is_many (request.Id kind path) = false
is_many (request.Audit kind path demands shows_path) = shows_path
is_many (request.Audits kind paths allows_empty) = true
is_many (request.Show kind path) = false
is_many (request.Latest requirement path) = false
is_many (request.LogId log) = false
is_many (request.Leaf leaf) = false
is_many (request.Prove wanted path) = false
is_many (request.Verify statement) = false
is_many (request.Compare views) = false
is_many (request.Checkpoint query) = false
is_many (request.Ask kind question) = false
is_many (request.Do kind task) = false

-- what is printed of an answer, beside what is told on standard error: its text laid out so, or its JSON
abbrev pub IsRendered : Bool → List ℕ → (List ℕ → List ℕ) → OutputData → List ℕ → OutputData → Type 0
IsRendered false command layout plain told printed = printed ≡ laid_out layout plain
IsRendered true command layout plain told printed = IsInJson command plain told printed

-- the same of an answer of which P holds
abbrev pub IsRenderedAs : Bool → List ℕ → (List ℕ → List ℕ) → (OutputData → Type 0) → List ℕ → OutputData → Type 0
IsRenderedAs json command layout P told printed = (plain : OutputData) × P plain × IsRendered json command layout plain told printed

-- what is printed of the answer that ends a command before its own
abbrev pub IsErrorRendered : Bool → List ℕ → CommandError → List ℕ → OutputData → Type 0
IsErrorRendered json command (command_error.Output answer) told printed = IsRendered json command as_it_is (output_data answer) told printed
IsErrorRendered json command command_error.OutOfMemory told printed = ⊥

-- what is printed to a request of which P holds; verdicts behind paths have an object for each log already
abbrev pub IsRenderedTo : Bool → Bool → List ℕ → (List ℕ → List ℕ) → (OutputData → Type 0) → List ℕ → OutputData → Type 0
IsRenderedTo false json command layout P told printed = IsRenderedAs json command layout P told printed
IsRenderedTo true json command layout P told printed = P printed

-- what is printed to a request in a look, beside what is told on standard error
abbrev pub IsResponse : Bool → List ℕ → Look → SignatureRelation → Option Files → Option Files → Request → List ℕ → OutputData → Type 0
IsResponse json command look belongs old new it told printed =
    IsRenderedTo (is_many it) json command (layout_of it look) (IsRequestAnswer json belongs old new it) told printed

-- what is answered to an invocation in a look, by which signatures belong
abbrev pub IsResponseTo : Look → SignatureRelation → Option Files → Option Files → Invocation → List ℕ → OutputData → Type 0
IsResponseTo look belongs old new it told printed =
    IsResponse it.json it.command.now look belongs old new it.request told printed

-- the lines of the text that bytes are say claims, and these are what is held
pub record SaysClaims (bytes : List ℕ) (claims : List ClaimData) : Type 0 where
  pub utf8 : IsUtf8 bytes
  pub said : IsReadFrom (lines bytes) claims

-- P of what tells which signatures belong: the schemes that are asked for, or the claims that a file lists; Unread of its path, if it lists none
abbrev pub IsUnder : Option Files → Bool → Option (Bor (List ℕ)) → (List ℕ → Type 0) → (SignatureRelation → Type 0) → Type 0
IsUnder files toy None Unread P = P (asked_belongs toy)
IsUnder files toy (Some path) Unread P = Unread path.now ⊎ ((claims : List ClaimData) × IsIn files path.now SaysClaims claims × P (is_claimed claims))

-- what is answered to an invocation in a look, under the verifier that it names
abbrev pub IsAnswerIn : Look → Option Files → Option Files → Invocation → List ℕ → OutputData → Type 0
IsAnswerIn look old new it told printed =
    IsUnder old it.toy it.verified (λ path. IsRenderedAs it.json it.command.now as_it_is (IsUnsaidIn old path SaysClaims) told printed)
    (λ belongs. IsResponseTo look belongs old new it told printed)

-- what files hold after that
abbrev pub AnswerLeaves : Option Files → Option Files → Invocation → Type 0
AnswerLeaves old new it = IsUnder old it.toy it.verified (λ path. new ≡ old) (λ belongs. RequestLeaves belongs old new it.request)

-- what is answered to an invocation, by what files hold before and after, beside what is told on standard error; names are read first
abbrev pub IsInvocationAnswer : Option Files → Option Files → Invocation → List ℕ → OutputData → Type 0
IsInvocationAnswer old new it told printed =
    IsNamed old it.names (λ path. IsRenderedAs it.json it.command.now as_it_is (IsUnnamed old path) told printed)
    (λ names. IsAnswerIn (record { full = it.full; names = names }) old new it told printed)

-- what files hold after it
abbrev pub InvocationLeaves : Option Files → Option Files → Invocation → Type 0
InvocationLeaves old new it = IsNamed old it.names (λ path. new ≡ old) (λ names. AnswerLeaves old new it)
