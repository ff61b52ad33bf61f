-- What is answered to invocations: laid out for people, or in JSON.
use Rattle.std.proofs.Common.{◌≡◌, ℕ, Bool, true, false, List, [], Option, Some, None, inl, inr, subst}
use Rattle.std.specs.Prelude.{IfOk}
use Rattle.std.specs.Borrow.{Bor}
use Rattle.std.specs.Str.Lines.{lines}
use Rattle.warg_protocol.specs.Logs.{SignatureRelation}
use Rattle.warg_audit.specs.Printouts.{OutputData}
use Rattle.warg_audit.specs.Files.Answers.{IsUnusable}
use Rattle.tool_checkpoints.specs.Words.{IsUnsaidIn}
use Rattle.warg_audit.specs.Files.Files.{Files}
use Rattle.tool_layout.specs.Chains.{chain_lines}
use Rattle.tool_layout.specs.KeyNames.{ArePrintable, KeyName}
use Rattle.tool_layout.specs.Logs.{log_lines}
use Rattle.tool_layout.specs.Names.{names_of}
use Rattle.tool_layout.specs.declared.look.Look.{Look}
use Rattle.tool_layout.proofs.LayoutLemmas.{shown-chain_layout, shown-log_layout}
use Rattle.tool_layout.proofs.NameLemmas.{shown-names}
use Rattle.warg_claims.specs.Verified.Claims.{is_claimed}
use Rattle.weoldrin.specs.Looks.{IsNamed, IsUnnamed, ListNoNames, as_it_is, laid_out, layout_of, layout_of_question}
use Rattle.weoldrin.specs.Requests.{IsAnswerIn, IsRenderedAs, IsRenderedTo, IsInvocationAnswer, IsRequestAnswer, IsResponse, IsUnder, SaysClaims, is_many}
use Rattle.weoldrin.specs.Schemes.{asked_belongs}
use Rattle.tool_words.specs.declared.request.Invocation.{Invocation}
use Rattle.tool_words.specs.declared.request.LogQuery.{LogQuery}
use Rattle.tool_words.specs.declared.request.LogQuery.TheVariants as question
use Rattle.tool_words.specs.declared.request.Request.{Request}
use Rattle.tool_words.specs.declared.request.Request.TheVariants as request
use Rattle.warg_printable.specs.Lines.{IsPrintedText}
use Rattle.tool_laws.specs.Premises.{IfMakes}
use Rattle.tool_laws.proofs.AppendLemmas.{lines_shown}
use Rattle.tool_laws.proofs.FileLemmas.{file_clean, silent_clean, unsaid_clean}
use Rattle.tool_laws.proofs.LineLemmas.{IsClean, clean_same}
use Rattle.tool_laws.proofs.ObjectLemmas.{json_clean}
use Rattle.tool_laws.proofs.RequestLemmas.{request_clean}

-- ---- layouts

module _ (look : Look) (names : ArePrintable look.names) (text : List ℕ) (h : IsPrintedText text) where
  question_layout : (it : LogQuery) → IsPrintedText (layout_of_question it look text)
  question_layout (question.State log limit) = h
  question_layout (question.Resume state log limit) = h
  question_layout (question.Head log) = h
  question_layout (question.ResumedHead state log count) = h
  question_layout (question.Permissions key_id log) = h
  question_layout (question.Chain key_id permission log) = (chain_lines look 0 (lines text), shown-chain_layout look names text (lines_shown text h))
  question_layout (question.Compare old new) = h

  layout_clean : (it : Request) → IsPrintedText (layout_of it look text)
  layout_clean (request.Id kind path) = h
  layout_clean (request.Audit kind path demands shows_path) = h
  layout_clean (request.Audits kind paths allows_empty) = h
  layout_clean (request.Show kind path) = (log_lines look (lines text), shown-log_layout look names text (lines_shown text h))
  layout_clean (request.Latest requirement path) = h
  layout_clean (request.LogId log) = h
  layout_clean (request.Leaf leaf) = h
  layout_clean (request.Prove wanted path) = h
  layout_clean (request.Verify statement) = h
  layout_clean (request.Compare views) = h
  layout_clean (request.Checkpoint query) = h
  layout_clean (request.Ask kind it) = question_layout it
  layout_clean (request.Do kind it) = h

-- the text of a task stays as it is
makes_same : (it : Request) (look : Look) (plain printed : OutputData) → printed ≡ laid_out (layout_of it look) plain → IfMakes it printed.text
    → IfMakes it plain.text
makes_same (request.Id kind path) look plain printed e made = tt
makes_same (request.Audit kind path demands shows_path) look plain printed e made = tt
makes_same (request.Audits kind paths allows_empty) look plain printed e made = tt
makes_same (request.Show kind path) look plain printed e made = tt
makes_same (request.Latest requirement path) look plain printed e made = tt
makes_same (request.LogId log) look plain printed e made = tt
makes_same (request.Leaf leaf) look plain printed e made = tt
makes_same (request.Prove wanted path) look plain printed e made = tt
makes_same (request.Verify statement) look plain printed e made = tt
makes_same (request.Compare views) look plain printed e made = tt
makes_same (request.Checkpoint query) look plain printed e made = tt
makes_same (request.Ask kind question) look plain printed e made = tt
makes_same (request.Do kind task) look plain printed e made = subst (λ (p : OutputData). IfMakes (request.Do kind task) p.text) e made

-- ---- what is given

-- in JSON, whatever the answer is
in_json_clean : (command : List ℕ) (layout : List ℕ → List ℕ) (P : OutputData → Type 0) (told : List ℕ) (printed : OutputData)
    → IsRenderedAs true command layout P told printed → IsClean printed
in_json_clean command layout P told printed h = json_clean command h.0 told printed h.2

as_it_is_clean : (json : Bool) (command : List ℕ) (P : OutputData → Type 0) → ((it : OutputData) → P it → IsClean it) → (told : List ℕ) (printed : OutputData)
    → IsRenderedAs json command as_it_is P told printed → IsClean printed
as_it_is_clean true command P each told printed h = in_json_clean command as_it_is P told printed h
as_it_is_clean false command P each told printed h = clean_same printed (laid_out as_it_is h.0) h.2 (each h.0 h.1)

module _ (command : List ℕ) (look : Look) (names : ArePrintable look.names) (belongs : SignatureRelation) (old new : Option Files) (it : Request)
    (told : List ℕ) (printed : OutputData) where
  response_json : (many : Bool) → IsRenderedTo many true command (layout_of it look) (IsRequestAnswer true belongs old new it) told printed
      → IfMakes it printed.text → IsClean printed
  response_json true h made = request_clean true belongs old new it printed h made
  response_json false h made = in_json_clean command (layout_of it look) (IsRequestAnswer true belongs old new it) told printed h

  response_text : (many : Bool) → IsRenderedTo many false command (layout_of it look) (IsRequestAnswer false belongs old new it) told printed
      → IfMakes it printed.text → IsClean printed
  response_text true h made = request_clean false belongs old new it printed h made
  response_text false h made =
      clean_same printed (laid_out (layout_of it look) h.0) h.2
      (layout_clean look names h.0.text (request_clean false belongs old new it h.0 h.1 (makes_same it look h.0 printed h.2 made)) it)

response_clean : (json : Bool) (command : List ℕ) (look : Look) → ArePrintable look.names → (belongs : SignatureRelation) (old new : Option Files) (it : Request)
    (told : List ℕ) (printed : OutputData) → IsResponse json command look belongs old new it told printed → IfMakes it printed.text → IsClean printed
response_clean true command look names belongs old new it told printed h made =
    response_json command look names belongs old new it told printed (is_many it) h made
response_clean false command look names belongs old new it told printed h made =
    response_text command look names belongs old new it told printed (is_many it) h made

unnamed_clean : (files : Option Files) (path : List ℕ) (printed : OutputData) → IsUnnamed files path printed → IsClean printed
unnamed_clean files path printed h =
    file_clean files path (λ bytes told. ListNoNames bytes × IsUnusable told) (λ bytes told none. silent_clean 2 told none.1) printed h

module _ (old new : Option Files) (it : Invocation) (told : List ℕ) (printed : OutputData) where
  under_clean : (look : Look) → ArePrintable look.names → (verified : Option (Bor (List ℕ)))
      → IsUnder old it.toy verified (λ path. IsRenderedAs it.json it.command.now as_it_is (IsUnsaidIn old path SaysClaims) told printed)
      (λ belongs. IsResponse it.json it.command.now look belongs old new it.request told printed) → IfMakes it.request printed.text → IsClean printed
  under_clean look names None h made = response_clean it.json it.command.now look names (asked_belongs it.toy) old new it.request told printed h made
  under_clean look names (Some path) (inl none) made =
      as_it_is_clean it.json it.command.now (IsUnsaidIn old path.now SaysClaims) (unsaid_clean old path.now SaysClaims) told printed none
  under_clean look names (Some path) (inr h) made = response_clean it.json it.command.now look names (is_claimed h.0) old new it.request told printed h.2 made

  named_clean : (path : Option (Bor (List ℕ)))
      → IsNamed old path (λ it_path. IsRenderedAs it.json it.command.now as_it_is (IsUnnamed old it_path) told printed)
      (λ names. IsAnswerIn (record { full = it.full; names = names }) old new it told printed) → IfMakes it.request printed.text → IsClean printed
  named_clean None h made = under_clean (record { full = it.full; names = [] }) tt it.verified h made
  named_clean (Some path) (inl none) made =
      as_it_is_clean it.json it.command.now (IsUnnamed old path.now) (unnamed_clean old path.now) told printed none
  named_clean (Some path) (inr h) made =
      let names : List KeyName = h.0 in
      let printable : IfOk (names_of h.1.bytes) ArePrintable = shown-names h.1.bytes in
      under_clean (record { full = it.full; names = names }) (rw h.1.said at printable) it.verified h.2 made

  -- the answer to an invocation
  pub invocation_clean : IsInvocationAnswer old new it told printed → IfMakes it.request printed.text → IsClean printed
  invocation_clean h made = named_clean it.names h made
