-- What is answered to questions about a log.
use Rattle.std.proofs.Common.{◌≡◌, ℕ, Bool, true, false, List, [], ◌∷◌, ◌++◌, codes, length, map, Option, Some, None, Result, Ok, Err, refl}
use Rattle.std.specs.Prelude.{filter}
use Rattle.std.specs.Fmt.{decimal}
use Rattle.warg_protocol.specs.Json.{JsonError, JsonTextError}
use Rattle.warg_protocol.specs.Logs.{EnvelopeData, SignatureRelation, contents}
use Rattle.warg_protocol.specs.Records.{RecordId, hash_text}
use Rattle.warg_replay.specs.declared.audited_log.comparison.Comparison.{Comparison}
use Rattle.warg_replay.specs.declared.audited_log.comparison.Comparison.TheVariants.{Collision, Fork, LeftIsPrefix, RightIsPrefix, Same}
use Rattle.warg_replay.specs.declared.audited_log.link.Link.{Link}
use Rattle.warg_log.specs.declared.head.Head.{Head}
use Rattle.warg_audit.specs.LogAnswers.{head_text, run_error}
use Rattle.warg_audit.specs.Printouts.{OutputData, bad_line}
use Rattle.tool_answers.specs.ShownWords.{RecordWords}
use Rattle.tool_answers.specs.Texts.{AreLinkLines, IsChainPrinted, IsComparisonPrinted, IsForkText, IsLinkLine, IsNamedLine, fork_line, json_text, permissions_text, saved_text, receiver}
use Rattle.tool_answers.specs.Verdicts.{IsPrintedOf, envelopes_of}
use Rattle.tool_answers.specs.Words.{IsByWord, by_value, unsaid}
use Rattle.warg_audit.specs.Files.Files.{Files}
use Rattle.warg_audit.specs.Files.Texts.{line, no, side_text, yes}
use Rattle.warg_crypto.specs.declared.json.error.Incoherence.{Incoherence}
use Rattle.warg_crypto.specs.declared.json.error.Incoherence.TheVariants as case
use Rattle.warg_crypto.specs.declared.json.error.JsonError.{JsonError as ValueError}
use Rattle.warg_crypto.specs.declared.json.error.JsonError.TheVariants as value
use Rattle.warg_saved_states.specs.declared.error.JsonTextError.TheVariants as text
use Rattle.tool_questions.specs.QuestionAnswers.{Askable, IsQuestionAnswer}
use Rattle.tool_questions.specs.Questions.{IsChainText, IsCompared, IsComparedWith, IsComparisonText, IsPermissionsText, IsStateText, both, by_new, of_new, of_old}
use Rattle.tool_questions.specs.HeadTexts.{IsHeadLine, IsHeadText, IsResumedHead, count_text, head_line}
use Rattle.tool_questions.specs.Resumption.{IsNextText, IsNoLead, IsNoNext, IsResumed, first_bad, first_refused, no_lead, no_next, no_state, resumed}
use Rattle.tool_questions.specs.StateFaults.{bad_state, case_name, state_fault_name, value_name}
use Rattle.tool_words.specs.declared.request.LogQuery.{LogQuery}
use Rattle.tool_words.specs.declared.request.LogQuery.TheVariants as question
use Rattle.tool_laws.specs.Plain.Plain.{is_plain}
use Rattle.tool_laws.proofs.PlainLemmas.PlainLemmas.{plain_append, plain_shown}
use Rattle.tool_laws.proofs.PlainLemmas.WordLemmas.{decimal_plain}
use Rattle.warg_printable.specs.Json.{json_printable}
use Rattle.warg_printable.specs.Lines.{IsPrintedText}
use Rattle.warg_printable.specs.Printable.{IsPrintable}
use Rattle.warg_printable.proofs.JsonLemmas.{json_shown}
use Rattle.warg_printable.proofs.LineLemmas.{both_lines, no_lines, one_line, one_shown, same_lines}
use Rattle.tool_laws.proofs.FileLemmas.{file_clean, lines_clean, silent_clean}
use Rattle.tool_laws.proofs.LineLemmas.{IsClean, IsOneLine, all_mapped, clean_line, clean_same, line_text, plain_front, plain_line, shown_lines, word_front, within_clean}
use Rattle.tool_laws.proofs.LogLemmas.{IsPlainLog, bad_one, collision_one, fork_one, lawful_clean, negative_one, run_error_one, side_one}

-- ---- states

state_text_clean : (limit : ℕ) (state : Result (List ℕ) JsonError) → IsPrintedText (json_text limit state).text
state_text_clean limit (Ok text) = within_clean limit (yes (line (json_printable text))) (one_shown (json_printable text) (json_shown text))
state_text_clean limit (Err fault) = line_text (codes "no json TimeBeforeEpoch\n") (plain_line (codes "no json TimeBeforeEpoch") refl)

case_plain : (it : Incoherence) → is_plain (case_name it) ≡ true
case_plain case.AlgorithmWithoutHead = refl
case_plain case.HeadWithoutAlgorithm = refl
case_plain case.StateWithoutInit = refl
case_plain case.ReleaseUnderOtherVersion = refl
case_plain case.KeyUnderOtherFingerprint = refl
case_plain case.InvalidNamespace = refl
case_plain case.PermissionsWithoutKey = refl
case_plain case.UnsupportedVersion = refl

value_plain : (it : ValueError) → is_plain (value_name it) ≡ true
value_plain value.WrongType = refl
value_plain value.Missing = refl
value_plain value.BadText = refl
value_plain value.TimeBeforeEpoch = refl
value_plain value.TimeOutOfRange = refl
value_plain (value.Incoherent it) = case_plain it
value_plain value.OutOfMemory = refl

fault_plain : (it : JsonTextError) → is_plain (state_fault_name it) ≡ true
fault_plain text.NotJson = refl
fault_plain (text.Value it) = value_plain it
fault_plain text.OutOfMemory = refl

bad_state_clean : (fault : JsonTextError) → IsPrintedText (bad_state fault).text
bad_state_clean fault =
    line_text (bad_state fault).text
    (plain_line (codes "bad state " ++ state_fault_name fault) (plain_append (codes "bad state ") (state_fault_name fault) refl (fault_plain fault)))

-- ---- last records

head_line_clean : (last : Option Head) (count : Option ℕ) (printed : OutputData) → IsHeadLine last count printed → IsClean printed
head_line_clean None count printed is = clean_line printed (no (codes "none\n")) is (plain_line (codes "none") refl)
head_line_clean (Some head) count printed h =
    clean_same printed (yes (head_line (hash_text head.digest.hash) h.0 (decimal head.version) (count_text count))) h.2
    (one_line (hash_text head.digest.hash ++ (codes " " ++ (h.0 ++ (codes " " ++ (decimal head.version ++ (codes " " ++ count_text count)))))))

-- ---- permissions

told_clean : {P : Type 0} (text_of : P → List ℕ) → ((p : P) → is_plain (text_of p) ≡ true) → (known : Bool) (order : List P) (held : P → Bool)
    → IsPrintedText (permissions_text known order text_of held).text
told_clean text_of plain true order held =
    shown_lines (map text_of (filter held order)) (all_mapped IsPrintable text_of (λ p. plain_shown (text_of p) (plain p)) (filter held order))
told_clean text_of plain false order held = line_text (codes "unknown\n") (plain_line (codes "unknown") refl)

-- ---- chains and comparisons

module _ (Says : List ℕ → RecordWords → Type 0) where
  module _ (es : List EnvelopeData) where
    links_clean : (key : List ℕ) (links : List Link) (text : List ℕ) → AreLinkLines Says es key links text → IsPrintedText text
    links_clean key [] text none = same_lines text [] none no_lines
    links_clean key (link ∷ more) text are =
        let first : IsLinkLine Says es link (receiver es key more) are.0 = are.2 in
        same_lines text (are.0 ++ are.1) are.3
        (both_lines are.0 are.1
        (same_lines are.0 _ first.is
        (one_line (decimal link.record_index ++ (codes " " ++ (decimal link.entry_index ++ (codes " " ++ (first.time ++ (codes " " ++
        (first.envelope.key_id ++ (codes " to " ++ receiver es key more))))))))))
        (links_clean key more are.1 are.4))

    chain_clean : (key : List ℕ) (chain : Option (List Link)) (printed : OutputData) → IsChainPrinted Says es key chain printed → IsClean printed
    chain_clean key None printed is = clean_line printed _ is (plain_line (codes "none") refl)
    chain_clean key (Some links) printed h = clean_same printed (yes h.0) h.2 (links_clean key links h.0 h.1)

  named_clean : (name : List ℕ) (es : List EnvelopeData) (place : ℕ) (text : List ℕ) → IsNamedLine Says name es place text → IsPrintedText text
  named_clean name es place text h = same_lines text _ h.is (one_line (name ++ (codes " " ++ h.said)))

  module _ (id : List ℕ → RecordId) (ids : (content : List ℕ) → is_plain (hash_text (id content).hash) ≡ true)
      (head : Option RecordId) (head_is : is_plain (head_text head) ≡ true) (old new : List EnvelopeData) where
    fork_clean : (place : ℕ) (text : List ℕ) → IsForkText Says id old new place text → IsPrintedText text
    fork_clean place text h =
        same_lines text _ h.is
        (both_lines (fork_line id (contents old) (contents new) place) (h.of_old ++ h.of_new)
        (line_text (fork_line id (contents old) (contents new) place) (fork_one id ids (contents old) (contents new) place))
        (both_lines h.of_old h.of_new (named_clean (codes "old") old place h.of_old h.is_old) (named_clean (codes "new") new place h.of_new h.is_new)))

    numbers_one : (word : List ℕ) → is_plain word ≡ true
        → IsOneLine (word ++ (decimal (length old) ++ (codes " " ++ (decimal (length new) ++ codes "\n"))))
    numbers_one word h =
        let last : List ℕ = decimal (length new) ++ codes "\n" in
        plain_front word (decimal (length old) ++ (codes " " ++ last)) h
        (word_front (decimal (length old)) last (decimal_plain (length old)) (plain_line (decimal (length new)) (decimal_plain (length new))))

    comparison_clean : (comparison : Comparison) (printed : OutputData) → IsComparisonPrinted Says id head old new comparison printed → IsClean printed
    comparison_clean Same printed is =
        clean_line printed _ is
        (plain_front (codes "same ") (decimal (length old) ++ (codes " " ++ (head_text head ++ codes "\n"))) refl
        (word_front (decimal (length old)) (head_text head ++ codes "\n") (decimal_plain (length old)) (plain_line (head_text head) head_is)))
    comparison_clean (LeftIsPrefix place) printed is = clean_line printed _ is (numbers_one (codes "goes on ") refl)
    comparison_clean (RightIsPrefix place) printed is = clean_line printed _ is (numbers_one (codes "rolled back ") refl)
    comparison_clean (Fork place) printed h = clean_same printed (no h.0) h.2 (fork_clean place h.0 h.1)
    comparison_clean (Collision here there) printed is = clean_line printed _ is (collision_one id ids (contents old) here there)

-- ---- questions

by_word_clean : {A : Type 0} (Says : A → Type 0) (P : A → OutputData → Type 0) → ((it : A) (printed : OutputData) → P it printed → IsClean printed)
    → (printed : OutputData) → IsByWord Says P printed → IsClean printed
by_word_clean Says P each printed (unsaid h) = silent_clean 2 printed h.unusable
by_word_clean Says P each printed (by_value it says h) = each it printed h

module _ {Meaning Fault View Offence S P : Type 0} (kind : Askable Meaning Fault View Offence S P) (Says : List ℕ → RecordWords → Type 0)
    (plain : IsPlainLog kind.shown) (texts : (p : P) → is_plain (kind.text_of p) ≡ true) (belongs : SignatureRelation) where
  state_clean : (limit : ℕ) (inputs : List (List ℕ)) (printed : OutputData) → IsStateText kind.shown kind.view (saved_text limit kind.json) inputs printed → IsClean printed
  state_clean limit inputs printed h = clean_same printed (json_text limit (kind.json h.state)) h.is (state_text_clean limit (kind.json h.state))

  lead_clean : (state : S) (lines : List (List ℕ)) (printed : OutputData) → IsNoLead kind.shown belongs kind.view state lines printed → IsClean printed
  lead_clean state lines printed (first_bad index at is) = clean_line printed (bad_line index) is (bad_one index)
  lead_clean state lines printed (first_refused inputs spell refused) =
      clean_line printed (run_error kind.shown refused.index refused.cause) refused.is (run_error_one kind.shown plain refused.index refused.cause)

  next_clean : (saved : List ℕ) (lines : List (List ℕ)) (printed : OutputData) → IsNoNext kind.shown belongs kind.view kind.reads saved lines printed
      → IsClean printed
  next_clean saved lines printed (no_state fault is_fault is) = clean_same printed (bad_state fault) is (bad_state_clean fault)
  next_clean saved lines printed (no_lead state reads h) = lead_clean state lines printed h

  resumed_clean : (P : S → ℕ → OutputData → Type 0) → ((next : S) (count : ℕ) (printed : OutputData) → P next count printed → IsClean printed)
      → (saved : List ℕ) (lines : List (List ℕ)) (printed : OutputData)
      → IsResumed kind.shown belongs kind.view P kind.reads saved lines printed → IsClean printed
  resumed_clean P each saved lines printed (no_next h) = next_clean saved lines printed h
  resumed_clean P each saved lines printed (resumed next count is_next h) = each next count printed h

  next_text_clean : (limit : ℕ) (next : S) (count : ℕ) (printed : OutputData) → IsNextText (saved_text limit kind.json) next count printed → IsClean printed
  next_text_clean limit next count printed is = clean_same printed (json_text limit (kind.json next)) is (state_text_clean limit (kind.json next))

  head_clean : (inputs : List (List ℕ)) (printed : OutputData) → IsHeadText kind.shown kind.view kind.last inputs printed → IsClean printed
  head_clean inputs printed h = head_line_clean (kind.last h.state) (Some (length inputs)) printed h.is

  resumed_head_clean : (count : Option ℕ) (next : S) (more : ℕ) (printed : OutputData) → IsResumedHead kind.last count next more printed
      → IsClean printed
  resumed_head_clean count next more printed h = head_line_clean (kind.last next) h.0 printed h.2

  permissions_clean : (word : List ℕ) (inputs : List (List ℕ)) (printed : OutputData)
      → IsPermissionsText kind.shown kind.view kind.has_key kind.knows kind.held kind.order kind.text_of word inputs printed → IsClean printed
  permissions_clean word inputs printed h =
      clean_same printed _ h.told.is
      (told_clean kind.text_of texts (kind.knows h.state h.told.key) kind.order (kind.held (kind.view h.state) h.told.key))

  chain_of_clean : (word : List ℕ) (it : P) (inputs : List (List ℕ)) (printed : OutputData)
      → IsChainText kind.shown Says kind.view kind.has_key kind.effects word it inputs printed → IsClean printed
  chain_of_clean word it inputs printed h =
      chain_clean Says (envelopes_of kind.shown inputs) h.key h.told.chain printed h.told.is

  comparison_of_clean : (old new : List (List ℕ)) (printed : OutputData) → IsComparisonText kind.shown Says old new printed → IsClean printed
  comparison_of_clean old new printed h =
      let before : List EnvelopeData = envelopes_of kind.shown old in
      comparison_clean Says kind.shown.kind.id plain.ids (kind.shown.kind.head (kind.shown.kind.view_of before)) (plain.heads before) before
      (envelopes_of kind.shown new) h.comparison printed h.is

  with_clean : (before new : List (List ℕ)) (printed : OutputData) → IsComparedWith kind.shown Says belongs before new printed → IsClean printed
  with_clean before new printed (of_new it h is) =
      clean_line printed (side_text (codes "new") it) is (side_one (codes "new") it refl (negative_one kind.shown plain belongs new it h))
  with_clean before new printed (both after lawful h) = comparison_of_clean before after printed h

  compared_clean : (old new : List (List ℕ)) (printed : OutputData) → IsCompared kind.shown Says belongs old new printed → IsClean printed
  compared_clean old new printed (of_old it h is) =
      clean_line printed (side_text (codes "old") it) is (side_one (codes "old") it refl (negative_one kind.shown plain belongs old it h))
  compared_clean old new printed (by_new before lawful h) = with_clean before new printed h

  -- the answer to a question
  pub question_clean : (files : Option Files) (it : LogQuery) (printed : OutputData) → IsQuestionAnswer kind Says belongs files it printed → IsClean printed
  question_clean files (question.State log limit) printed h =
      lines_clean files log.now (IsPrintedOf kind.shown belongs (IsStateText kind.shown kind.view (saved_text limit kind.json)))
      (lawful_clean kind.shown plain belongs (IsStateText kind.shown kind.view (saved_text limit kind.json)) (state_clean limit)) printed h
  question_clean files (question.Resume state log limit) printed h =
      file_clean files state.now _ (λ saved it. lines_clean files log.now
      (IsResumed kind.shown belongs kind.view (IsNextText (saved_text limit kind.json)) kind.reads saved)
      (resumed_clean (IsNextText (saved_text limit kind.json)) (next_text_clean limit) saved) it) printed h
  question_clean files (question.Head log) printed h =
      lines_clean files log.now (IsPrintedOf kind.shown belongs (IsHeadText kind.shown kind.view kind.last))
      (lawful_clean kind.shown plain belongs (IsHeadText kind.shown kind.view kind.last) head_clean) printed h
  question_clean files (question.ResumedHead state log count) printed h =
      file_clean files state.now _ (λ saved it. lines_clean files log.now
      (IsResumed kind.shown belongs kind.view (IsResumedHead kind.last count) kind.reads saved)
      (resumed_clean (IsResumedHead kind.last count) (resumed_head_clean count) saved) it) printed h
  question_clean files (question.Permissions key_id log) printed h =
      lines_clean files log.now _ (lawful_clean kind.shown plain belongs _ (permissions_clean key_id.now)) printed h
  question_clean files (question.Chain key_id permission log) printed h =
      by_word_clean _ _ (λ it p. lines_clean files log.now _ (lawful_clean kind.shown plain belongs _ (chain_of_clean key_id.now it)) p) printed h
  question_clean files (question.Compare old new) printed h =
      lines_clean files old.now _ (λ here it. lines_clean files new.now (IsCompared kind.shown Says belongs here) (compared_clean here) it) printed h
