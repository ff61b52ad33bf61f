-- What is answered when tasks on logs are done.
use Rattle.std.proofs.Common.{◌≡◌, ℕ, true, List, [], ◌∷◌, ◌++◌, codes, length, map, take, Option, refl, subst}
use Rattle.std.specs.List.{AllByRecursion}
use Rattle.std.proofs.lemmas.Str.{NoCharPasses-append}
use Rattle.hex.specs.Hex.{encode_lower}
use Rattle.warg_crypto.specs.Time.Times.{Time}
use Rattle.warg_crypto.specs.NamedBytes.{NamedBytes, named_bytes_text}
use Rattle.warg_protocol.specs.Logs.{SignatureRelation, envelope_of}
use Rattle.warg_protocol.specs.Records.{RecordId}
use Rattle.warg_audit.specs.LogAnswers.{LogDisplay, run_error}
use Rattle.warg_audit.specs.LogKinds.{operator_log, package_log}
use Rattle.warg_audit.specs.Printouts.{OutputData, bad_line}
use Rattle.tool_answers.specs.Verdicts.{envelopes_of, lawful, negative}
use Rattle.warg_audit.specs.Files.Files.{Files}
use Rattle.warg_audit.specs.Files.RecordLines.{record_lines}
use Rattle.warg_audit.specs.Files.Texts.{all_lines, line}
use Rattle.warg_audit.specs.declared.log_kind.LogKind.{LogKind}
use Rattle.warg_audit.specs.declared.log_kind.LogKind.TheVariants as log_kind
use Rattle.tool_changes.specs.Make.Entries.{LacksOperatorEntry, LacksPackageEntry, SaysOperatorEntry, SaysPackageEntry}
use Rattle.tool_changes.specs.Make.NextRecords.{operator_content, operator_prefix, package_content, package_prefix}
use Rattle.tool_changes.specs.declared.make.error.EntryFault.{EntryFault}
use Rattle.tool_changes.specs.ClaimTexts.{IsClaimList, IsClaimsAnswer, cut, first_bad, listed, whole}
use Rattle.tool_changes.specs.MadeRecords.{IsMade, IsMadeBy, IsMadeByToy, IsMadeForKey, IsMadeForText, IsMadeOf, IsRefusedNext, IsUnsaid, no_file, no_key, of_key, of_log, refused, signed, signed_line, taken, to_be_signed, unsaid, unsaid_for_key, unsigned_line}
use Rattle.tool_changes.specs.Tasks.{IsDoneAnswer, IsTaskAnswer}
use Rattle.warg_claims.specs.Verified.Claims.{ClaimData, claim_text, named_word}
use Rattle.tool_words.specs.declared.task.NewRecord.{NewRecord}
use Rattle.tool_words.specs.declared.task.Signer.{Signer}
use Rattle.tool_words.specs.declared.task.Signer.TheVariants as signer
use Rattle.tool_words.specs.declared.task.Task.{Task}
use Rattle.tool_words.specs.declared.task.Task.TheVariants as task
use Rattle.tool_laws.specs.Plain.Plain.{AreBytes}
use Rattle.tool_laws.proofs.PlainLemmas.PlainLemmas.{plain_append, plain_cons, plain_shown}
use Rattle.tool_laws.proofs.PlainLemmas.WordLemmas.{hex_plain}
use Rattle.warg_printable.specs.Characters.{is_hidden}
use Rattle.warg_printable.specs.Lines.{IsPrintedText}
use Rattle.warg_printable.specs.Printable.{IsPrintable}
use Rattle.warg_printable.proofs.LineLemmas.{both_lines, no_lines, one_shown}
use Rattle.warg_printable.proofs.ShownLemmas.{escaped_shown}
use Rattle.tool_laws.specs.Premises.{HasNoNul, IfMade}
use Rattle.tool_laws.proofs.AppendLemmas.{append_clean}
use Rattle.tool_laws.proofs.ContentBytes.{spelled_bytes, taken_bytes}
use Rattle.tool_laws.proofs.FileLemmas.{lines_clean, log_unread_clean, silent_clean}
use Rattle.tool_laws.proofs.HexLemmas.{front_no_nul, hex_no_nul, rest_no_nul}
use Rattle.tool_laws.proofs.KindLemmas.{operator_plain, package_plain}
use Rattle.tool_laws.proofs.LineLemmas.{IsClean, clean_line, clean_same, plain_line, within_clean}
use Rattle.tool_answers.specs.Texts.{within}
use Rattle.tool_laws.proofs.LogLemmas.{IsPlainLog, bad_one, negative_clean, run_error_one}

-- ---- claims

-- a claim on bytes
claim_shown : (c : ClaimData) → AreBytes c.message → IsPrintable (claim_text c)
claim_shown c h =
    let word : List ℕ = named_word c.key in
    let digits : List ℕ = encode_lower c.message in
    let last : List ℕ = named_word c.signature in
    NoCharPasses-append is_hidden (word ++ 32 ∷ digits) (32 ∷ last)
    (NoCharPasses-append is_hidden word (32 ∷ digits) (escaped_shown true (named_bytes_text c.key))
    (plain_shown (32 ∷ digits) (plain_cons 32 digits refl (hex_plain c.message h))))
    (NoCharPasses-append is_hidden (32 ∷ []) last (plain_shown (32 ∷ []) refl) (escaped_shown true (named_bytes_text c.signature)))

claims_clean : (claims : List ClaimData) → AllByRecursion (λ (c : ClaimData). AreBytes c.message) claims → IsPrintedText (all_lines (map claim_text claims))
claims_clean [] h = no_lines
claims_clean (c ∷ more) h =
    both_lines (line (claim_text c)) (all_lines (map claim_text more)) (one_shown (claim_text c) (claim_shown c h.0)) (claims_clean more h.1)

module _ {Meaning Fault View Offence : Type 0} (log : LogDisplay Meaning Fault View Offence) (plain : IsPlainLog log) where
  list_clean : (inputs : List (List ℕ)) → AllByRecursion AreBytes inputs → (printed : OutputData)
      → IsClaimList log.kind (envelope_of log.read) inputs printed → IsClean printed
  list_clean inputs bytes printed (whole claims are is) = clean_same printed _ is (claims_clean claims (plain.claims inputs claims are bytes))
  list_clean inputs bytes printed (cut claims why are why_refused is) =
      clean_same printed _ is
      (claims_clean claims (plain.claims (take (length claims) inputs) claims are (taken_bytes (length claims) inputs bytes)))

  answer_clean : (limit : ℕ) (lines : List (List ℕ)) (printed : OutputData) → IsClaimsAnswer limit log.kind (envelope_of log.read) lines printed → IsClean printed
  answer_clean limit lines printed (first_bad index at is) = clean_line printed (bad_line index) is (bad_one index)
  answer_clean limit lines printed (listed inputs spell list it is) =
      clean_same printed (within limit list) is (within_clean limit list (list_clean inputs (spelled_bytes lines inputs spell) list it))

same_no_nul : (printed it : OutputData) → printed ≡ it → HasNoNul printed.text → HasNoNul it.text
same_no_nul printed it e h = subst (λ (p : OutputData). HasNoNul p.text) e h

-- ---- records that are made

signed_clean : (envelope : List ℕ) (printed : OutputData) → printed ≡ signed_line envelope → HasNoNul printed.text → IsClean printed
signed_clean envelope printed is h =
    let text = same_no_nul printed (signed_line envelope) is h in
    clean_line printed (signed_line envelope) is (plain_line (encode_lower envelope) (hex_no_nul envelope (front_no_nul (encode_lower envelope) (codes "\n") text)))

unsigned_clean : (envelope message : List ℕ) (printed : OutputData) → printed ≡ unsigned_line envelope message → HasNoNul printed.text → IsClean printed
unsigned_clean envelope message printed is h =
    let first : List ℕ = encode_lower envelope in
    let second : List ℕ = encode_lower message in
    let text = front_no_nul (first ++ 32 ∷ second) (codes "\n") (same_no_nul printed (unsigned_line envelope message) is h) in
    let rest = rest_no_nul first (32 ∷ second) text in
    clean_line printed (unsigned_line envelope message) is
    (plain_line (first ++ 32 ∷ second)
    (plain_append first (32 ∷ second) (hex_no_nul envelope (front_no_nul first (32 ∷ second) text)) (plain_cons 32 second refl (hex_no_nul message rest.1))))

module _ {T : Type 0} (Says : List ℕ → T → Type 0) (Lacks : List ℕ → EntryFault → Type 0) (content : Option RecordId → Time → List T → List ℕ) (prefix : List ℕ)
    {Meaning Fault View Offence : Type 0} (log : LogDisplay Meaning Fault View Offence) (plain : IsPlainLog log) (draft : NewRecord) where
  unsaid_clean : (printed : OutputData) → IsUnsaid Says Lacks content prefix log draft printed → IsClean printed
  unsaid_clean printed h = silent_clean 2 printed h.nothing

  module _ (view : View) (count : ℕ) where
    refused_clean : (bytes : List ℕ) (printed : OutputData) → IsRefusedNext log view count bytes printed → IsClean printed
    refused_clean bytes printed h = clean_line printed (run_error log count h.cause) h.is (run_error_one log plain count h.cause)

    toy_clean : (name : List ℕ) (printed : OutputData) → IsMadeByToy Says Lacks content prefix log draft view count name printed → HasNoNul printed.text
        → IsClean printed
    toy_clean name printed (signed bytes is_next (taken none is)) h = signed_clean bytes printed is h
    toy_clean name printed (signed bytes is_next (refused it)) h = refused_clean bytes printed it
    toy_clean name printed (unsaid it) h = unsaid_clean printed it

    key_clean : (key : NamedBytes) (printed : OutputData) → IsMadeForKey Says Lacks content prefix log draft view count key printed → HasNoNul printed.text
        → IsClean printed
    key_clean key printed (to_be_signed envelope message under is_next (taken none is)) h = unsigned_clean envelope message printed is h
    key_clean key printed (to_be_signed envelope message under is_next (refused it)) h = refused_clean under printed it
    key_clean key printed (unsaid_for_key it) h = unsaid_clean printed it

    text_clean : (text : List ℕ) (printed : OutputData) → IsMadeForText Says Lacks content prefix log draft view count text printed → HasNoNul printed.text
        → IsClean printed
    text_clean text printed (of_key key is_key it) h = key_clean key printed it h
    text_clean text printed (no_key is_none unusable) h = silent_clean 2 printed unusable

    by_clean : (it : Signer) (printed : OutputData) → IsMadeBy Says Lacks content prefix log draft view count it printed → HasNoNul printed.text
        → IsClean printed
    by_clean (signer.Toy name) printed it h = toy_clean name.now printed it h
    by_clean (signer.KeyText text) printed it h = text_clean text.now printed it h

  module _ (belongs : SignatureRelation) where
    of_clean : (file : List ℕ) (printed : OutputData) → IsMadeOf Says Lacks content prefix log draft belongs file printed → HasNoNul printed.text
        → IsClean printed
    of_clean file printed (negative it) h = negative_clean log plain belongs (record_lines file) printed it
    of_clean file printed (lawful inputs is_lawful it) h =
        by_clean (log.kind.view_of (envelopes_of log inputs)) (length inputs) draft.signer printed it h

    made_clean : (old : Option Files) (path : List ℕ) (printed : OutputData) → IsMade Says Lacks content prefix log draft belongs old path printed
        → HasNoNul printed.text → IsClean printed
    made_clean old path printed (no_file it) h = log_unread_clean printed it
    made_clean old path printed (of_log file reads it) h = of_clean file printed it h

-- ---- tasks

module _ {Meaning Fault View Offence T : Type 0} (Says : List ℕ → T → Type 0) (Lacks : List ℕ → EntryFault → Type 0) (content : Option RecordId → Time → List T → List ℕ) (prefix : List ℕ)
    (log : LogDisplay Meaning Fault View Offence) (plain : IsPlainLog log) (belongs : SignatureRelation) (old new : Option Files) where
  task_clean : (it : Task) (printed : OutputData) → IsTaskAnswer Says Lacks content prefix log belongs old new it printed → IfMade it printed.text
      → IsClean printed
  task_clean (task.Claims path limit) printed it h =
      lines_clean old path.now (IsClaimsAnswer limit log.kind (envelope_of log.read)) (answer_clean log plain limit) printed it
  task_clean (task.Make path draft) printed it h = made_clean Says Lacks content prefix log plain draft belongs old path.now printed it h
  task_clean (task.Append path lines limit) printed it h = append_clean log plain belongs limit old new path.now lines.now printed it

-- the answer when a task is done
pub done_clean : (kind : LogKind) (belongs : SignatureRelation) (old new : Option Files) (it : Task) (printed : OutputData)
    → IsDoneAnswer kind belongs old new it printed → IfMade it printed.text → IsClean printed
done_clean log_kind.Package belongs old new it printed answer h =
    task_clean SaysPackageEntry LacksPackageEntry package_content package_prefix package_log package_plain belongs old new it printed answer h
done_clean log_kind.Operator belongs old new it printed answer h =
    task_clean SaysOperatorEntry LacksOperatorEntry operator_content operator_prefix operator_log operator_plain belongs old new it printed answer h
