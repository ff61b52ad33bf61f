-- Logs in words.
use Rattle.std.proofs.Common.{codes, ◌≡◌, ◌≤◌, ◌<◌, ◌+◌, ℕ, suc, List, [], ◌∷◌, ◌++◌, length, take, slice_index_or, refl, sym, ap, subst, ◌∙◌, append_assoc, append-nil, arith, All, Option, Some, None, Result, Ok, Err, IfOk}
use Rattle.std.specs.Fmt.{decimal}
use Rattle.std.specs.List.{AllByRecursion, AllZip, slice_get}
use Rattle.std.specs.Option.{option_map}
use Rattle.std.specs.declared.alloc.AllocError.{AllocError}
use Rattle.std.proofs.Math.Seq.{take-suc}
use Rattle.std.proofs.lemmas.List.{length-take-le, take_all}
use Rattle.std.proofs.lemmas.List.Elements.{recursion_from_All}
use Rattle.std.proofs.lemmas.Slice.Zip.{AllZip-long}
use Rattle.warg_protocol.specs.Records.{RecordId, hash_text}
use Rattle.warg_protocol.specs.Logs.{Cause, DecodedEnvelope, EnvelopeData, EnvelopeFault, HasNoOffence, IfNamed, IsFirstOffence, ContentsMatchBytes, SignatureRelation, envelope_of, envelopes}
use Rattle.warg_audit.specs.Files.Lines.{inputs_of}
use Rattle.warg_audit.specs.LogAnswers.{LogDisplay, cause_name}
use Rattle.warg_audit.specs.Printouts.{OutputData, bad_line, refused_line}
use Rattle.warg_audit.specs.declared.files.lines.LineError.TheVariants.{Bad}
use Rattle.warg_audit.proofs.FilesLemmas.InputLemmas as spelling
use Rattle.warg_audit.specs.Files.Answers.{IfOutput, output_data}
use Rattle.tool_questions.specs.Show.Advice.{advice_on}
use Rattle.tool_questions.specs.Show.ShownLogs.{AreEnvelopeLines, AreRecordLines, IsBehindId, IsCutText, IsLogText, IsPlacedLine, IsRunErrorText, IsShown, IsShownOf, behind_id, cause_words, first_bad, lines_with_places, place_and_id, placed_line, of_log, of_refused, of_inputs}
use Rattle.tool_answers.specs.ShownWords.{IsGrownBy, IsLineOf, IsRecordLine, RecordWords}
use Rattle.warg_audit.specs.Files.Texts.{no, yes}
use Rattle.tool_answers.specs.Verdicts.{envelopes_of}
use Rattle.warg_audit.specs.declared.files.command_output.CommandOutput.{CommandOutput}
use Rattle.warg_audit.specs.declared.files.command_error.CommandError.{CommandError}
use Rattle.tool_answers.proofs.LoadingLemmas.{IfOutput-weaker}

-- ---- records

zip_more : {A B : Type 0} (R : A → B → Type 0) (xs : List A) (ys : List B) (x : A) (y : B) → AllZip R xs ys → R x y
    → AllZip R (xs ++ x ∷ []) (ys ++ y ∷ [])
zip_more R [] [] x y h r = (r, tt)
zip_more R [] (b ∷ ys) x y h r = absurd h
zip_more R (a ∷ xs) [] x y h r = absurd h
zip_more R (a ∷ xs) (b ∷ ys) x y h r = (h.0, zip_more R xs ys x y h.1 r)

lines_with_places-append : (place at : ℕ) (lines : List (List ℕ)) (line : List ℕ) → at ≡ place + length lines
    → lines_with_places place (lines ++ line ∷ []) ≡ lines_with_places place lines ++ placed_line at line
lines_with_places-append place at [] line is =
    let e : at ≡ place = omega arith in
    rw e (append-nil (placed_line place line))
lines_with_places-append place at (first ∷ more) line is =
    let e : at ≡ place + 1 + length more = omega arith in
    ap (λ rest. placed_line place first ++ rest) (lines_with_places-append (place + 1) at more line e)
    ∙ sym (append_assoc (placed_line place first) (lines_with_places (place + 1) more) (placed_line at line))

-- a place, an id and what is said of a record, put together one by one
pub place_joined : (place : ℕ) (id record_id : RecordId) (said begun whole : List ℕ) → begun ≡ place_and_id place record_id → record_id ≡ id
    → whole ≡ begun ++ said → whole ≡ decimal place ++ (codes " " ++ behind_id id said)
place_joined place id record_id said begun whole first same ended =
    let hash = hash_text record_id.hash in
    ended ∙ ap (λ t. t ++ said) first ∙ append_assoc (decimal place) (codes " " ++ (hash ++ codes " ")) said
    ∙ ap (λ t. decimal place ++ (codes " " ++ t)) (append_assoc hash (codes " ") said)
    ∙ ap (λ i. decimal place ++ (codes " " ++ behind_id i said)) same

module _ {C : Type 0} (id : List ℕ → RecordId) (words_of : C → RecordWords) where
  -- what is said of the record that an envelope holds, and that behind its id
  abbrev pub IsSaidOfEnvelope : DecodedEnvelope C → List ℕ → Type 0
  IsSaidOfEnvelope it said = IsRecordLine it.envelope.key_id (words_of it.contents) said

  abbrev pub IsLineOfEnvelope : DecodedEnvelope C → List ℕ → Type 0
  IsLineOfEnvelope it line = IsBehindId (id it.envelope.content) (IsSaidOfEnvelope it) line

  pub no_record : (records : List (DecodedEnvelope C)) (text : List ℕ) → text ≡ []
      → AreEnvelopeLines id words_of (take 0 records) text
  no_record records text none = record { lines = []; each = tt; is = none }

  pub record_more : (records : List (DecodedEnvelope C)) (n : ℕ) (it : DecodedEnvelope C) (text new : List ℕ) → n < length records
      → it ≡ slice_index_or records n it → AreEnvelopeLines id words_of (take n records) text
      → IsGrownBy (IsPlacedLine id words_of n it) text new → AreEnvelopeLines id words_of (take (n + 1) records) new
  record_more records n it text new low is so_far more =
      let e : n + 1 ≡ suc n = omega arith in
      let whole = ap (λ m. take m records) e ∙ take-suc records n it low ∙ ap (λ x. take n records ++ x ∷ []) (sym is) in
      let fits : n ≤ length records = omega arith in
      let long = AllZip-long IsLineOfEnvelope (take n records) so_far.lines so_far.each ∙ length-take-le n records fits in
      let next : n ≡ 0 + length so_far.lines = omega arith in
      let shown = more.1.0 in
      record {
        lines = so_far.lines ++ shown ∷ [];
        each = rw whole (zip_more IsLineOfEnvelope (take n records) so_far.lines it shown so_far.each more.1.1);
        is = more.2 ∙ ap (λ t. t ++ more.0) so_far.is ∙ ap (λ t. lines_with_places 0 so_far.lines ++ t) more.1.2
            ∙ sym (lines_with_places-append 0 n so_far.lines shown next);
      }

  pub every_record : (records : List (DecodedEnvelope C)) (n : ℕ) (text : List ℕ) → length records ≤ n
      → AreEnvelopeLines id words_of (take n records) text → AreEnvelopeLines id words_of records text
  every_record records n text past are =
      subst (λ (rs : List (DecodedEnvelope C)). AreEnvelopeLines id words_of rs text) (take_all n records past) are

  module _ {M F : Type 0} (meaning : C → M) (read : List ℕ → Result M F) (Says : List ℕ → RecordWords → Type 0)
      (said : (it : C) (content : List ℕ) → read content ≡ Ok (meaning it) → Says content (words_of it)) where
    -- the line of an envelope's record by its content bytes
    abbrev IsLineBySaying : EnvelopeData → List ℕ → Type 0
    IsLineBySaying it line = IsBehindId (id it.content) (IsLineOf Says it) line

    line_said : (it : DecodedEnvelope C) (line : List ℕ) → ContentsMatchBytes read meaning it → IsLineOfEnvelope it line → IsLineBySaying it.envelope line
    line_said it line honest is =
        (is.0, record { words = words_of it.contents; says = said it.contents it.envelope.content honest; is = is.1 }, is.2)

    each_said : (records : List (DecodedEnvelope C)) (lines : List (List ℕ)) → AllByRecursion (ContentsMatchBytes read meaning) records
        → AllZip IsLineOfEnvelope records lines → AllZip IsLineBySaying (envelopes records) lines
    each_said [] [] honest each = tt
    each_said [] (line ∷ lines) honest each = each
    each_said (it ∷ records) [] honest each = each
    each_said (it ∷ records) (line ∷ lines) honest each = (
      line_said it line honest.0 each.0,
      each_said records lines honest.1 each.1,
    )

    -- the records are those that their content bytes say
    pub said_lines : (records : List (DecodedEnvelope C)) (text : List ℕ) → All (ContentsMatchBytes read meaning) records
        → AreEnvelopeLines id words_of records text → AreRecordLines id Says (envelopes records) text
    said_lines records text honest are = record {
      lines = are.lines;
      each = each_said records are.lines (recursion_from_All (ContentsMatchBytes read meaning) records honest) are.each;
      is = are.is;
    }

-- ---- answers

-- a text of three parts, which were put together one by one
pub three_parts : (first second third whole so_far added last : List ℕ) → so_far ≡ first ++ added → added ≡ second → whole ≡ so_far ++ last
    → last ≡ third → whole ≡ first ++ (second ++ third)
three_parts first second third whole so_far added last begun is ended is_last =
    ended ∙ ap (λ text. text ++ last) (begun ∙ ap (λ text. first ++ text) is) ∙ append_assoc first second last
    ∙ ap (λ text. first ++ (second ++ text)) is_last

module _ {Meaning Fault View Offence : Type 0} (log : LogDisplay Meaning Fault View Offence) (belongs : SignatureRelation) where
  -- the audit's line on a cause, and why
  pub run_error_told : (Explains : Cause (EnvelopeFault Fault) Offence → List ℕ → Option ℕ → Type 0) (seen : List EnvelopeData → View) (inputs : List (List ℕ))
      (index : ℕ) (cause : Option (Cause (EnvelopeFault Fault) Offence)) (name why : List ℕ) (entry : Option ℕ) (line text : List ℕ)
      → IfNamed cause (λ c. IsFirstOffence log.kind belongs (envelope_of log.read) seen inputs index c)
      → Some name ≡ option_map (cause_name log.fault_name log.offence_name) cause
      → ((c : Cause (EnvelopeFault Fault) Offence) → cause ≡ Some c → Explains c why entry)
      → line ≡ (refused_line index name).text → text ≡ line ++ cause_words why entry (advice_on name)
      → IsRunErrorText log belongs Explains seen inputs index text
  run_error_told Explains seen inputs index None name why entry line text first named explained is more = cc
  run_error_told Explains seen inputs index (Some c) name why entry line text first named explained is more =
      let same : name ≡ cause_name log.fault_name log.offence_name c = cc in
      record {
        cause = c;
        first = first;
        why = why;
        entry = entry;
        explains = explained c refl;
        is = rw same at (more ∙ ap (λ t. t ++ cause_words why entry (advice_on name)) is);
      }

  module _ (Says : List ℕ → RecordWords → Type 0) (Shows : List EnvelopeData → List ℕ → Type 0)
      (Explains : View → List ℕ → Cause (EnvelopeFault Fault) Offence → List ℕ → Option ℕ → Type 0) (inputs : List (List ℕ)) where
    pub lawful_shown : (es : List EnvelopeData) (result : Result CommandOutput AllocError)
        → HasNoOffence log.kind belongs (envelope_of log.read) log.kind.view_of inputs → es ≡ envelopes_of log inputs
        → IfOk result (λ answer. (text : List ℕ) × IsLogText log.kind.id Says (log.kind.head (log.kind.view_of es)) Shows es text
        × (output_data answer ≡ yes text))
        → IfOk result (λ answer. IsShownOf log belongs Says Shows Explains inputs (output_data answer))
    lawful_shown es (Ok answer) none same it =
        let P : List EnvelopeData → Type 0 = λ fs. IsLogText log.kind.id Says (log.kind.head (log.kind.view_of fs)) Shows fs it.0 in
        of_log it.0 none (subst P same it.1) it.2
    lawful_shown es (Err error) none same it = tt

    pub refused_shown : (es : List EnvelopeData) (index : ℕ) (input : List ℕ) (result : Result CommandOutput AllocError) → es ≡ envelopes_of log (take index inputs)
        → slice_get inputs index ≡ Some input
        → IfOk result (λ answer. (text : List ℕ) × IsCutText log.kind.id Says (IsRunErrorText log belongs (Explains (log.kind.view_of es) input) log.kind.view_of inputs index) es text
        × (output_data answer ≡ no text))
        → IfOk result (λ answer. IsShownOf log belongs Says Shows Explains inputs (output_data answer))
    refused_shown es index input (Ok answer) same at it =
        let P : List EnvelopeData → Type 0 = λ fs. IsCutText log.kind.id Says (IsRunErrorText log belongs (Explains (log.kind.view_of fs) input) log.kind.view_of inputs index) fs it.0 in
        of_refused index input it.0 at (subst P same it.1) it.2
    refused_shown es index input (Err error) same at it = tt

  module _ (Says : List ℕ → RecordWords → Type 0) (Shows : List EnvelopeData → List ℕ → Type 0)
      (Explains : View → List ℕ → Cause (EnvelopeFault Fault) Offence → List ℕ → Option ℕ → Type 0) (ls : List (List ℕ)) where
    pub spelled_shown : (inputs : List (List ℕ)) (printed : OutputData) → inputs_of ls ≡ Ok inputs
        → IsShownOf log belongs Says Shows Explains inputs printed → IsShown log belongs Says Shows Explains ls printed
    spelled_shown inputs printed e it = of_inputs inputs (spelling.spell_from 0 ls inputs e) it

    pub bad_shown : (end : CommandError)
        → IfOutput (λ printed. (index : ℕ) × ((inputs_of ls ≡ Err (Bad index)) × (printed ≡ bad_line index))) end
        → IfOutput (IsShown log belongs Says Shows Explains ls) end
    bad_shown end h =
        IfOutput-weaker (λ printed. (index : ℕ) × ((inputs_of ls ≡ Err (Bad index)) × (printed ≡ bad_line index)))
        (IsShown log belongs Says Shows Explains ls)
        (λ printed it. first_bad it.0 (spelling.first_bad ls it.0 it.1.0) it.1.1) end h
