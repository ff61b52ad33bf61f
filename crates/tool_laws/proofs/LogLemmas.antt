-- What is printed of a log whose names and hashes are plain: the audit's lines, and how two copies part.
use Rattle.std.proofs.Common.{◌≡◌, ℕ, true, List, [], ◌++◌, codes, Option, refl}
use Rattle.std.specs.Fmt.{decimal}
use Rattle.std.specs.Prelude.{slice_index_or}
use Rattle.std.specs.List.{AllByRecursion}
use Rattle.warg_claims.specs.Claimed.{AreClaims}
use Rattle.warg_claims.specs.Verified.Claims.{ClaimData}
use Rattle.warg_protocol.specs.Logs.{Cause, EnvelopeData, EnvelopeFault, SignatureRelation, Unlawful, Unread, envelope_of}
use Rattle.warg_protocol.specs.Records.{RecordId, hash_text}
use Rattle.warg_audit.specs.LogAnswers.{IsRefused, LogDisplay, accepted_start, cause_name, head_text, log_shown, run_error}
use Rattle.warg_audit.specs.Printouts.{OutputData, bad_line, refused_line}
use Rattle.tool_answers.specs.Texts.{collision_line, fork_line, id_text_at}
use Rattle.tool_answers.specs.Verdicts.{IsNegative, IsPrintedOf, first_bad, first_refused, lawful, negative}
use Rattle.warg_audit.specs.Files.Texts.{side_text}
use Rattle.tool_laws.specs.Plain.Plain.{AreBytes, is_plain}
use Rattle.tool_laws.proofs.PlainLemmas.PlainLemmas.{plain_append}
use Rattle.tool_laws.proofs.PlainLemmas.WordLemmas.{decimal_plain}
use Rattle.warg_printable.specs.Lines.{IsPrintedText}
use Rattle.warg_printable.proofs.LineLemmas.{both_lines}
use Rattle.tool_laws.proofs.LineLemmas.{IsClean, IsOneLine, line_same, line_text, plain_front, plain_line, word_front}
use Rattle.tool_laws.proofs.NameLemmas.{envelope_fault_plain}

-- the names of what may be wrong with a kind's logs are plain, so are the hashes of its records, what it shows are lines, and the
-- claims of its logs are on bytes
pub record IsPlainLog {Meaning Fault View Offence : Type 0} (log : LogDisplay Meaning Fault View Offence) : Type 0 where
  pub faults : (f : Fault) → is_plain (log.fault_name f) ≡ true
  pub offences : (o : Offence) → is_plain (log.offence_name o) ≡ true
  pub ids : (content : List ℕ) → is_plain (hash_text (log.kind.id content).hash) ≡ true
  pub heads : (es : List EnvelopeData) → is_plain (head_text (log.kind.head (log.kind.view_of es))) ≡ true
  pub shown : (es : List EnvelopeData) → IsPrintedText (log.shown (log.kind.view_of es))
  pub claims : (inputs : List (List ℕ)) (claims : List ClaimData) → AreClaims log.kind (envelope_of log.read) inputs claims
      → AllByRecursion AreBytes inputs → AllByRecursion (λ (c : ClaimData). AreBytes c.message) claims

-- ---- lines of any kind

pub bad_one : (index : ℕ) → IsOneLine (bad_line index).text
bad_one index = plain_line (codes "bad line " ++ decimal index) (plain_append (codes "bad line ") (decimal index) refl (decimal_plain index))

pub refused_one : (index : ℕ) (name : List ℕ) → is_plain name ≡ true → IsOneLine (refused_line index name).text
refused_one index name h =
    let start : List ℕ = codes "refused " ++ decimal index in
    plain_line ((start ++ codes " ") ++ name)
    (plain_append (start ++ codes " ") name
    (plain_append start (codes " ") (plain_append (codes "refused ") (decimal index) refl (decimal_plain index)) refl) h)

-- a side's name in front of a line
pub side_one : (name : List ℕ) (it : OutputData) → is_plain name ≡ true → IsOneLine it.text → IsOneLine (side_text name it).text
side_one name it h one = plain_front (name ++ codes ": ") it.text (plain_append name (codes ": ") h refl) one

pub start_one : (count : ℕ) (head : Option RecordId) → is_plain (head_text head) ≡ true → IsOneLine (accepted_start count head)
start_one count head h =
    plain_front (codes "ok ") (decimal count ++ (codes " " ++ (head_text head ++ codes "\n"))) refl
    (word_front (decimal count) (head_text head ++ codes "\n") (decimal_plain count) (plain_line (head_text head) h))

-- ---- how two copies part

module _ (id : List ℕ → RecordId) (ids : (content : List ℕ) → is_plain (hash_text (id content).hash) ≡ true) where
  pub fork_one : (old new : List (List ℕ)) (place : ℕ) → IsOneLine (fork_line id old new place)
  fork_one old new place =
      let old_id : List ℕ = id_text_at id old place in
      let new_id : List ℕ = id_text_at id new place in
      let ids_text : List ℕ = old_id ++ (codes " " ++ (new_id ++ codes "\n")) in
      plain_front (codes "fork ") (decimal place ++ (codes " " ++ ids_text)) refl
      (word_front (decimal place) ids_text (decimal_plain place)
      (word_front old_id (new_id ++ codes "\n") (ids (slice_index_or old place [])) (plain_line new_id (ids (slice_index_or new place [])))))

  pub collision_one : (old : List (List ℕ)) (here there : ℕ) → IsOneLine (collision_line id old here there)
  collision_one old here there =
      let the_id : List ℕ = id_text_at id old here in
      let rest : List ℕ = decimal there ++ (codes " " ++ (the_id ++ codes "\n")) in
      plain_front (codes "collision ") (decimal here ++ (codes " " ++ rest)) refl
      (word_front (decimal here) rest (decimal_plain here)
      (word_front (decimal there) (the_id ++ codes "\n") (decimal_plain there) (plain_line the_id (ids (slice_index_or old here [])))))

-- ---- logs

module _ {Meaning Fault View Offence : Type 0} (log : LogDisplay Meaning Fault View Offence) (plain : IsPlainLog log) where
  cause_plain : (cause : Cause (EnvelopeFault Fault) Offence) → is_plain (cause_name log.fault_name log.offence_name cause) ≡ true
  cause_plain (Unread fault) = envelope_fault_plain log.fault_name plain.faults fault
  cause_plain (Unlawful offence) = plain.offences offence

  -- a refused record
  pub run_error_one : (index : ℕ) (cause : Cause (EnvelopeFault Fault) Offence) → IsOneLine (run_error log index cause).text
  run_error_one index cause = refused_one index (cause_name log.fault_name log.offence_name cause) (cause_plain cause)

  -- an accepted log
  pub verdict_clean : (count : ℕ) (es : List EnvelopeData) → IsPrintedText (log_shown log count (log.kind.view_of es)).text
  verdict_clean count es =
      let view : View = log.kind.view_of es in
      both_lines (accepted_start count (log.kind.head view)) (log.shown view)
      (line_text (accepted_start count (log.kind.head view)) (start_one count (log.kind.head view) (plain.heads es))) (plain.shown es)

  module _ (belongs : SignatureRelation) where
    refused_by : (seen : List EnvelopeData → View) (inputs : List (List ℕ)) (printed : OutputData)
        → IsRefused log belongs seen inputs printed → IsOneLine printed.text
    refused_by seen inputs printed h = line_same printed (run_error log h.index h.cause) h.is (run_error_one h.index h.cause)

    -- lines that are no lawful log
    pub negative_one : (lines : List (List ℕ)) (printed : OutputData) → IsNegative log belongs lines printed → IsOneLine printed.text
    negative_one lines printed (first_bad index at is) = line_same printed (bad_line index) is (bad_one index)
    negative_one lines printed (first_refused inputs spell refused) = refused_by log.kind.view_of inputs printed refused

    pub negative_clean : (lines : List (List ℕ)) (printed : OutputData) → IsNegative log belongs lines printed → IsClean printed
    negative_clean lines printed h = line_text printed.text (negative_one lines printed h)

    -- what is printed of a lawful log, or of lines that are none
    pub lawful_clean : (P : List (List ℕ) → OutputData → Type 0)
        → ((inputs : List (List ℕ)) (printed : OutputData) → P inputs printed → IsClean printed)
        → (lines : List (List ℕ)) (printed : OutputData) → IsPrintedOf log belongs P lines printed → IsClean printed
    lawful_clean P each lines printed (negative h) = negative_clean lines printed h
    lawful_clean P each lines printed (lawful inputs is_lawful h) = each inputs printed h
