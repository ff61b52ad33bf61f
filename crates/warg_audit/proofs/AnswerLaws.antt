-- Lines of which an id is asked have one answer.
use Rattle.std.proofs.Common.{◌≡◌, ℕ, List, [], ◌∷◌, refl, sym, ◌∙◌, ap, Result, Ok, Err, IsErr}
use Rattle.std.proofs.lemmas.Bool.{false≢true}
use Rattle.hex.specs.declared.error.FromHexError.{FromHexError}
use Rattle.warg_protobuf.specs.Envelope.{envelope_table, EnvelopeValue, IsEnvelope, envelope_of}
use Rattle.warg_protobuf.specs.Meaning.{Computes}
use Rattle.warg_protobuf.specs.declared.error.WireError.{WireError}
use Rattle.warg_audit.specs.declared.log_kind.LogKind.{LogKind}
use Rattle.warg_audit.specs.Files.Lines.{input_of}
use Rattle.warg_audit.specs.Answers.{IsEnvelopeAnswer, is_read, has_fault, IsIdAnswer, no_line, bad_digits, second_line, one_line, envelope_answer, input_answer, id_answer}
use Rattle.warg_audit.specs.Printouts.{OutputData}

module _ (computes : (bytes : List ℕ) → Computes envelope_table envelope_of IsEnvelope bytes) where
  -- ---- the computed answer is one

  envelope_is : (log_kind : LogKind) (bytes : List ℕ) (read : Result EnvelopeValue WireError) → envelope_of bytes ≡ read → IsEnvelopeAnswer log_kind bytes (envelope_answer log_kind read)
  envelope_is log_kind bytes (Ok envelope) e = is_read envelope ((computes bytes).value envelope e) refl
  envelope_is log_kind bytes (Err fault) e = has_fault fault ((computes bytes).fault fault e) refl

  input_is : (log_kind : LogKind) (line : List ℕ) (more : List (List ℕ)) (spelled : Result (List ℕ) FromHexError) → input_of line ≡ spelled → IsIdAnswer log_kind (line ∷ more) (input_answer log_kind spelled more)
  input_is log_kind line more (Err fault) e = bad_digits line more refl (rw e refl) refl
  input_is log_kind line [] (Ok bytes) e = one_line line bytes refl e (envelope_is log_kind bytes (envelope_of bytes) refl)
  input_is log_kind line (next ∷ more) (Ok bytes) e = second_line line bytes next more refl e refl

  pub id_is : (log_kind : LogKind) (lines : List (List ℕ)) → IsIdAnswer log_kind lines (id_answer log_kind lines)
  id_is log_kind [] = no_line refl refl
  id_is log_kind (line ∷ more) = input_is log_kind line more (input_of line) refl

  -- ---- and the only one

  envelope_only : (log_kind : LogKind) (bytes : List ℕ) (printed : OutputData) → IsEnvelopeAnswer log_kind bytes printed → printed ≡ envelope_answer log_kind (envelope_of bytes)
  envelope_only log_kind bytes printed (is_read envelope is e) = e ∙ ap (envelope_answer log_kind) (sym ((computes bytes).value_converse envelope is))
  envelope_only log_kind bytes printed (has_fault fault has e) = e ∙ ap (envelope_answer log_kind) (sym ((computes bytes).fault_converse fault has))

  bad_only : (log_kind : LogKind) (spelled : Result (List ℕ) FromHexError) (more : List (List ℕ)) (printed : OutputData) → IsErr spelled → printed ≡ input_answer log_kind (Err FromHexError.OddLength) more → printed ≡ input_answer log_kind spelled more
  bad_only log_kind (Ok bytes) more printed bad e = absurd (false≢true bad)
  bad_only log_kind (Err fault) more printed bad e = e

  pub id_only : (log_kind : LogKind) (lines : List (List ℕ)) (printed : OutputData) → IsIdAnswer log_kind lines printed → printed ≡ id_answer log_kind lines
  id_only log_kind lines printed (no_line is e) = e ∙ ap (id_answer log_kind) (sym is)
  id_only log_kind lines printed (bad_digits line more is bad e) = bad_only log_kind (input_of line) more printed bad e ∙ ap (id_answer log_kind) (sym is)
  id_only log_kind lines printed (second_line line bytes next more is good e) =
      e ∙ ap (λ (spelled : Result (List ℕ) FromHexError). input_answer log_kind spelled (next ∷ more)) (sym good) ∙ ap (id_answer log_kind) (sym is)
  id_only log_kind lines printed (one_line line bytes is good found) =
      envelope_only log_kind bytes printed found ∙ ap (λ (spelled : Result (List ℕ) FromHexError). input_answer log_kind spelled []) (sym good) ∙ ap (id_answer log_kind) (sym is)
