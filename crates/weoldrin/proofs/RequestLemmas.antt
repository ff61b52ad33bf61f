-- What is answered to requests, as text or in JSON.
use Rattle.std.proofs.Common.{◌≡◌, ◌⊎◌, inl, inr, ℕ, Bool, true, false, List, map, Option, Some, None, Result, Ok, Err, IsErr, IfOk, string_bytes, sym, ap, ◌∙◌}
use Rattle.std.specs.List.{slice_get}
use Rattle.std.specs.Option.{option_map}
use Rattle.std.proofs.lemmas.Option.{slice_get-map}
use Rattle.std.proofs.lemmas.Bool.{false≢true}
use Rattle.std.specs.declared.alloc.AllocError.{AllocError}
use Rattle.warg_audit.specs.Printouts.{OutputData}
use Rattle.semver.specs.Parse.{req_of}
use Rattle.tool_changes.specs.Latest.{IsRequirement}
use Rattle.warg_audit.specs.Files.Answers.{IfOutput, IsUnusable, output_data}
use Rattle.warg_audit.specs.declared.files.command_output.CommandOutput.{CommandOutput}
use Rattle.warg_audit.specs.declared.files.command_error.CommandError.{CommandError}
use Rattle.warg_audit.specs.declared.files.command_error.CommandError.TheVariants as command_error
use Rattle.tool_checkpoints.specs.Words.{IsUnsaid}
use Rattle.tool_checkpoints.proofs.WordLemmas.{unsaid_for}
use Rattle.tool_changes.specs.JsonLines.{IsInJson}
use Rattle.warg_claims.specs.Verified.Claims.{ClaimData}
use Rattle.warg_claims.specs.Verified.Lines.{claim_of}
use Rattle.warg_claims.specs.Verified.Texts.{IsFirstFault, IsReadFrom}
use Rattle.warg_claims.specs.declared.verified.error.ClaimParseError.{ClaimParseError}
use Rattle.weoldrin.specs.Looks.{as_it_is}
use Rattle.weoldrin.specs.Requests.{IsRenderedAs, IsErrorRendered, IsRenderedTo}

module _ (json : Bool) (command : List ℕ) (layout : List ℕ → List ℕ) (P : OutputData → Type 0) (told : List ℕ) (printed : OutputData) where
  -- verdicts on many logs are printed as they are
  pub rendered_many : (many : Bool) → many ≡ true → P printed → IsRenderedTo many json command layout P told printed
  rendered_many true e h = h
  rendered_many false e h = absurd (false≢true e)

  -- and another answer as it is wanted
  pub rendered_one : (many : Bool) → many ≡ false → IsRenderedAs json command layout P told printed → IsRenderedTo many json command layout P told printed
  rendered_one true e h = absurd (false≢true (sym e))
  rendered_one false e h = h

-- JSON of an answer is beside what that tells
pub json_rendered : (result : Result CommandOutput AllocError) (command : List ℕ) (plain : CommandOutput)
    → IfOk result (λ json. IsInJson command (output_data plain) (string_bytes plain.error_text) (output_data json))
    → IfOk result (λ json. json.error_text ≡ plain.error_text)
    → IfOk result (λ it. IsInJson command (output_data plain) (string_bytes it.error_text) (output_data it))
json_rendered (Ok it) command plain is told = rw told is
json_rendered (Err e) command plain is told = tt

-- the answer that ends a command is given as it is wanted
pub render_error : (P : OutputData → Type 0) (end : CommandError) (json : Bool) (command told : List ℕ) (printed : OutputData) → IfOutput P end
    → IsErrorRendered json command end told printed → IsRenderedAs json command as_it_is P told printed
render_error P (command_error.Output answer) json command told printed h is = (output_data answer, h, is)
render_error P command_error.OutOfMemory json command told printed h is = absurd is

never_both : {T E : Type 0} (result : Result T E) (value : T) → IsErr result → result ≡ Ok value → ⊥
never_both (Ok it) value is_err e = false≢true is_err
never_both (Err fault) value is_err e = cc

-- a word that is refused is no requirement
pub no_requirement : (word : List ℕ) (end : CommandError) → IfOutput (λ printed. IsErr (req_of word) × IsUnusable printed) end
    → IfOutput (IsUnsaid (IsRequirement word)) end
no_requirement word end h = unsaid_for (IsRequirement word) (IsErr (req_of word)) end h (λ is_err wanted e. never_both (req_of word) _ is_err e)

-- ---- claims

no_fault : (found : Option ClaimData) (fault : ClaimParseError) → option_map Ok found ≡ Some (Err fault) → ⊥
no_fault (Some claim) fault e = cc
no_fault None fault e = cc

-- where a line says no claim, the lines say none
pub no_claims : (memory : Type 0) (text_lines : List (List ℕ)) (place : ℕ) (fault : ClaimParseError)
    → (memory ⊎ IsFirstFault text_lines place fault) → memory ⊎ ((claims : List ClaimData) → IsReadFrom text_lines claims → ⊥)
no_claims memory text_lines place fault (inl it) = inl it
no_claims memory text_lines place fault (inr first) = inr (λ claims it.
    let found : slice_get (map claim_of text_lines) place ≡ Some (Err fault) =
    slice_get-map claim_of text_lines place ∙ ap (option_map claim_of) first.at ∙ ap Some first.here in
    let said : slice_get (map claim_of text_lines) place ≡ option_map Ok (slice_get it.claims place) =
    ap (λ xs. slice_get xs place) it.said ∙ slice_get-map Ok it.claims place in
    no_fault (slice_get it.claims place) fault (sym said ∙ found))
