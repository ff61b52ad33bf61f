-- The lines of claims.
use Rattle.std.proofs.Common.{◌≡◌, ◌+◌, ◌<◌, ℕ, suc, List, [], ◌∷◌, ◌++◌, length, map, take, refl, sym, ap, ◌∙◌, append_assoc, arith, false, is_none, slice_index_or, subst, Option, Some, None, Result, Ok, Err}
use Rattle.std.proofs.lemmas.Bool.{false≢true}
use Rattle.std.proofs.Math.Seq.{take-length, take-suc}
use Rattle.std.proofs.lemmas.List.{map-append}
use Rattle.warg_protocol.specs.Logs.{Cause, EnvelopeData, Kind}
use Rattle.warg_audit.specs.Files.Lines.{inputs_of}
use Rattle.warg_audit.specs.Printouts.{OutputData, bad_line}
use Rattle.warg_audit.specs.declared.files.lines.LineError.TheVariants.{Bad}
use Rattle.warg_audit.proofs.FilesLemmas.InputLemmas as lines
use Rattle.warg_claims.specs.Claimed.{AreClaims, EndsAt, IsRefusedAnyway}
use Rattle.warg_replay.specs.OutcomeRuns.{IfNamed}
use Rattle.warg_claims.specs.Verified.Claims.{ClaimData, claim_text}
use Rattle.warg_audit.specs.Files.Answers.{Answers, IfOutput}
use Rattle.tool_changes.specs.ClaimTexts.{IsClaimList, IsClaimsAnswer, cut, first_bad, listed, whole}
use Rattle.warg_audit.specs.declared.files.command_output.CommandOutput.{CommandOutput}
use Rattle.warg_audit.specs.declared.files.command_error.CommandError.{CommandError}
use Rattle.warg_audit.proofs.FilesLemmas.AnswerLemmas.{Answers-to, IfOutput-to}
use Rattle.warg_audit.specs.Files.Texts.{all_lines, line, no, yes}
use Rattle.tool_answers.specs.Texts.{within}

all_lines-append : (texts : List (List ℕ)) (text : List ℕ) → all_lines (texts ++ text ∷ []) ≡ all_lines texts ++ (text ++ 10 ∷ [])
all_lines-append [] text = append_nil_line text
  where
    append_nil_line : (text : List ℕ) → (text ++ 10 ∷ []) ++ [] ≡ text ++ 10 ∷ []
    append_nil_line [] = refl
    append_nil_line (b ∷ more) = ap (λ rest. b ∷ rest) (append_nil_line more)
all_lines-append (first ∷ more) text =
    ap (λ rest. line first ++ rest) (all_lines-append more text) ∙ sym (append_assoc (line first) (all_lines more) (text ++ 10 ∷ []))

-- one claim more
pub claims_more : (n : ℕ) (claims : List ClaimData) (claim : ClaimData) (text new : List ℕ) → n < length claims
    → claim ≡ slice_index_or claims n claim → text ≡ all_lines (map claim_text (take n claims))
    → new ≡ text ++ line (claim_text claim) → new ≡ all_lines (map claim_text (take (n + 1) claims))
claims_more n claims claim text new low is so_far more =
    let e : n + 1 ≡ suc n = omega arith in
    more ∙ ap (λ t. t ++ line (claim_text claim)) so_far ∙ sym (all_lines-append (map claim_text (take n claims)) (claim_text claim))
    ∙ ap (λ it. all_lines (map claim_text (take n claims) ++ claim_text it ∷ [])) is
    ∙ sym (rw e (ap (λ cs. all_lines (map claim_text cs)) (take-suc claims n claim low)
    ∙ ap all_lines (map-append claim_text (take n claims) (slice_index_or claims n claim ∷ []))))

-- ---- answers

-- what is named of a cause that is not that memory was refused
named_why : {C : Type 0} (found : Option C) (P : C → Type 0) → is_none found ≡ false → IfNamed found P → (why : C) × P why
named_why None P some h = absurd (false≢true (sym some))
named_why (Some why) P some h = (why, h)

module _ {View Offence F : Type 0} (k : Kind View Offence) (read : List ℕ → Result EnvelopeData F) where
  pub claim_list : (inputs : List (List ℕ)) (claims : List ClaimData) (text : List ℕ) (printed : OutputData)
      → printed ≡ yes text → AreClaims k read (take (length claims) inputs) claims
      → text ≡ all_lines (map claim_text claims) → length claims ≡ length inputs → IsClaimList k read inputs printed
  claim_list inputs claims text printed is own e all =
      let P : List (List ℕ) → Type 0 = λ ss. AreClaims k read ss claims in
      whole claims (subst P (ap (λ n. take n inputs) all ∙ take-length inputs) own) (is ∙ ap yes e)

  -- a list that was cut, before an input that is refused whatever its signature
  cut_list : {C : Type 0} (named_by : C → Option (Cause F Offence)) (cause : C) (inputs : List (List ℕ)) (claims : List ClaimData)
      (text : List ℕ) (printed : OutputData) → printed ≡ no text → is_none (named_by cause) ≡ false
      → AreClaims k read (take (length claims) inputs) claims → text ≡ all_lines (map claim_text claims)
      → EndsAt k read named_by inputs (length claims) (Some cause) → IsClaimList k read inputs printed
  cut_list named_by cause inputs claims text printed is some own e ends =
      let found = named_why (named_by cause) (IsRefusedAnyway k read inputs (length claims)) some ends in
      cut claims found.0 own found.1 (is ∙ ap no e)

  pub cut_answers : {C : Type 0} (named_by : C → Option (Cause F Offence)) (cause : C) (inputs : List (List ℕ)) (claims : List ClaimData)
      (text : List ℕ) (result : Result CommandOutput CommandError) → AreClaims k read (take (length claims) inputs) claims
      → text ≡ all_lines (map claim_text claims) → EndsAt k read named_by inputs (length claims) (Some cause)
      → Answers (λ printed. (printed ≡ no text) × (is_none (named_by cause) ≡ false)) result
      → Answers (IsClaimList k read inputs) result
  cut_answers named_by cause inputs claims text result own e ends h =
      Answers-to (λ printed. (printed ≡ no text) × (is_none (named_by cause) ≡ false)) (IsClaimList k read inputs)
      (λ printed it. cut_list named_by cause inputs claims text printed it.0 it.1 own e ends) result h

  pub list_answers : (limit : ℕ) (ls inputs : List (List ℕ)) (list printed : OutputData) → inputs_of ls ≡ Ok inputs → IsClaimList k read inputs list
      → printed ≡ within limit list → IsClaimsAnswer limit k read ls printed
  list_answers limit ls inputs list printed e h is = listed inputs (lines.spell_from 0 ls inputs e) list h is

  pub bad_line_answers : (limit : ℕ) (ls : List (List ℕ)) (end : CommandError)
      → IfOutput (λ printed. (index : ℕ) × ((inputs_of ls ≡ Err (Bad index)) × (printed ≡ bad_line index))) end
      → IfOutput (IsClaimsAnswer limit k read ls) end
  bad_line_answers limit ls end h =
      IfOutput-to (λ printed. (index : ℕ) × ((inputs_of ls ≡ Err (Bad index)) × (printed ≡ bad_line index)))
      (IsClaimsAnswer limit k read ls) (λ printed bad. first_bad bad.0 (lines.first_bad ls bad.0 bad.1.0) bad.1.1) end h
