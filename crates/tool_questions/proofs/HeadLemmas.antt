-- What is printed of last records.
use Rattle.std.proofs.Common.{◌≡◌, ℕ, List, length, Option, Some, subst, ap, ◌∙◌}
use Rattle.std.specs.Fmt.{decimal}
use Rattle.warg_log.specs.declared.head.Head.{Head}
use Rattle.warg_protocol.specs.Records.{hash_text}
use Rattle.warg_audit.specs.LogAnswers.{LogDisplay}
use Rattle.warg_audit.specs.Printouts.{OutputData}
use Rattle.warg_audit.specs.Files.Texts.{yes}
use Rattle.tool_answers.specs.ShownWords.{IsTimeText}
use Rattle.tool_answers.specs.Verdicts.{IsViewOf}
use Rattle.tool_questions.specs.HeadTexts.{IsHeadLine, IsHeadText, IsResumedHead, IsTotal, count_text, head_line}

-- the line of a last record by its parts
pub headed_line : (head : Head) (count : Option ℕ) (line time shown_time counted shown_count : List ℕ) (printed : OutputData)
    → IsTimeText head.timestamp time → shown_time ≡ time → counted ≡ count_text count → shown_count ≡ counted
    → line ≡ head_line (hash_text head.digest.hash) shown_time (decimal head.version) shown_count
    → printed ≡ yes line → IsHeadLine (Some head) count printed
headed_line head count line time shown_time counted shown_count printed is_time same_time is_count same_count is is_printed = (
  time,
  is_time,
  is_printed ∙ ap yes (is ∙ ap (λ it. head_line (hash_text head.digest.hash) it (decimal head.version) shown_count) same_time
      ∙ ap (λ it. head_line (hash_text head.digest.hash) time (decimal head.version) it) (same_count ∙ is_count)),
)

-- the last record of a lawful log
pub head_shown : {Meaning Fault View Offence S : Type 0} (log : LogDisplay Meaning Fault View Offence) (view : S → View)
    (last : S → Option Head) (inputs : List (List ℕ)) (state : S) (count : ℕ) (found : Option Head) (printed : OutputData)
    → IsViewOf log (view state) inputs → count ≡ length inputs → found ≡ last state → IsHeadLine found (Some count) printed
    → IsHeadText log view last inputs printed
head_shown log view last inputs state count found printed stands counted is_last h = record {
  state = state;
  stands = stands;
  is =
      subst (λ (it : Option Head). IsHeadLine it (Some (length inputs)) printed) is_last
      (subst (λ (n : ℕ). IsHeadLine found (Some n) printed) counted h);
}

-- that of one that goes on
pub head_resumed : {S : Type 0} (last : S → Option Head) (count : Option ℕ) (next : S) (more : ℕ) (found : Option Head)
    (printed : OutputData) (total : Option ℕ) → IsTotal count more total → found ≡ last next → IsHeadLine found total printed
    → IsResumedHead last count next more printed
head_resumed last count next more found printed total is_total is_last h =
    (total, is_total, subst (λ (it : Option Head). IsHeadLine it total printed) is_last h)
