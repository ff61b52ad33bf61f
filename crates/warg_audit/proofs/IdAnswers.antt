-- The answers to an input, by what was found of its lines.
use Rattle.std.proofs.Common.{◌≡◌, ◌≢◌, ◌<◌, ◌≤◌, ℕ, Bool, true, false, cond, List, [], ◌∷◌, length, refl, ◌∙◌, ap, arith, zero, suc, Option, Some, None, IfSome, Ok, IsErr}
use Rattle.std.specs.Io.KnownBytes.{Appends}
use Rattle.warg_audit.specs.declared.log_kind.LogKind.{LogKind}
use Rattle.warg_audit.specs.declared.command.Command.{Command}
use Rattle.warg_audit.specs.Commands.{command_of}
use Rattle.warg_audit.specs.Files.Lines.{lines_of, input_of, is_line_feed, onto}
use Rattle.warg_audit.specs.Answers.{IsEnvelopeAnswer, IsIdAnswer, bad_digits, second_line, one_line, IsCommandAnswer, other_words, over_limit, of_lines}
use Rattle.warg_audit.specs.Printouts.{OutputData, usage, too_long, bad_line}
use Rattle.warg_audit.specs.Replies.{IsReply, answer, unread, memory_refused, IsAnswered}
use Rattle.warg_audit.proofs.FilesLemmas.LineLemmas.{lines_of-are}

-- ---- the lines behind the first one

no_more : (text : List ℕ) → length text ≡ 0 → lines_of text ≡ []
no_more [] e = refl
no_more (b ∷ rest) e = absurd (omega arith)

first_of_onto : (b : ℕ) (lines : List (List ℕ)) → (next : List ℕ) × (more : List (List ℕ)) × (onto b lines ≡ next ∷ more)
first_of_onto b [] = (b ∷ [], [], refl)
first_of_onto b (line ∷ more) = (b ∷ line, more, refl)

first_of_step : (ends : Bool) (b : ℕ) (lines : List (List ℕ)) → (next : List ℕ) × (more : List (List ℕ)) × (cond ends ([] ∷ lines) (onto b lines) ≡ next ∷ more)
first_of_step true b lines = ([], lines, refl)
first_of_step false b lines = first_of_onto b lines

more_lines : (text : List ℕ) → 0 < length text → (next : List ℕ) × (more : List (List ℕ)) × (lines_of text ≡ next ∷ more)
more_lines [] h = absurd (omega arith)
more_lines (b ∷ rest) h = first_of_step (is_line_feed b) b (lines_of rest)

-- ---- the answer to an input, by its first line and what stands behind it

module _ (log_kind : LogKind) (text line more : List ℕ) (printed : OutputData) where
  pub bad_first : lines_of text ≡ line ∷ lines_of more → IsErr (input_of line) → printed ≡ bad_line 0 → IsIdAnswer log_kind (lines_of text) printed
  bad_first cut bad is = bad_digits line (lines_of more) cut bad is

  pub line_behind : (bytes : List ℕ) → lines_of text ≡ line ∷ lines_of more → input_of line ≡ Ok bytes → 0 < length more → printed ≡ bad_line 1 → IsIdAnswer log_kind (lines_of text) printed
  line_behind bytes cut good some is =
      let next = more_lines more some in
      second_line line bytes next.0 next.1 (cut ∙ ap (λ lines. line ∷ lines) next.2) good is

  pub only_line : (bytes : List ℕ) → lines_of text ≡ line ∷ lines_of more → input_of line ≡ Ok bytes → length more ≡ 0 → IsEnvelopeAnswer log_kind bytes printed → IsIdAnswer log_kind (lines_of text) printed
  only_line bytes cut good none is = one_line line bytes (cut ∙ ap (λ lines. line ∷ lines) (no_more more none)) good is

-- ---- a list longer than any number

long_list : (n : ℕ) → (bytes : List ℕ) × (n < length bytes)
long_list zero = (0 ∷ [], omega arith)
long_list (suc n) = let more = long_list n in (0 ∷ more.0, omega (arith, more.1))

-- ---- replies

module _ (words : List (List ℕ)) (Failed : Type 0) (printed : OutputData) where
  pub usage_reply : (known : Option (List ℕ)) → command_of words ≡ None → printed ≡ usage → IsReply words known Failed printed
  usage_reply (Some all) none e = answer all refl (other_words none e)
  usage_reply None none e = answer [] tt (other_words none e)

  pub long_reply : (known : Option (List ℕ)) (command : Command) → command_of words ≡ Some command → IfSome known (λ bytes. 16_777_216 < length bytes)
      → printed ≡ too_long → IsReply words known Failed printed
  long_reply (Some all) command is h e = answer all refl (over_limit command is h e)
  long_reply None command is h e = let long = long_list 16_777_216 in answer long.0 tt (over_limit command is long.1 e)

  pub lines_reply : (known : Option (List ℕ)) (command : Command) (bytes : List ℕ) → command_of words ≡ Some command → IfSome known (λ all. all ≡ bytes)
      → length bytes ≤ 16_777_216 → IsCommandAnswer command (lines_of bytes) printed → IsReply words known Failed printed
  lines_reply known command bytes is are short found = answer bytes are (of_lines command (lines_of bytes) is short (lines_of-are bytes) found)

-- ---- what was written of a reply

module _ (words : List (List ℕ)) (known before after : Option (List ℕ)) (Failed : Type 0) (printed : OutputData) (status : ℕ) where
  pub answered_by : IsReply words known Failed printed → status ≡ printed.status → Appends before after printed.text → status ≢ 3 → IsAnswered words known before after status
  answered_by (answer bytes are is) same wrote other = record { bytes = bytes; are_known = are; printed = printed; is_answer = is; is_printed = record { status_is = same; text_is = wrote } }
  answered_by (unread failed is) same wrote other = absurd (other (same ∙ ap (λ (p : OutputData). p.status) is))
  answered_by (memory_refused is) same wrote other = absurd (other (same ∙ ap (λ (p : OutputData). p.status) is))
