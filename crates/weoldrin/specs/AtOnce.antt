-- What the program's words say: an invocation, or what is answered by itself.
use Rattle.std.specs.Prelude.{◌≡◌, ◌⊎◌, ℕ, true, false, List, None, Some, string_bytes}
use Rattle.warg_audit.specs.Printouts.{OutputData}
use Rattle.warg_audit.specs.Files.Answers.{output_data, IsUnusable}
use Rattle.tool_words.specs.Invocations.{asks_for_json, asks_for_text, invocation_of, IsCalled, named_command}
use Rattle.weoldrin.specs.Looks.{as_it_is}
use Rattle.weoldrin.specs.Requests.{IsRenderedAs}
use Rattle.weoldrin.specs.declared.words.Parsed.{Parsed}
use Rattle.weoldrin.specs.declared.words.Parsed.TheVariants as parsed

-- what is answered to words that ask for a text alone: that, with status 0
pub record IsText (words : List (List ℕ)) (printed : OutputData) : Type 0 where
  pub asked : asks_for_text words ≡ true
  pub status : printed.status ≡ 0

-- what is answered to wrong words, of which this is told on standard error: nothing on standard output, with status 2; in JSON, if that
-- is asked for, the object that says so
pub record IsWrong (words : List (List ℕ)) (told : List ℕ) (printed : OutputData) : Type 0 where
  pub asked : asks_for_text words ≡ false
  pub given : IsRenderedAs (asks_for_json words) (named_command words) as_it_is IsUnusable told printed

-- what words say: the invocation that they are; else they are answered at once
abbrev pub IsParsed : List (List ℕ) → Parsed → Type 0
IsParsed words (parsed.Invocation it) = IsCalled (invocation_of words) words (Some it)
IsParsed words (parsed.Output answer) =
    (invocation_of words ≡ None) × (IsText words (output_data answer) ⊎ IsWrong words (string_bytes answer.error_text) (output_data answer))
