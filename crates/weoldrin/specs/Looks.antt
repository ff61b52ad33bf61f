-- How answers look: with whole ids or short ones, and with names in place of the ids of keys.
use Rattle.std.specs.Prelude.{◌≡◌, ◌⊎◌, ℕ, Bool, ◌&&◌, not, if◌then◌else◌, List, [], Option, Some, None, IsErr, Ok}
use Rattle.std.specs.Borrow.{Bor}
use Rattle.std.specs.Str.{IsUtf8}
use Rattle.warg_audit.specs.Files.Answers.{IsUnusable}
use Rattle.warg_audit.specs.Files.Files.{Files, Reads}
use Rattle.warg_audit.specs.Files.OutputData.{OutputData}
use Rattle.warg_audit.specs.Files.Unusable.{IsOfFile}
use Rattle.tool_layout.specs.Chains.{chain_layout}
use Rattle.tool_layout.specs.Colours.{painted}
use Rattle.tool_layout.specs.KeyNames.{KeyName}
use Rattle.tool_layout.specs.Logs.{log_layout}
use Rattle.tool_layout.specs.Names.{names_of}
use Rattle.tool_layout.specs.declared.look.Look.{Look}
use Rattle.tool_words.specs.declared.request.LogQuery.{LogQuery}
use Rattle.tool_words.specs.declared.request.LogQuery.TheVariants as question
use Rattle.tool_words.specs.declared.request.Request.{Request}
use Rattle.tool_words.specs.declared.request.Request.TheVariants as request

-- the names that the file of a path lists
pub record AreNamesIn (files : Option Files) (path : List ℕ) (names : List KeyName) : Type 0 where
  pub bytes : List ℕ
  pub held : Reads files path bytes
  pub said : names_of bytes ≡ Ok names

-- bytes list no names: they are no text, or a line of it says no name
abbrev pub ListNoNames : List ℕ → Type 0
ListNoNames bytes = (IsUtf8 bytes → ⊥) ⊎ IsErr (names_of bytes)

-- nothing is printed for want of the names in the file of a path: it can't be read, or lists none
abbrev pub IsUnnamed : Option Files → List ℕ → OutputData → Type 0
IsUnnamed files path printed = IsOfFile files path (λ bytes told. ListNoNames bytes × IsUnusable told) printed

-- P of the names that keys have: none, or those that a file lists; Unread of its path, if that can't be used
abbrev pub IsNamed : Option Files → Option (Bor (List ℕ)) → (List ℕ → Type 0) → (List KeyName → Type 0) → Type 0
IsNamed files None Unread P = P []
IsNamed files (Some path) Unread P = Unread path.now ⊎ ((names : List KeyName) × AreNamesIn files path.now names × P names)

-- a text as it is
abbrev pub as_it_is : List ℕ → List ℕ
as_it_is text = text

-- how the text that a question is answered is laid out: that of a chain as one, any other stays as it is
abbrev pub layout_of_question : LogQuery → Look → List ℕ → List ℕ
layout_of_question (question.Chain key_id permission path) look = chain_layout look
layout_of_question _ look = as_it_is

-- the same of a request: that of a log in words as one
abbrev pub layout_of : Request → Look → List ℕ → List ℕ
layout_of (request.Show kind path) look = log_layout look
layout_of (request.Ask kind it) look = layout_of_question it look
layout_of _ look = as_it_is

-- an answer whose text is laid out so
abbrev pub laid_out : (List ℕ → List ℕ) → OutputData → OutputData
laid_out layout plain = record { text = layout plain.text; status = plain.status }

-- an answer as it is printed: in colour on a terminal, unless its user has asked for none
abbrev pub coloured : Bool → Bool → OutputData → OutputData
coloured on_terminal plainly printed = if on_terminal && not plainly then laid_out painted printed else printed
