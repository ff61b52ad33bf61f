-- Files that list no names.
use Rattle.std.proofs.Common.{◌≡◌, ◌⊎◌, inl, inr, ℕ, Bool, true, false, List, Option, Result, Ok, Err, IfErr, IsErr, refl, ap}
use Rattle.std.proofs.lemmas.Bool.{false≢true}
use Rattle.std.specs.Str.{IsUtf8}
use Rattle.warg_audit.specs.Files.Answers.{IfOutput, IsUnusable}
use Rattle.warg_audit.specs.Files.Files.{Files, Reads}
use Rattle.warg_audit.specs.Files.Unusable.{read}
use Rattle.warg_audit.specs.declared.files.command_error.CommandError.{CommandError}
use Rattle.warg_audit.specs.declared.files.command_error.CommandError.TheVariants as command_error
use Rattle.warg_audit.proofs.FilesLemmas.AnswerLemmas.{IfOutput-to}
use Rattle.tool_layout.specs.Names.{names_of}
use Rattle.tool_layout.specs.declared.error.NameFault.TheVariants as fault
use Rattle.tool_layout.specs.declared.error.NamesParseError.{NamesParseError}
use Rattle.weoldrin.specs.Looks.{IsUnnamed, ListNoNames}

abbrev is_memory : CommandError → Bool
is_memory (command_error.Output answer) = false
is_memory command_error.OutOfMemory = true

-- the end for a text whose line says no name, unless memory ran out
pub unsaid_end : (text : List ℕ) (e : NamesParseError) (end : CommandError) → (e.fault ≡ fault.OutOfMemory) ⊎ (names_of text ≡ Err e)
    → (e.fault ≡ fault.OutOfMemory → end ≡ command_error.OutOfMemory) → IfOutput IsUnusable end
    → IfOutput (λ told. IsErr (names_of text) × IsUnusable told) end
unsaid_end text e (command_error.Output answer) (inl memory) ends h = absurd (false≢true (ap is_memory (ends memory)))
unsaid_end text e (command_error.Output answer) (inr is) ends h = (rw is refl, h)
unsaid_end text e command_error.OutOfMemory why ends h = tt

-- what is no text lists no names
pub unlisted_bytes : (bytes : List ℕ) (end : CommandError) → (IsUtf8 bytes → ⊥) → IfOutput IsUnusable end
    → IfOutput (λ told. ListNoNames bytes × IsUnusable told) end
unlisted_bytes bytes end bad h = IfOutput-to IsUnusable (λ told. ListNoNames bytes × IsUnusable told) (λ told is. (inl bad, is)) end h

-- nor does a text of which a line says no name
pub unlisted_text : {X : Type 0} (bytes text : List ℕ) (result : Result X CommandError) → text ≡ bytes
    → IfErr result (IfOutput (λ told. IsErr (names_of text) × IsUnusable told))
    → IfErr result (IfOutput (λ told. ListNoNames bytes × IsUnusable told))
unlisted_text bytes text (Ok names) e h = tt
unlisted_text bytes text (Err end) e h =
    IfOutput-to (λ told. IsErr (names_of text) × IsUnusable told) (λ told. ListNoNames bytes × IsUnusable told)
    (λ told it. (inr (rw e at it.0), it.1)) end h

-- a file that lists none
pub unlisted_file : {X : Type 0} (files : Option Files) (path bytes : List ℕ) (result : Result X CommandError) → Reads files path bytes
    → IfErr result (IfOutput (λ told. ListNoNames bytes × IsUnusable told)) → IfErr result (IfOutput (IsUnnamed files path))
unlisted_file files path bytes (Ok names) held h = tt
unlisted_file files path bytes (Err end) held h =
    IfOutput-to (λ told. ListNoNames bytes × IsUnusable told) (IsUnnamed files path) (λ told it. read bytes held it) end h
