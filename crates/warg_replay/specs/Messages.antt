-- The names of causes and errors, and their texts.
use Rattle.std.specs.Prelude.{ℕ, List, ◌++◌, codes, Option}
use Rattle.std.specs.Fmt.{decimal}
use Rattle.std.specs.Option.{option_map}
use Rattle.warg_envelope.specs.FaultNames.{error_name}
use Rattle.warg_envelope.specs.declared.proto_envelope.error.ParseEnvelopeError.{ParseEnvelopeError}
use Rattle.warg_replay.specs.declared.replay.RunCause.{RunCause}
use Rattle.warg_replay.specs.declared.replay.RunCause.TheVariants.{Parse, Validation}

-- the name of a cause is that of the error that it holds
abbrev pub cause_name : {E : Type 0} → (E → List ℕ) → RunCause E → List ℕ
cause_name name_of (Parse error) = error_name error
cause_name name_of (Validation error) = name_of error

-- the text of a cause is that of the error that it holds, where it is known what that prints
abbrev pub cause_text : {E : Type 0} → (ParseEnvelopeError → Option (List ℕ)) → (E → Option (List ℕ)) → RunCause E
    → Option (List ℕ)
cause_text parse_text validation_text (Parse error) = parse_text error
cause_text parse_text validation_text (Validation error) = validation_text error

-- `record 4: ` and the text of the cause
abbrev pub run_error_text : ℕ → Option (List ℕ) → Option (List ℕ)
run_error_text index text = option_map (λ t. ((codes "record " ++ decimal index) ++ codes ": ") ++ t) text
