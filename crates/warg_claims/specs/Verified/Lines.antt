-- Lines of claims, as they are read.
use Rattle.std.specs.Prelude.{ℕ, ◌==◌, Bool, if◌then◌else◌, List, length, Option, Some, None, Result, Ok, Err}
use Rattle.std.specs.List.{before_first, after_first, position_or_len}
use Rattle.hex.specs.Hex.{decode_of}
use Rattle.hex.specs.declared.error.FromHexError.{FromHexError}
use Rattle.warg_crypto.specs.Keys.{public_key_of, signature_of}
use Rattle.warg_crypto.specs.NamedBytes.{NamedBytes}
use Rattle.warg_printable.specs.Back.{unprintable}
use Rattle.warg_claims.specs.Verified.Claims.{ClaimData}
use Rattle.warg_claims.specs.Verified.Faults.{key_fault, message_fault, signature_fault}
use Rattle.warg_claims.specs.declared.verified.error.ClaimParseError.{ClaimParseError}
use Rattle.warg_claims.specs.declared.verified.error.ClaimParseError.TheVariants as fault

-- whether the byte is a space
abbrev pub is_space : ℕ → Bool
is_space b = b == 32

-- whether no space stands in the text
abbrev pub has_no_space : List ℕ → Bool
has_no_space text = position_or_len is_space text == length text

-- what a text says, with its fault as that of the line
abbrev pub as_part : {E : Type 0} → (E → ClaimParseError) → Result NamedBytes E → Result NamedBytes ClaimParseError
as_part told (Ok it) = Ok it
as_part told (Err e) = Err (told e)

-- the key that a text says, if there is one
abbrev pub key_if_read : Option (List ℕ) → Result NamedBytes ClaimParseError
key_if_read None = Err fault.BadEscape
key_if_read (Some text) = as_part key_fault (public_key_of text)

-- the signature that a text says, if there is one
abbrev pub signature_if_read : Option (List ℕ) → Result NamedBytes ClaimParseError
signature_if_read None = Err fault.BadEscape
signature_if_read (Some text) = as_part signature_fault (signature_of text)

-- the key whose printed text this is, or its fault
abbrev pub printed_key_of : List ℕ → Result NamedBytes ClaimParseError
printed_key_of part = key_if_read (unprintable part)

-- the signature whose printed text this is, or its fault
abbrev pub printed_signature_of : List ℕ → Result NamedBytes ClaimParseError
printed_signature_of part = signature_if_read (unprintable part)

-- what the three parts of a line say, or the fault of the first that says nothing
abbrev pub claim_of_parts : Result NamedBytes ClaimParseError → Result (List ℕ) FromHexError → Result NamedBytes ClaimParseError
    → Result ClaimData ClaimParseError
claim_of_parts (Err e) message signature = Err e
claim_of_parts (Ok key) (Err e) signature = Err (message_fault e)
claim_of_parts (Ok key) (Ok message) (Err e) = Err e
claim_of_parts (Ok key) (Ok message) (Ok signature) = Ok (record { key = key; message = message; signature = signature })

-- what a line says, or its first fault: the line is cut at its first two spaces
abbrev pub claim_of : List ℕ → Result ClaimData ClaimParseError
claim_of line =
    let rest = after_first is_space line in
    if has_no_space line then Err fault.MissingPart
    else if has_no_space rest then Err fault.MissingPart
    else claim_of_parts (printed_key_of (before_first is_space line)) (decode_of (before_first is_space rest)) (printed_signature_of (after_first is_space rest))
