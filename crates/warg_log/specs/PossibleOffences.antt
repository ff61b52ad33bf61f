-- The offences that a record may have.
use Rattle.std.specs.Prelude.{◌≡◌, Bool, true, false}
use Rattle.warg_crypto.specs.declared.signing.error.SignatureError.TheVariants.{Refused, OutOfMemory}
use Rattle.warg_log.specs.Rules.{LogOffence}
use Rattle.warg_log.specs.Offences.{Offence, WrongSignature, IncorrectHashAlgorithm}

-- no record is refused for out of memory within another error, and there is one algorithm
abbrev pub is_possible_offence : {P : Type 0} → Offence P → Bool
is_possible_offence (WrongSignature Refused) = true
is_possible_offence (WrongSignature OutOfMemory) = false
is_possible_offence (IncorrectHashAlgorithm found expected) = false
is_possible_offence offence = true

-- a record that is held is read already
abbrev pub IsPossible : {P F : Type 0} → LogOffence P F → Type 0
IsPossible (LogOffence.Shared offence) = is_possible_offence offence ≡ true
IsPossible (LogOffence.Own offence) = Unit {0}
IsPossible LogOffence.Unreadable = ⊥
