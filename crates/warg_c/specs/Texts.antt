-- Texts for the caller.
use Rattle.std.specs.Prelude.{◌≡◌, ◌≢◌, ◌⊎◌, ◌<◌, ◌≤◌, ℕ, List, ◌∷◌, ◌++◌, length, take, Option, Some, None, IfSome, Result, Ok, Err}
use Rattle.warg_envelope.specs.ErrorTexts.{error_text}
use Rattle.warg_replay.specs.Messages.{cause_name, cause_text}
use Rattle.warg_replay.specs.Inputs.{Cause, Unread, Unlawful}
use Rattle.warg_replay.specs.declared.replay.RunCause.{RunCause}
use Rattle.warg_c.specs.Statuses.{code_of}
use Rattle.warg_c.specs.declared.call_error.CallError.{CallError}
use Rattle.warg_c.specs.declared.call_error.CallError.TheVariants.{OutOfMemory, TooSmall, NoEnvelope, Refused, Absent, BadArgument}

-- what is said to be used lies within the buffer, unless that is too small
abbrev pub IsWithin : {T A : Type 0} → Result T CallError → ℕ → List A → Type 0
IsWithin (Ok _) used out = used ≤ length out
IsWithin (Err f) used out = f ≢ TooSmall → used ≤ length out

-- nothing is used, unless an error's text is given
abbrev pub IsQuiet : {T : Type 0} → Result T CallError → ℕ → Type 0
IsQuiet (Ok _) used = used ≡ 0
IsQuiet (Err f) used = f ≢ NoEnvelope → f ≢ Refused → used ≡ 0

-- the text is the name, a colon, a space and a sentence: this one, where it is known which is printed
pub record IsErrorLine (name : List ℕ) (printed : Option (List ℕ)) (text : List ℕ) : Type 0 where
  pub sentence : List ℕ
  pub line : text ≡ name ++ 58 ∷ 32 ∷ sentence
  pub known : IfSome printed (λ said. sentence ≡ said)

-- such a line, or the name alone: there was no memory for the line
abbrev pub IsNameOrLine : List ℕ → Option (List ℕ) → List ℕ → Type 0
IsNameOrLine name printed text = (text ≡ name) ⊎ IsErrorLine name printed text

-- the text of a cause: its name, and what is printed of it
abbrev pub SaysCause : {E : Type 0} → (E → List ℕ) → (E → Option (List ℕ)) → RunCause E → List ℕ → Type 0
SaysCause name_of output cause text = IsNameOrLine (cause_name name_of cause) (cause_text (λ e. Some (error_text e)) output cause) text

-- the text is given, or the buffer is too small for it, and then none is used
abbrev pub IsGiven : List ℕ → ℕ → List ℕ → Type 0
IsGiven told used out = ((used ≡ length told) × (take used out ≡ told)) ⊎ ((used ≡ 0) × (length out < length told))

-- a text that says this is given
abbrev pub IsErrorText : (List ℕ → Type 0) → ℕ → List ℕ → Type 0
IsErrorText Says used out = (told : List ℕ) × Says told × IsGiven told used out

-- which error of a call a cause is; none is named where memory ran out
abbrev pub error_by : {F Offence : Type 0} → Option (Cause F Offence) → CallError
error_by None = OutOfMemory
error_by (Some (Unread fault)) = NoEnvelope
error_by (Some (Unlawful offence)) = Refused

-- the text (or list) that is told is longer than the buffer, and as long as is said
abbrev pub NeedsRoom : {A : Type 0} → (List A → Type 0) → ℕ → List A → Type 0
NeedsRoom {A} Tells used out = (text : List A) × Tells text × (used ≡ length text) × (length out < length text)

-- what was found is given if there is room, and the error otherwise; n is the status
abbrev pub IsFinish : {V A : Type 0} → (V → List A) → Result V CallError → List A → ℕ → ℕ → List A → Type 0
IsFinish items (Ok v) old n used new = (used ≡ length (items v)) × (((n ≡ 0) × (take (length (items v)) new ≡ items v)) ⊎ ((n ≡ 3) × (length old < length (items v))))
IsFinish items (Err f) old n used new = n ≡ code_of f

-- memory may run out whatever the arguments are
abbrev pub Always : Type 0
Always = Unit {0}

-- why nothing was found: no memory, where some is taken, there is no such thing, or an argument is not of its form
abbrev pub ErrorsAs : Type 0 → Type 0 → Type 0 → CallError → Type 0
ErrorsAs Takes Lacks IsBad f = ((f ≡ OutOfMemory) × Takes) ⊎ (((f ≡ Absent) × Lacks) ⊎ ((f ≡ BadArgument) × IsBad))

-- why a text is not given: the buffer is too small, or why nothing was found
abbrev pub TextErrors : {A : Type 0} → Type 0 → (List A → Type 0) → Type 0 → Type 0 → ℕ → List A → CallError → Type 0
TextErrors Takes Tells Lacks IsBad used out OutOfMemory = Takes
TextErrors Takes Tells Lacks IsBad used out TooSmall = NeedsRoom Tells used out
TextErrors Takes Tells Lacks IsBad used out Absent = Lacks
TextErrors Takes Tells Lacks IsBad used out BadArgument = IsBad
TextErrors Takes Tells Lacks IsBad used out f = ⊥

-- why a call that gives no text is not done
abbrev pub CallErrors : Type 0 → Type 0 → Type 0 → CallError → Type 0
CallErrors Takes Lacks IsBad OutOfMemory = Takes
CallErrors Takes Lacks IsBad Absent = Lacks
CallErrors Takes Lacks IsBad BadArgument = IsBad
CallErrors Takes Lacks IsBad f = ⊥
