-- The statuses that calls return, by the names that the header gives them.
use Rattle.std.specs.Prelude.{◌≡◌, ◌≢◌, ◌≤◌, ℕ, zero, suc, List, [], ◌∷◌, codes, Option, Some, None, Result, Ok, Err}
use Rattle.warg_c.specs.declared.call_error.CallError.{CallError}
use Rattle.warg_c.specs.declared.call_error.CallError.TheVariants.{NotOpen, OutOfMemory, TooSmall, NoEnvelope, Refused, Absent, BadArgument, UnknownAlgorithm}

abbrev pub WARG_OK : ℕ
WARG_OK = 0

abbrev pub WARG_NOT_OPEN : ℕ
WARG_NOT_OPEN = 1

abbrev pub WARG_OUT_OF_MEMORY : ℕ
WARG_OUT_OF_MEMORY = 2

abbrev pub WARG_TOO_SMALL : ℕ
WARG_TOO_SMALL = 3

abbrev pub WARG_NO_ENVELOPE : ℕ
WARG_NO_ENVELOPE = 4

abbrev pub WARG_REFUSED : ℕ
WARG_REFUSED = 5

abbrev pub WARG_NONE : ℕ
WARG_NONE = 6

abbrev pub WARG_BAD_ARGUMENT : ℕ
WARG_BAD_ARGUMENT = 7

abbrev pub WARG_UNKNOWN_ALGORITHM : ℕ
WARG_UNKNOWN_ALGORITHM = 8

-- the fact holds unless the status is one of these
abbrev pub Unless : List ℕ → ℕ → Type 0 → Type 0
Unless [] n P = P
Unless (s ∷ ss) n P = n ≢ s → Unless ss n P

-- the status is one of these
abbrev pub IsOneOf : List ℕ → ℕ → Type 0
IsOneOf ss n = Unless ss n ⊥

-- the status of an error
abbrev pub code_of : CallError → ℕ
code_of NotOpen = WARG_NOT_OPEN
code_of OutOfMemory = WARG_OUT_OF_MEMORY
code_of TooSmall = WARG_TOO_SMALL
code_of NoEnvelope = WARG_NO_ENVELOPE
code_of Refused = WARG_REFUSED
code_of Absent = WARG_NONE
code_of BadArgument = WARG_BAD_ARGUMENT
code_of UnknownAlgorithm = WARG_UNKNOWN_ALGORITHM

-- the status of an outcome
abbrev pub status_of : {T : Type 0} → Result T CallError → ℕ
status_of (Ok _) = WARG_OK
status_of (Err f) = code_of f

-- the name of a status
abbrev pub status_name : ℕ → Option (List ℕ)
status_name zero = Some (codes "Ok")
status_name (suc zero) = Some (codes "NotOpen")
status_name (suc (suc zero)) = Some (codes "OutOfMemory")
status_name (suc (suc (suc zero))) = Some (codes "TooSmall")
status_name (suc (suc (suc (suc zero)))) = Some (codes "NoEnvelope")
status_name (suc (suc (suc (suc (suc zero))))) = Some (codes "Refused")
status_name (suc (suc (suc (suc (suc (suc zero)))))) = Some (codes "None")
status_name (suc (suc (suc (suc (suc (suc (suc zero))))))) = Some (codes "BadArgument")
status_name (suc (suc (suc (suc (suc (suc (suc (suc zero)))))))) = Some (codes "UnknownAlgorithm")
status_name (suc (suc (suc (suc (suc (suc (suc (suc (suc n))))))))) = None

-- all of a call in one statement: P at 0, and Q of the error at each other status
abbrev pub IsStatusOf : ℕ → Type 0 → (CallError → Type 0) → Type 0
IsStatusOf n P Q = (n ≤ 8) × (n ≡ 0 → P) × ((f : CallError) → n ≡ code_of f → Q f)

-- the same of what a handle holds; the status is 1 where it holds nothing
abbrev pub Answers : {H : Type 0} → ℕ → Option H → (H → Type 0) → (H → CallError → Type 0) → Type 0
Answers n None P Q = n ≡ 1
Answers n (Some h) P Q = IsStatusOf n (P h) (Q h)
