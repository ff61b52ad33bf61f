-- The text of a time: seconds, a dot, nanoseconds, in decimal without padding.
use Rattle.std.specs.Prelude.{ℕ, ◌≡◌, ◌<◌, ◌+◌, ◌/◌, ◌%◌, ◌^◌, ◌==◌, ◌&&◌, nat_lt, Bool, if◌then◌else◌, List, ◌∷◌, ◌++◌, length, ℤ, pos, negsuc, Option, Some, None, Result, Ok, Err}
use Rattle.std.specs.List.{list_all, before_first, after_first, position_or_len}
use Rattle.std.specs.Fmt.{decimal}
use Rattle.std.specs.Char.{digit_value}
use Rattle.std.specs.Str.Parse.{digits_value, without_leading_plus}
use Rattle.warg_crypto.specs.Json.Json.{◌>>=◌, some_or}
use Rattle.warg_crypto.specs.declared.json.error.JsonError.{JsonError}
use Rattle.warg_crypto.specs.declared.json.error.JsonError.TheVariants as fault
use Rattle.warg_crypto.specs.Time.Times.{Time}

-- whether the byte is a dot
abbrev pub is_dot : ℕ → Bool
is_dot b = b == 46

-- one digit or more, and nothing else
abbrev pub is_numeral : List ℕ → Bool
is_numeral ds = nat_lt 0 (length ds) && list_all (λ c. nat_lt (digit_value c) 10) ds

-- the number that digits say, if it is below the bound
abbrev pub below : ℕ → List ℕ → Option ℕ
below bound ds = if is_numeral ds && nat_lt (digits_value 10 ds) bound then Some (digits_value 10 ds) else None

-- the same, where a plus may stand first
abbrev pub number_of : ℕ → List ℕ → Option ℕ
number_of bound bs = below bound (without_leading_plus bs)

-- the time of seconds and nanoseconds, those of a whole second and more carried
abbrev pub time_with_carry : ℕ → ℕ → Result Time JsonError
time_with_carry s n =
    if nat_lt (s + n / 1_000_000_000) (2 ^ 63) then Ok (record { seconds = pos (s + n / 1_000_000_000); nanos = n % 1_000_000_000 })
    else Err fault.TimeOutOfRange

-- what the sides of the dot say
abbrev pub time_sides : Option ℕ → Option ℕ → Result Time JsonError
time_sides left right = some_or fault.BadText left >>= λ s. some_or fault.BadText right >>= λ n. time_with_carry s n

-- the same, where there may be no dot
abbrev pub time_parts : Bool → Option ℕ → Option ℕ → Result Time JsonError
time_parts no_dot left right =
    if no_dot then Err fault.BadText
    else time_sides left right

-- what a text says, or its fault
abbrev pub time_of : List ℕ → Result Time JsonError
time_of text =
    time_parts (position_or_len is_dot text == length text) (number_of (2 ^ 64) (before_first is_dot text)) (number_of (2 ^ 32) (after_first is_dot text))

-- the seconds are below 2^63, and the nanoseconds make no second
pub record IsTime (t : Time) : Type 0 where
  pub nanos : t.nanos < 1_000_000_000
  pub seconds : (n : ℕ) → t.seconds ≡ pos n → n < 2 ^ 63

-- the text of seconds since the epoch and nanoseconds; seconds before it have none
abbrev pub seconds_text : ℤ → ℕ → Result (List ℕ) JsonError
seconds_text (pos s) n = Ok (decimal s ++ 46 ∷ decimal n)
seconds_text (negsuc s) n = Err fault.TimeBeforeEpoch

-- the text of a time
abbrev pub time_text : Time → Result (List ℕ) JsonError
time_text t = seconds_text t.seconds t.nanos
