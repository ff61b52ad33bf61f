-- What time a word says.
use Rattle.std.specs.Prelude.{◌≡◌, ◌≢◌, ◌<◌, ◌+ℤ◌, ◌*ℤ◌, ℕ, ℤ, pos, List, codes, Option, Some, None, Ok, IsErr}
use Rattle.jiff.specs.Words.{parse_timestamp}
use Rattle.warg_crypto.specs.Time.TimeText.{time_of}
use Rattle.warg_crypto.specs.Time.Times.{Time}
use Rattle.tool_changes.specs.declared.make.error.MakeError.{MakeError}
use Rattle.tool_changes.specs.declared.make.error.MakeError.TheVariants as error

-- the time is so many nanoseconds after 1970 began
pub record IsAtNanosecond (instant : ℤ) (time : Time) : Type 0 where
  pub sum : time.seconds *ℤ pos 1_000_000_000 +ℤ pos time.nanos ≡ instant
  pub below : time.nanos < 1_000_000_000

-- `now` says the time that the clock tells, if it tells one; another word says seconds and nanoseconds since 1970 began, or
-- else a date, a time of day and an offset as RFC 3339 writes them
pub data SaysTime (clock : Option Time) (word : List ℕ) (time : Time) : Type 0 where
  by_clock : word ≡ codes "now" → clock ≡ Some time → SaysTime clock word time
  in_seconds : time_of word ≡ Ok time → SaysTime clock word time
  by_date : IsErr (time_of word) → (instant : ℤ) → parse_timestamp word ≡ Ok instant → IsAtNanosecond instant time → SaysTime clock word time

-- the word says a time
abbrev pub SaysATime : Option Time → List ℕ → Type 0
SaysATime clock word = (time : Time) × SaysTime clock word time

-- the word is none of these
pub record SaysNoTime (word : List ℕ) : Type 0 where
  pub no_now : word ≢ codes "now"
  pub no_seconds : IsErr (time_of word)
  pub no_date : IsErr (parse_timestamp word)

-- what is wrong with a word that says no time
abbrev pub IsTimeError : Option Time → List ℕ → MakeError → Type 0
IsTimeError clock word error.BadTime = SaysNoTime word
IsTimeError clock word error.NoClock = (word ≡ codes "now") × (clock ≡ None)
IsTimeError clock word (error.Entry place it) = ⊥
IsTimeError clock word error.OutOfMemory = ⊥
