-- Times: seconds since the epoch, and nanoseconds of the second that began then.
use Rattle.std.specs.Prelude.{ℕ, ◌&&◌, ◌+ℤ◌, nat_eq, Bool, false, if◌then◌else◌, ℤ, pos, negsuc, unsigned_abs, int_le, List, ◌∷◌, ◌++◌, Result, Ok, Err, ◌≡◌}
use Rattle.std.specs.declared.cmp.Ordering.{Ordering}
use Rattle.std.specs.Ordering.{int_cmp, nat_cmp, int_eq, is_gt, ordering_then}
use Rattle.std.specs.Fmt.{decimal, signed_decimal}
use Rattle.std.specs.Hash as fed
use Rattle.std.specs.Int.{int_div_euclid, int_rem_euclid}
use Rattle.warg_crypto.specs.declared.time.time.TimeError.{TimeError}
use Rattle.warg_crypto.specs.declared.time.time.TimeError.TheVariants as fault

-- a point in time; its nanoseconds make no second
pub record Time : Type 0 where
  pub seconds : ℤ
  pub nanos : ℕ

-- seconds of 64 bits
abbrev pub are_seconds : ℤ → Bool
are_seconds s = int_le (negsuc 9_223_372_036_854_775_807) s && int_le s (pos 9_223_372_036_854_775_807)

-- the time of such seconds and nanoseconds, unless the seconds take more than 64 bits
abbrev pub carried_time : ℤ → ℤ → Result Time TimeError
carried_time seconds nanos =
    if are_seconds seconds then Ok (record { seconds = seconds; nanos = unsigned_abs nanos })
    else Err fault.TimeOutOfRange

-- the time of seconds and of any nanoseconds: their whole seconds, rounded down, are carried
abbrev pub time_from : ℤ → ℤ → Result Time TimeError
time_from seconds nanos =
    carried_time (seconds +ℤ int_div_euclid nanos (pos 1_000_000_000)) (int_rem_euclid nanos (pos 1_000_000_000))

-- whether two times are the same: in seconds and in nanoseconds
abbrev pub same_time : Time → Time → Bool
same_time a b = int_eq a.seconds b.seconds && nat_eq a.nanos b.nanos

-- by seconds, then nanoseconds
abbrev pub time_cmp : Time → Time → Ordering
time_cmp a b = ordering_then (int_cmp a.seconds b.seconds) (nat_cmp a.nanos b.nanos)

-- the one time is not after the other
abbrev pub IsNotAfter : Time → Time → Type 0
IsNotAfter a b = is_gt (time_cmp a b) ≡ false

-- what is printed: seconds, a dot, nanoseconds
abbrev pub shown_time : Time → List ℕ
shown_time t = signed_decimal t.seconds ++ 46 ∷ decimal t.nanos

-- what a hasher is fed: seconds, then nanoseconds
abbrev pub time_hash_input : Time → List (List ℕ)
time_hash_input t = fed.i64 t.seconds ++ fed.u32 t.nanos
