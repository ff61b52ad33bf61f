-- What was read of an input whose bytes are known.
use Rattle.std.proofs.Common.{◌≡◌, ◌<◌, ◌≤◌, ◌+◌, ℕ, false, List, [], ◌++◌, length, ap, sym, ◌∙◌, arith, append-nil, length-append, Option, Some, None, IfSome}
use Rattle.std.proofs.KnownBytes.{Consumes-trans}
use Rattle.std.specs.Io.KnownBytes.{Consumes, Keeps, IsAtEnd}
use Rattle.warg_audit.specs.declared.input.Input.{Input}
use Rattle.warg_audit.specs.Meters.{bytes_left, ReadsToEnd}

-- the bytes before the end are all
pub at_end : (a b n : Option (List ℕ)) (bs front : List ℕ) → Consumes a b bs → Consumes b n front → front ≡ [] → IsAtEnd n → IfSome a (λ xs. xs ≡ bs)
at_end None b n bs front p q f end = tt
at_end (Some x) None n bs front p q f end = absurd p
at_end (Some x) (Some y) None bs front p q f end = absurd q
at_end (Some x) (Some y) (Some z) bs front p q f end =
    p ∙ ap (λ l. bs ++ l) (q ∙ ap (λ l. l ++ z) f ∙ end) ∙ append-nil bs

-- a failed read took nothing
pub none_gone : (a b : Option (List ℕ)) → Keeps a b → Consumes a b []
none_gone None b kept = tt
none_gone (Some x) None kept = absurd kept
none_gone (Some x) (Some y) kept = sym kept

-- no more is gone than was there
pub known_more : (a b : Option (List ℕ)) (bs : List ℕ) (before after : ℕ) → Consumes a b bs → after ≤ before + (length bs + 1)
    → IfSome a (λ xs. after ≤ before + (length xs + 1))
known_more None b bs before after p few = tt
known_more (Some x) None bs before after p few = absurd p
known_more (Some x) (Some y) bs before after p few = rw p (omega (arith, length-append bs y))

-- what is gone was there
pub known_long : (a b : Option (List ℕ)) (bs : List ℕ) (n : ℕ) → Consumes a b bs → n < length bs → IfSome a (λ xs. n < length xs)
known_long None b bs n p long = tt
known_long (Some x) None bs n p long = absurd p
known_long (Some x) (Some y) bs n p long = rw p (omega (arith, length-append bs y))

-- what was read before a turn: each read gave bytes, and these are all
pub record SoFar {R : Type 0} (limit : ℕ) (remaining : R → Option (List ℕ)) (before now : Input R) (turn : ℕ) (bytes : List ℕ) : Type 0 where
  pub reads : now.reads ≤ before.reads + turn
  pub errors : now.errors ≡ before.errors
  pub bytes_taken : now.bytes_taken ≤ before.bytes_taken + length bytes
  pub late_reads : before.ended ≡ false → (now.ended ≡ false) × (now.late_reads ≡ before.late_reads)
  pub enough : turn ≤ length bytes
  pub short : length bytes ≤ limit
  pub are_gone : Consumes (bytes_left remaining before) (bytes_left remaining now) bytes

module _ {R : Type 0} (limit : ℕ) (remaining : R → Option (List ℕ)) (before now after : Input R) (turn : ℕ) (bytes front : List ℕ) where
  -- with the last read
  pub last_read : SoFar limit remaining before now turn bytes → after.reads ≤ now.reads + 1 → after.errors ≤ now.errors + 1 → after.bytes_taken ≤ now.bytes_taken + length front
      → (now.ended ≡ false → after.late_reads ≡ now.late_reads) → Consumes (bytes_left remaining now) (bytes_left remaining after) front → length front + length bytes ≤ limit + 1
      → ReadsToEnd limit remaining before after
  last_read far reads errors taken late front_gone few = record {
    late_reads = λ unended. let kept = far.late_reads unended in late kept.0 ∙ kept.1;
    errors = omega arith;
    reads = omega arith;
    bytes_taken = omega arith;
    known_reads = known_more (bytes_left remaining before) (bytes_left remaining now) bytes before.reads after.reads far.are_gone (omega arith);
    bytes_gone = bytes ++ front;
    are_gone = Consumes-trans (bytes_left remaining before) (bytes_left remaining now) (bytes_left remaining after) bytes front far.are_gone front_gone;
    few_bytes_gone = omega (arith, length-append bytes front);
  }
