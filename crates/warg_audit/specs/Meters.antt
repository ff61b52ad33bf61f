-- What the wrappers of the reader and the writer count.
use Rattle.std.specs.Prelude.{◌≡◌, ℕ, ◌+◌, ◌-◌, ◌^◌, ◌<◌, ◌≤◌, false, List, length, Option, IfSome, Result, Ok, Err}
use Rattle.std.specs.Io.KnownBytes.{Consumes}
use Rattle.warg_audit.specs.declared.input.Input.{Input}
use Rattle.warg_audit.specs.declared.output.Output.{Output}

-- how many bytes a read gave, none where it failed
abbrev pub bytes_given : {E : Type 0} → Result ℕ E → ℕ
bytes_given (Ok count) = count
bytes_given (Err e) = 0

-- the bytes that the reader has left, where they are known
abbrev pub bytes_left : {R : Type 0} → (R → Option (List ℕ)) → Input R → Option (List ℕ)
bytes_left remaining input = remaining input.reader

-- the bytes that the writer holds, where they are known
abbrev pub bytes_held : {W : Type 0} → (W → Option (List ℕ)) → Output W → Option (List ℕ)
bytes_held contents output = contents output.writer

-- Reading ends at the first read that fails or gives no bytes, or one byte past the limit.
pub record ReadsToEnd {R : Type 0} (limit : ℕ) (remaining : R → Option (List ℕ)) (before after : Input R) : Type 0 where
  -- no read follows one that failed or gave no bytes
  pub late_reads : before.ended ≡ false → after.late_reads ≡ before.late_reads
  pub errors : after.errors ≤ before.errors + 1
  -- no byte is read past the first one over the limit
  pub reads : after.reads ≤ before.reads + (limit + 1)
  pub bytes_taken : after.bytes_taken ≤ before.bytes_taken + (limit + 1)
  -- where its bytes are known: at most one read more than it has bytes, and the bytes that are gone
  pub known_reads : IfSome (bytes_left remaining before) (λ bytes. after.reads ≤ before.reads + (length bytes + 1))
  pub bytes_gone : List ℕ
  pub are_gone : Consumes (bytes_left remaining before) (bytes_left remaining after) bytes_gone
  pub few_bytes_gone : length bytes_gone ≤ limit + 1

-- a read failed meanwhile; nothing is known where the count of failed ones was full
abbrev pub ReadFailed : {R : Type 0} → Input R → Input R → Type 0
ReadFailed before after = before.errors < 2 ^ 64 - 1 → before.errors < after.errors

-- a write failed meanwhile; nothing is known where the count of failed ones was full
abbrev pub WriteFailed : {W : Type 0} → Output W → Output W → Type 0
WriteFailed before after = before.errors < 2 ^ 64 - 1 → before.errors < after.errors
