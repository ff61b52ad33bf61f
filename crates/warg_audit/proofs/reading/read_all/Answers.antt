use Rattle.std.proofs.Common.{◌≡◌, ◌∙◌, ◌+◌, ◌≤◌, ℕ, [], ◌++◌, take, length, ap, arith, length-take, length-append}
use Rattle.std.proofs.lemmas.List.{take-append-le}
use Rattle.std.proofs.lemmas.Bool.{ne_eqb}
use Rattle.std.proofs.KnownBytes.{Consumes-trans}
use Rattle.warg_audit.proofs.InputLemmas.{at_end, none_gone, known_long, last_read}
use Rattle.warg_audit.proofs.reading.read_all.Goals as goal

pub returns-in_default-clause-reading : goal.returns-in_default-clause-reading
returns-in_default-clause-reading g c =
    last_read c.args.limit _ _ _ _ _ _ [] c.reads.invariant (omega (arith, c.in_default.ensures.reads)) (omega (arith, c.in_default.ensures.errors)) (omega (arith, c.in_default.ensures.taken))
    (λ unended. rw unended at c.in_default.ensures.late) (none_gone _ _ c.in_default.ensures.bytes) (omega arith)

pub returns-then-count-eq0-clause-ok : goal.returns-then-count-eq0-clause-ok
returns-then-count-eq0-clause-ok g c =
    at_end _ _ _ _ _ c.reads.invariant.are_gone c.in-Ok.ensures.bytes.0 (ap (λ (n : ℕ). take n c.read.new.buf) c.if-count-eq0.true) (c.in-Ok.ensures.bytes.1 c.if-count-eq0.true (omega (arith, c.read.auto.buf, length-take c.min-room.result c.reads.buf)))

pub returns-then-count-eq0-clause-reading : goal.returns-then-count-eq0-clause-reading
returns-then-count-eq0-clause-reading g c =
    last_read c.args.limit _ _ _ _ _ _ (take c.in-Ok.count c.read.new.buf) c.reads.invariant (omega (arith, c.in-Ok.ensures.reads)) (omega (arith, c.in-Ok.ensures.errors)) (omega (arith, c.in-Ok.ensures.taken, c.in-Ok.ensures.bound.1))
    (λ unended. rw unended at c.in-Ok.ensures.late) c.in-Ok.ensures.bytes.0 (omega (arith, c.in-Ok.ensures.bound, c.read.auto.buf, length-take c.min-room.result c.reads.buf))

pub returns-then-is_err-clause-reading : goal.returns-then-is_err-clause-reading
returns-then-is_err-clause-reading g c =
    last_read c.args.limit _ _ _ _ _ _ (take c.in-Ok.count c.read.new.buf) c.reads.invariant (omega (arith, c.in-Ok.ensures.reads)) (omega (arith, c.in-Ok.ensures.errors)) (omega (arith, c.in-Ok.ensures.taken, c.in-Ok.ensures.bound.1))
    (λ unended. rw unended at c.in-Ok.ensures.late) c.in-Ok.ensures.bytes.0 (omega (arith, c.in-Ok.ensures.bound, c.read.auto.buf, length-take c.min-room.result c.reads.buf))

pub returns-then-len-limit-clause-reading : goal.returns-then-len-limit-clause-reading
returns-then-len-limit-clause-reading g c =
    last_read c.args.limit _ _ _ _ _ _ (take c.in-Ok.count c.read.new.buf) c.reads.invariant (omega (arith, c.in-Ok.ensures.reads)) (omega (arith, c.in-Ok.ensures.errors)) (omega (arith, c.in-Ok.ensures.taken, c.in-Ok.ensures.bound.1))
    (λ unended. rw unended at c.in-Ok.ensures.late) c.in-Ok.ensures.bytes.0 (omega (arith, c.in-Ok.ensures.bound, c.read.auto.buf, length-take c.min-room.result c.reads.buf))

pub returns-then-len-limit-clause-long : goal.returns-then-len-limit-clause-long
returns-then-len-limit-clause-long g c = λ long.
    let front = take c.in-Ok.count c.read.new.buf in
    let within : c.in-Ok.count ≤ length c.read.new.buf = c.in-Ok.ensures.bound.0 in
    let grown : c.extend_from_slice.new.self.items ≡ c.reads.bytes.items ++ front =
    (rw c.if-is_err.ensures.negation at c.extend_from_slice.ensures.items) ∙ ap (λ taken. c.reads.bytes.items ++ taken) (take-append-le c.in-Ok.count c.read.new.buf _ within) in
    known_long _ _ (c.reads.bytes.items ++ front) c.args.limit (Consumes-trans _ _ _ _ front c.reads.invariant.are_gone c.in-Ok.ensures.bytes.0) (omega (arith, ap length grown))

pub reads-preserved : goal.reads-preserved
reads-preserved g c =
    let front = take c.in-Ok.count c.read.new.buf in
    let within : c.in-Ok.count ≤ length c.read.new.buf = c.in-Ok.ensures.bound.0 in
    let grown : c.extend_from_slice.new.self.items ≡ c.reads.bytes.items ++ front =
    (rw c.if-is_err.ensures.negation at c.extend_from_slice.ensures.items) ∙ ap (λ taken. c.reads.bytes.items ++ taken) (take-append-le c.in-Ok.count c.read.new.buf _ within) in
    let longer : length c.extend_from_slice.new.self.items ≡ length c.reads.bytes.items + c.in-Ok.count = omega (arith, ap length grown, length-append c.reads.bytes.items front, c.in-Ok.ensures.bound.1) in
    record {
      reads = omega (arith, c.in-Ok.ensures.reads);
      errors = c.in-Ok.ensures.errors ∙ c.reads.invariant.errors;
      bytes_taken = omega (arith, c.in-Ok.ensures.taken);
      late_reads = λ unended.
          let kept = c.reads.invariant.late_reads unended in
          (rw (kept.0, ne_eqb c.in-Ok.count 0 c.if-count-eq0.false) at c.in-Ok.ensures.ended, rw kept.0 at c.in-Ok.ensures.late ∙ kept.1);
      enough = omega arith;
      short = omega arith;
      are_gone = rw grown (Consumes-trans _ _ _ _ front c.reads.invariant.are_gone c.in-Ok.ensures.bytes.0);
    }
