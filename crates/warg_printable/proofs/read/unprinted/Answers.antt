use Rattle.std.proofs.Common.{◌≡◌, None, rules, string_bytes}
use Rattle.std.proofs.lemmas.Str.{IsUtf8-past_char}
use Rattle.warg_printable.specs.Back.{IsTaken, next_turn}
use Rattle.warg_printable.proofs.ReadLemmas.{read-bad, read-end, read-on, read-start}
use Rattle.warg_printable.proofs.read.unprinted.Goals as goal

pub loop-c-init : goal.loop-c-init
loop-c-init c = (search rules, read-start (string_bytes c.new-read.result) _ _ c.new-read.ensures.bytes c.chars-rest.ensures.rest)

pub returns-in_default-2 : goal.returns-in_default-2
returns-in_default-2 c =
    let held = c.loop-c.invariant in
    let none : c.in_ok-next.field-0 ≡ None = search rules in
    let is : IsTaken (next_turn c.loop-c.within c.in-Some.c) (string_bytes c.loop-c.read) c.in_ok-next.field-0 (string_bytes c.taken.new.read) = rw c.next_turn.ensures at c.in_ok-next.ensures in
    read-bad c.loop-c.within (string_bytes c.loop-c.read) _ _ c.args.text.now c.in-Some.c c.in_ok-next.field-0 (string_bytes c.taken.new.read) none held.0
    c.in-Some.ensures.steps.0 is held.1

pub loop-c-preserved : goal.loop-c-preserved
loop-c-preserved c =
    let held = c.loop-c.invariant in
    let parts = c.in-Some.ensures.steps.0 in
    let is : IsTaken (next_turn c.loop-c.within c.in-Some.c) (string_bytes c.loop-c.read) c.in_ok-next.field-0 (string_bytes c.taken.new.read) = rw c.next_turn.ensures at c.in_ok-next.ensures in (
      IsUtf8-past_char _ _ c.in-Some.c held.0 parts,
      read-on c.loop-c.within c.in-Some-2.next (string_bytes c.loop-c.read) _ _ c.args.text.now c.in-Some.c c.in_ok-next.field-0 (string_bytes c.taken.new.read)
          c.in-Some-2.is held.0 parts is held.1,
    )

pub returns-then-may_end : goal.returns-then-may_end
returns-then-may_end c =
    let whole = read-end c.loop-c.within c.may_end.result (string_bytes c.loop-c.read) _ c.args.text.now c.in_default.ensures.steps.0.0 c.may_end.ensures c.loop-c.invariant.1 in
    rw c.if-may_end.true at whole

pub returns-else-may_end : goal.returns-else-may_end
returns-else-may_end c =
    let whole = read-end c.loop-c.within c.may_end.result (string_bytes c.loop-c.read) _ c.args.text.now c.in_default.ensures.steps.0.0 c.may_end.ensures c.loop-c.invariant.1 in
    rw c.if-may_end.false at whole
