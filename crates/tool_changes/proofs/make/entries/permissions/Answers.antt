use Rattle.std.proofs.Common.{◌≡◌, [], inr, Ok, refl, rules}
use Rattle.std.specs.Str.Iter.{split_whitespace_rest}
use Rattle.tool_changes.proofs.MakeLemmas.WordLemmas.{all_named, none_named, one_named, one_unknown}
use Rattle.tool_changes.proofs.make.entries.permissions.Goals as goal

pub loop-name-init : goal.loop-name-init
loop-name-init g c =
    let none : c.new-permissions.result.items ≡ [] = search rules in
    let rest : c.args.names.now ≡ split_whitespace_rest c.into_iter-name-iterator.result = search rules in
    rw none (none_named (λ word it. g.P.FromStr.from_str_gives word (Ok it)) c.args.names.now _ rest)

pub loop-name-preserved : goal.loop-name-preserved
loop-name-preserved g c =
    let step = c.in-Some.ensures.steps in
    rw c.in_ok-push-in-Ok.ensures.items (one_named (λ word it. g.P.FromStr.from_str_gives word (Ok it)) c.args.names.now _ c.in-Some.name.now _ c.loop-name.permissions.items
    c.in-Ok.permission c.loop-name.invariant
    (record { gap = step.0; parts = step.1; some = step.2; blank = step.3; solid = step.4; ends = step.5 }) c.in-Ok.ensures.value)

pub returns-clause-ok : goal.returns-clause-ok
returns-clause-ok g c =
    all_named (λ word it. g.P.FromStr.from_str_gives word (Ok it)) c.args.names.now _ c.loop-name.permissions.items c.loop-name.invariant
    c.in-None.ensures.steps.1

pub returns-in-Err-clause-err : goal.returns-in-Err-clause-err
returns-in-Err-clause-err g c =
    let step = c.in-Some.ensures.steps in
    inr (
      refl,
      one_unknown (λ word it. g.P.FromStr.from_str_gives word (Ok it)) c.args.names.now _ _ c.in-Some.name.now _
          c.loop-name.permissions.items c.loop-name.invariant
          (record { gap = step.0; parts = step.1; some = step.2; blank = step.3; solid = step.4; ends = step.5 })
          (c.in-Err.field-0, c.in-Err.ensures.value),
    )
