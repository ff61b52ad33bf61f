use Rattle.std.proofs.Common.{[], ◌∷◌, ◌≡◌, ◌<◌, ◌≤◌, length, get_or, take, ◌++◌, List, true, sym, ◌∙◌, ap, subst, arith, take_all}
use Rattle.std.proofs.Math.ListN.{set}
use Rattle.warg_replay.specs.declared.audited_log.grant_index.Holding.{Holding}
use Rattle.warg_replay.specs.AuditedLog.GrantIndexes.{number_in}
use Rattle.warg_replay.proofs.AuditedLogLemmas.NumberLemmas.{number-set, number-push}
use Rattle.warg_replay.proofs.audited_log.grant_index.set_number.Goals as goal

pub returns-then-eq : goal.returns-then-eq
returns-then-eq g c =
    let same = g.P.PartialEq.eq in
    let i = c.loop-i.invariant in
    let hs = c.args.holdings.now.items in
    let at : c.index.result.now ≡ get_or hs c.loop-i.i c.index.result.now = c.index.ensures ∙ ap (λ l. get_or l c.loop-i.i c.index.result.now) i.same in
    let within : c.loop-i.i < length hs = omega (arith, c.loop-i-test.true, c.len-i-end.ensures) in
    λ p. ap (λ l. number_in same (set l c.loop-i.i (record { permission = c.args.permission; given = c.args.given })) p) i.same ∙ number-set same g.met.P.Eq.laws hs c.loop-i.i c.index.result.now c.args.permission c.args.given within at (sym c.if-eq.ensures) i.none p

pub returns : goal.returns
returns g c =
    let same = g.P.PartialEq.eq in
    let i = c.loop-i.invariant in
    let hs = c.args.holdings.now.items in
    let past : length hs ≤ c.loop-i.i = omega (arith, c.loop-i-test.false, c.len-i-end.ensures) in
    let whole : take c.loop-i.i hs ≡ hs = take_all c.loop-i.i hs past in
    let none : (p : g.row.P.Denot) → same c.args.permission p ≡ true → (ws : List (Holding g.row.P.Denot)) → number_in same (hs ++ ws) p ≡ number_in same ws p = λ p e ws. ap (λ l. number_in same (l ++ ws) p) (sym whole) ∙ i.none p e ws in
    λ p. ap (λ l. number_in same l p) (c.in_ok-push.ensures.items ∙ ap (λ l. l ++ record { permission = c.args.permission; given = c.args.given } ∷ []) i.same) ∙ number-push same g.met.P.Eq.laws hs c.args.permission c.args.given none p
