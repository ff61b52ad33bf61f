use Rattle.std.proofs.Common.{◌≡◌, ◌∙◌, Contains, arith, subst, sym}
use Rattle.std.proofs.lemmas.Bool.{false≢true}
use Rattle.std.proofs.lemmas.Slice.Eq.{bytes_eq-Decides}
use Rattle.tool_answers.proofs.WordLemmas.{none_at_all, none_more, none_of_none}
use Rattle.tool_answers.proofs.kind.permission_of.Goals as goal

pub loop-permission-init : goal.loop-permission-init
loop-permission-init g c =
    none_of_none (λ permission. g.L.ToolLog.text_of permission ≡ c.args.text.now) c.deref-permission-items.result.now

pub loop-permission-preserved : goal.loop-permission-preserved
loop-permission-preserved g c =
    none_more (λ permission. g.L.ToolLog.text_of permission ≡ c.args.text.now) c.deref-permission-items.result.now
    c.loop-permission.permission-index c.permission-item.result (omega arith) c.permission-item.is
    (λ says. false≢true (sym c.if-eq.false ∙ c.eq.ensures ∙ (bytes_eq-Decides _ _).1 (c.permission_text.ensures ∙ says))) c.loop-permission.invariant

pub returns-clause-none : goal.returns-clause-none
returns-clause-none g c =
    let all = c.deref-permission-items.ensures.value ∙ c.in_ok-permissions.ensures in
    none_at_all (λ permission. g.L.ToolLog.text_of permission ≡ c.args.text.now) c.deref-permission-items.result.now
    c.loop-permission.permission-index (omega arith)
    (λ permission. subst (λ permissions. Contains permissions permission) (sym all) (g.met.L.ToolLog.in_order permission))
    c.loop-permission.invariant
