use Rattle.std.proofs.Common.{List, ℕ, sym, subst}
use Rattle.std.proofs.lemmas.Result.{IfOk-weaker}
use Rattle.tool_answers.specs.KeyIds.{AreIdsOf}
use Rattle.tool_questions.proofs.asked.asked_key.Goals as goal

pub returns : goal.returns
returns g c =
    let has_key = g.L.ToolLog.has_key c.args.state.now in
    let Listed : List (List ℕ) → Type 0 = λ ids. AreIdsOf has_key ids in
    IfOk-weaker c.asked_of.result _ _
    (λ asked of. of has_key (subst Listed (sym c.as_slice.ensures.value) c.in_ok-ids.ensures))
    c.asked_of.ensures
