use Rattle.std.proofs.Common.{List, ℕ, sym, subst}
use Rattle.std.proofs.lemmas.Result.{IfOk-weaker}
use Rattle.std.specs.Prelude.{is_some}
use Rattle.warg_protocol.specs.Operator.{view_of}
use Rattle.tool_answers.proofs.KeyIdLemmas.{ids_of_keys}
use Rattle.tool_answers.specs.KeyIds.{AreIdsOf}
use Rattle.tool_answers.proofs.operator_log.LogStateToolLog.key_ids.Goals as goal

pub returns : goal.returns
returns c =
    let key = (view_of c.args.self.now).state.authority.key in
    IfOk-weaker c.key_ids.result _ _
    (λ ids is. subst (λ (all : List (List ℕ)). AreIdsOf (λ id. is_some (key id)) all) (sym is)
    (ids_of_keys key c.keys.result c.keys.ensures.known c.keys.ensures.once))
    c.key_ids.ensures
