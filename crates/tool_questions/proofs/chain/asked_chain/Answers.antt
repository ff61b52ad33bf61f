use Rattle.std.proofs.Common.{sym, subst}
use Rattle.std.proofs.lemmas.Result.{IfOk-weaker}
use Rattle.warg_audit.specs.Printouts.{OutputData}
use Rattle.warg_protocol.specs.Logs.{envelopes}
use Rattle.tool_questions.specs.Questions.{IsChainTold}
use Rattle.tool_questions.proofs.chain.asked_chain.Goals as goal

pub returns : goal.returns
returns g c =
    let key = c.in_ok-asked.asked.key_id in
    let es = envelopes c.args.log.now.records in
    IfOk-weaker c.with_fault.result _ _
    (λ told is. record {
      state = c.state.result.now;
      stands = c.state.ensures.audited.stands;
      key = key;
      asked = c.in_ok-asked.ensures;
      told = subst (λ (printed : OutputData). IsChainTold g.L.ToolLog.says_words g.L.Validator.effects es key c.args.permission printed) (sym is) c.in_ok-answer.ensures;
    })
    c.with_fault.ensures
