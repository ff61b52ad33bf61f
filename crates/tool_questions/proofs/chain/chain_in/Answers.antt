use Rattle.std.proofs.lemmas.Result.{IfOk-weaker}
use Rattle.std.specs.Option.{option_map}
use Rattle.std.specs.Vec.{vec_items}
use Rattle.warg_protocol.specs.Logs.{envelopes}
use Rattle.tool_questions.proofs.ChainLemmas.{answer_within}
use Rattle.tool_questions.proofs.chain.chain_in.Goals as goal

pub chain_of-requires-clause-within : goal.chain_of-requires-clause-within
chain_of-requires-clause-within g c =
    rw c.records.ensures.records
    (answer_within g.L.Validator.effects (envelopes c.args.log.now.records) c.args.key_id.now c.args.permission
    (option_map vec_items c.in_ok-links.links) c.in_ok-links.ensures)

pub chain_of-requires-clause-honest : goal.chain_of-requires-clause-honest
chain_of-requires-clause-honest g c = c.records.ensures.audited.honest

pub returns : goal.returns
returns g c =
    let chain = option_map vec_items c.in_ok-links.links in
    IfOk-weaker c.chain_of.result _ _
    (λ answer is. record {
      chain = chain;
      is_chain = c.in_ok-links.ensures;
      is = rw c.records.ensures.records at is;
    })
    c.chain_of.ensures
