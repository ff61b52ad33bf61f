use Rattle.std.proofs.Common.{◌≡◌, ◌++◌, ◌∙◌, [], ap, length, rules, string_bytes, subst}
use Rattle.warg_protocol.specs.Logs.{envelopes}
use Rattle.tool_questions.specs.Questions.{AreWithin}
use Rattle.tool_questions.proofs.ChainLemmas.{link_begin, link_end, link_more}
use Rattle.tool_questions.proofs.chain.chain_lines.Goals as goal

pub loop-link-init : goal.loop-link-init
loop-link-init g c =
    let none : string_bytes c.new-text.result ≡ [] = search rules in
    (c.requires.within, link_begin g.L.ToolLog.says_words (envelopes c.args.records.now) c.args.key_id.now c.args.links.now _ none)

pub link_line-requires-clause-within : goal.link_line-requires-clause-within
link_line-requires-clause-within g c =
    (subst (AreWithin (length (envelopes c.args.records.now))) c.in-Some.ensures.cases.0 c.loop-link.invariant.0).0

pub loop-link-preserved : goal.loop-link-preserved
loop-link-preserved g c =
    let es = envelopes c.args.records.now in
    let parts = c.in-Some.ensures.cases.0 in (
      (subst (AreWithin (length es)) parts c.loop-link.invariant.0).1,
      link_more g.L.ToolLog.says_words es c.args.key_id.now c.loop-link.rest.now c.in-Some.later.now c.args.links.now c.in-Some.link.now _ _
          (string_bytes c.in_ok-line.line) _ parts c.receiver.ensures c.in_ok-line.ensures
          (c.in_ok-push_str.ensures.bytes ∙ ap (λ line. string_bytes c.loop-link.text ++ line) c.as_str.ensures.value) c.loop-link.invariant.1,
    )

pub returns : goal.returns
returns g c =
    link_end g.L.ToolLog.says_words (envelopes c.args.records.now) c.args.key_id.now c.loop-link.rest.now c.args.links.now _
    c.in_default.ensures.cases c.loop-link.invariant.1
