use Rattle.std.proofs.Common.{Some, ap, map, sym, ◌∙◌}
use Rattle.std.specs.Vec.{vec_items}
use Rattle.std.specs.Option.{option_map}
use Rattle.std.proofs.lemmas.Option.{slice_get-get_or, slice_get-map}
use Rattle.std.proofs.lemmas.Result.{IfOk-weaker}
use Rattle.warg_protocol.specs.Logs.{envelopes}
use Rattle.tool_questions.proofs.ShowLemmas.ShownLemmas.{lawful_shown, refused_shown}
use Rattle.tool_questions.proofs.show.show.inputs_answer.Goals as goal

pub returns-in-Ok : goal.returns-in-Ok
returns-in-Ok g c = λ fault_name offence_name shown reports.
    let run = rw (c.in_ok-log.ensures.empty, c.in_ok-log.ensures.verifier) at c.in-Ok.ensures.run in
    lawful_shown _ (g.V.Verifier.belongs c.args.verifier) g.L.ToolLog.says_words g.L.ToolLog.shows _ (map vec_items c.args.inputs.now) _
    c.lawful_answer.result run.0 (ap envelopes run.1.after ∙ run.1.said) c.lawful_answer.ensures

pub returns-in-Some : goal.returns-in-Some
returns-in-Some g c = λ fault_name offence_name shown reports.
    let belongs = g.V.Verifier.belongs c.args.verifier in
    let inputs = map vec_items c.args.inputs.now in
    let index = c.in-Err.error.index in
    let run = rw (c.in_ok-log.ensures.empty, c.in_ok-log.ensures.verifier) at c.in-Err.ensures.run in
    let item = rw c.in-Some.is at c.get.ensures.lookup in
    let found = slice_get-get_or c.args.inputs.now index c.in-Some.input.now item.3.0 ∙ ap Some (sym item.1) in
    refused_shown _ belongs g.L.ToolLog.says_words g.L.ToolLog.shows _ inputs _ index c.as_slice.result.now c.refused_answer.result
    (ap envelopes run.1.after ∙ run.1.said) (rw c.as_slice.ensures.value (slice_get-map vec_items c.args.inputs.now index ∙ ap (option_map vec_items) found))
    (IfOk-weaker c.refused_answer.result _ _ (λ answer told. told belongs g.L.Validator.kind.view_of inputs run.0)
    (c.refused_answer.ensures fault_name offence_name shown reports))
