use Rattle.std.proofs.Common.{string_bytes}
use Rattle.warg_audit.specs.Files.Answers.{output_data}
use Rattle.tool_changes.proofs.BesideLemmas.{met_beside, unmet_beside}
use Rattle.tool_changes.proofs.beside.demanded_beside.Goals as goal

pub returns-in-Some : goal.returns-in-Some
returns-in-Some g c = λ fault_name offence_name shown reports inputs news counted.
    unmet_beside _ _ c.args.demands.now _ inputs _ c.args.count _ (g.L.Validator.view c.state-state.result.now) (string_bytes c.in-Some.text)
    (output_data c.new.result) news c.state-state.ensures.audited.stands c.head_digest.ensures counted
    (rw c.in-Some.is at c.in_ok-text.ensures) c.new.ensures

pub returns-in-None : goal.returns-in-None
returns-in-None g c = λ fault_name offence_name shown reports inputs news counted.
    met_beside _ _ c.args.demands.now _ inputs _ c.args.count _ (g.L.Validator.view c.state-state.result.now)
    c.beside_file.result news c.state-state.ensures.audited.stands c.head_digest.ensures counted
    (rw c.in-None.is at c.in_ok-text.ensures)
    (c.beside_file.ensures fault_name offence_name shown reports inputs news counted)
