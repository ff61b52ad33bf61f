use Rattle.warg_protocol.specs.Logs.{cause_named_by, envelope_fault_of, envelope_of}
use Rattle.tool_answers.specs.Explanations.{all_belong}
use Rattle.tool_changes.proofs.MadeLemmas.{next_taken, refused_so}
use Rattle.tool_changes.proofs.making.taken.Goals as goal

pub returns-in-Ok-clause-taken : goal.returns-in-Ok-clause-taken
returns-in-Ok-clause-taken g c =
    let run = rw c.from_ref.ensures.value at c.in-Ok.ensures.from_view in
    next_taken g.L.Validator.kind all_belong (envelope_of g.L.Record.Record.read) (g.L.Validator.view c.args.log.state)
    c.args.input.now.items run.0

pub returns-clause-refused : goal.returns-clause-refused
returns-clause-refused g c = λ fault_name offence_name shown reports.
    let run = rw c.from_ref.ensures.value at c.in-Err.ensures.from_view in
    refused_so _ (g.L.Validator.view c.args.log.state) c.args.log.count c.args.input.now.items
    (cause_named_by (envelope_fault_of g.L.Record.Record.fault_of) g.L.Validator.offence_of) c.in-Err.error _ run
    (c.in_ok-refused_next-in-Err.ensures fault_name offence_name shown reports)
