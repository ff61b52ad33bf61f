use Rattle.std.proofs.lemmas.Result.{IfOk-weaker}
use Rattle.warg_envelope.specs.Envelopes.{envelope_fault_of}
use Rattle.warg_replay.specs.OutcomeRuns.{cause_named_by}
use Rattle.warg_audit.specs.Replies.{printed_of}
use Rattle.warg_audit.proofs.LogLemmas.{told_answers}
use Rattle.warg_audit.proofs.log.run_error_reply.Goals as goal

pub returns-in-Some-clause-refused : goal.returns-in-Some-clause-refused
returns-in-Some-clause-refused g c =
    IfOk-weaker c.refused_reply.result _ _
    (λ reply is belongs seen fault_name offence_name shown reports inputs run_error.
    told_answers _ _ inputs (printed_of reply) seen c.args.error.now.index c.in-Some.name.now
    (cause_named_by (envelope_fault_of g.L.Record.Record.fault_of) g.L.Validator.offence_of c.args.error.now.cause)
    run_error.first (c.in-Some.ensures fault_name offence_name shown reports) is)
    c.refused_reply.ensures

pub returns-in-Some-clause-named : goal.returns-in-Some-clause-named
returns-in-Some-clause-named g c =
    IfOk-weaker c.refused_reply.result _ _
    (λ reply is fault_name offence_name shown reports. record {
      name = c.in-Some.name.now;
      of_cause = c.in-Some.ensures fault_name offence_name shown reports;
      is = is;
    })
    c.refused_reply.ensures
