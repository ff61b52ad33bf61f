use Rattle.std.proofs.lemmas.Result.{IfOk-weaker}
use Rattle.warg_audit.specs.Files.Lines.{lines_of}
use Rattle.warg_audit.specs.Replies.{printed_of}
use Rattle.warg_audit.proofs.LogLemmas.{lawful_answers, refused_answers, spelled_answers, bad_answers}
use Rattle.warg_audit.proofs.log.log_reply.Goals as goal

pub returns-in-Ok-Ok : goal.returns-in-Ok-Ok
returns-in-Ok-Ok g c =
    let judged = rw c.in-Ok-Ok.field-0-is at c.in-Ok-Ok.ensures.ok in
    let run = judged.1.1 in
    IfOk-weaker c.accepted_reply.result _ _
    (λ reply is fault_name offence_name shown reports.
    spelled_answers _ _ (lines_of c.args.text.items) (printed_of reply) judged.0 judged.1.0
    (lawful_answers _ _ judged.0 (printed_of reply) (g.L.Validator.view c.in-Ok-Ok.state) run.0 run.1 c.in-Ok-Ok.count
    judged.1.2 (g.L.Report.lines_of c.in-Ok-Ok.state) (reports.lines c.in-Ok-Ok.state) is))
    c.accepted_reply.ensures

pub returns-in-Ok-Err : goal.returns-in-Ok-Err
returns-in-Ok-Err g c =
    let judged = rw c.in-Ok-Err.field-0-is at c.in-Ok-Err.ensures.ok in
    IfOk-weaker c.run_error_reply.result _ _
    (λ reply is fault_name offence_name shown reports.
    spelled_answers _ _ (lines_of c.args.text.items) (printed_of reply) judged.0 judged.1.0
    (refused_answers _ _ judged.0 (printed_of reply)
    (is (g.V.Verifier.belongs c.args.verifier.now) g.L.Validator.kind.view_of fault_name offence_name shown reports judged.0 judged.1.1)))
    c.run_error_reply.ensures.refused

pub returns-in-Err-Bad : goal.returns-in-Err-Bad
returns-in-Err-Bad g c =
    IfOk-weaker c.bad_line_reply.result _ _
    (λ reply is fault_name offence_name shown reports.
    bad_answers _ _ (lines_of c.args.text.items) (printed_of reply) c.in-Err-Bad.index
    c.in-Err-Bad.field-0 c.in-Err-Bad.field-0-is c.in-Err-Bad.ensures.err is)
    c.bad_line_reply.ensures
