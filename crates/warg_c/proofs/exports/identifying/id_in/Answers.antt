use Rattle.std.proofs.Common.{refl}
use Rattle.warg_envelope.specs.Envelopes.{envelope_of, envelope_fault_of}
use Rattle.warg_replay.specs.OutcomeRuns.{cause_named_by}
use Rattle.warg_replay.specs.declared.replay.RunCause.TheVariants.{Parse}
use Rattle.warg_c.specs.Texts.{SaysCause}
use Rattle.warg_c.proofs.ErrorTexts.{id-errors}
use Rattle.warg_c.proofs.exports.identifying.id_in.Goals as goal

pub returns-in-Err-clause-err : goal.returns-in-Err-clause-err
returns-in-Err-clause-err g c =
    id-errors g.L.Validator.kind (envelope_of g.L.Record.Record.read) (cause_named_by (envelope_fault_of g.L.Record.Record.fault_of) g.L.Validator.offence_of) (SaysCause g.L.Error.Named.name_of g.L.Error.Display.output)
    c.args.envelope.now c.args.text.now c.refuse.new.used c.refuse.new.text (Parse c.in-Err.error) c.refuse.result c.refuse.ensures.call_error c.refuse.ensures.text
    (envelope_fault_of g.L.Record.Record.fault_of c.in-Err.error) refl c.in-Err.ensures.opened
