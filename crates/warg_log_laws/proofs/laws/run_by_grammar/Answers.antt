use Rattle.warg_envelope.specs.EnvelopeRelations.{IsEnvelope, HasEnvelopeFault}
use Rattle.warg_envelope.specs.ReadingWords.{envelope_in}
use Rattle.warg_replay.specs.LogWords.{IsRun, named_cause}
use Rattle.warg_log.proofs.KindLaws.{log_laws}
use Rattle.warg_log_laws.specs.RuledLogs.{kind}
use Rattle.warg_log_laws.proofs.GrammarLaws.{run-by-grammar, cause-by-grammar, started}
use Rattle.warg_log_laws.proofs.laws.run_by_grammar.Goals as goal

pub returns-clause-reading : goal.returns-clause-reading
returns-clause-reading g c = λ b strings answer run.
    let l = g.L.RuledLog in
    let m = g.met.L.RuledLog in
    let reads = c.reading_computes.ensures in
    (run-by-grammar (kind l.ruled) (log_laws l.rules l.same l.read l.listed m.after_none m.after_append m.by_list) b
    (envelope_in l.ruled_reading) (IsEnvelope l.IsContent l.HasContentFault)
    (HasEnvelopeFault l.IsContent l.HasContentFault) (λ s e. ((reads s).value e, (reads s).value_converse e))
    (λ s f. ((reads s).fault f, (reads s).fault_converse f)) l.says (named_cause l.ruled_log l.ruled_reading)
    strings answer).0
    (started answer (IsRun g.L.Validator.log g.L.Record.Record.reading b strings)
    (IsRun l.ruled_log l.ruled_reading b strings) (m.run_by_rules b strings answer).0 run)

pub returns-clause-run : goal.returns-clause-run
returns-clause-run g c = λ b strings answer read.
    let l = g.L.RuledLog in
    let m = g.met.L.RuledLog in
    let reads = c.reading_computes.ensures in
    started answer (IsRun l.ruled_log l.ruled_reading b strings)
    (IsRun g.L.Validator.log g.L.Record.Record.reading b strings) (m.run_by_rules b strings answer).1
    ((run-by-grammar (kind l.ruled) (log_laws l.rules l.same l.read l.listed m.after_none m.after_append m.by_list) b
    (envelope_in l.ruled_reading) (IsEnvelope l.IsContent l.HasContentFault)
    (HasEnvelopeFault l.IsContent l.HasContentFault) (λ s e. ((reads s).value e, (reads s).value_converse e))
    (λ s f. ((reads s).fault f, (reads s).fault_converse f)) l.says (named_cause l.ruled_log l.ruled_reading)
    strings answer).1 read)

pub returns-clause-cause : goal.returns-clause-cause
returns-clause-cause g c = λ b v s why.
    let l = g.L.RuledLog in
    let m = g.met.L.RuledLog in
    let reads = c.reading_computes.ensures in
    cause-by-grammar (kind l.ruled) (log_laws l.rules l.same l.read l.listed m.after_none m.after_append m.by_list) b
    (envelope_in l.ruled_reading) (IsEnvelope l.IsContent l.HasContentFault)
    (HasEnvelopeFault l.IsContent l.HasContentFault) (λ s e. ((reads s).value e, (reads s).value_converse e))
    (λ s f. ((reads s).fault f, (reads s).fault_converse f)) v s why
