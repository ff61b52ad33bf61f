-- A state that stands for envelopes says what their history says, and `run` answers such a state.
use Rattle.std.proofs.Common.{◌≡◌, ℕ, List, Result, ap}
use Rattle.std.specs.Prelude.{IfOk}
use Rattle.warg_envelope.specs.Envelopes.{envelope_of, envelope_fault_of}
use Rattle.warg_envelope.specs.Faults.{fault_of}
use Rattle.warg_envelope.specs.EnvelopeData.{EnvelopeData}
use Rattle.warg_log_records.specs.OperatorReading.{operator_record_of}
use Rattle.warg_permissions.specs.declared.operator.Permission.{Permission}
use Rattle.warg_replay.specs.declared.replay.RunError.{RunError}
use Rattle.warg_log_records.specs.Kinds.{SignatureRelation, IsAccepted, StandsFor}
use Rattle.warg_replay.specs.OutcomeRuns.{IsRun, IfStarted, cause_named_by}
use Rattle.warg_replay.specs.Inputs.{read_all}
use Rattle.warg_replay.proofs.RunLaws.{run-then}
use Rattle.warg_permissions.specs.KeyMaps.AuthorityData.{AuthorityData}
use Rattle.warg_log.specs.States.{State}
use Rattle.warg_operator_log.specs.Namespaces.{Namespace}
use Rattle.warg_operator_log.specs.State.{View, view_of, offence_of}
use Rattle.warg_operator_log.specs.StateHistory.{TellsHistory}
use Rattle.warg_operator_log.specs.StateLaws.{kind, state_laws}
use Rattle.warg_operator_log.specs.declared.error.ValidationError.{ValidationError}

pub stands-tells : (s : State (AuthorityData Permission) (List (List ℕ × Namespace))) (es : List EnvelopeData) → StandsFor kind view_of s es → TellsHistory s es
stands-tells s es h = record {
  permissions = λ k p. ap (λ (v : View). v.state.authority.holds k p) h;
  entries = λ k. ap (λ (v : View). v.state.authority.has_entry k) h;
  keys = λ k. ap (λ (v : View). v.state.authority.key k) h;
  algorithm = ap (λ (v : View). v.state.authority.algorithm) h;
  namespaces = λ name. ap (λ (v : View). v.state.own_state name) h;
  head = ap (λ (v : View). v.head) h;
}

pub run-tells : (b : SignatureRelation) (strings : List (List ℕ)) (answer : Result (State (AuthorityData Permission) (List (List ℕ × Namespace))) (RunError ValidationError)) → let read = envelope_of operator_record_of in
    IfStarted (IsRun kind b read kind.view_of view_of (cause_named_by (envelope_fault_of fault_of) offence_of) ◌≡◌ strings) answer → IfOk answer (λ s. IsAccepted kind b (read_all read strings) × TellsHistory s (read_all read strings))
run-tells b strings =
    let envelopes = read_all (envelope_of operator_record_of) strings in
    run-then kind state_laws b (envelope_of operator_record_of) view_of (cause_named_by (envelope_fault_of fault_of) offence_of) strings (λ s. IsAccepted kind b envelopes × TellsHistory s envelopes) (λ s accepted stands. (accepted, stands-tells s envelopes stands))
