use Rattle.std.proofs.Common.{◌≡◌, sym, ap, ◌∙◌, subst, IfOk, IfErr}
use Rattle.warg_crypto.specs.Signed.{signed_message}
use Rattle.warg_log.specs.Asking.{Asks, RefusesAnyway}
use Rattle.warg_log.specs.States.{state_view_over, view_of_state, record_ref_data, with_envelope, offence_of_kind_error}
use Rattle.warg_log.proofs.AskingLaws.{asks-by-key, refused-unknown}
use Rattle.warg_log.proofs.log.Log.question.Goals as goal

pub returns-clause-asks : goal.returns-clause-asks
returns-clause-asks g c =
    let rules = g.M.OwnState.rules in
    let same = g.M.Permission.PartialEq.eq in
    let view = g.M.OwnState.view in
    let v = view_of_state same view (record { authority = c.self.inside.state.authority; own_state = c.self.inside.state.own_state; head = c.self.inside.head }) in
    let envelope = c.args.envelope.now.envelope in
    let e = with_envelope (record_ref_data g.M.OwnState.entry_data c.record_ref-parts.result) envelope in
    let w = state_view_over same g.M.OwnState.view_with_change c.self.inside.state.authority c.in_ok-changes.changes.authority c.self.inside.state.own_state c.in_ok-changes.changes.own_state in
    let r = c.question_with.result in
    let asks = asks-by-key rules same v e w c.in_ok-changes.ensures.after c.in_ok-changes.ensures.judges r c.question_with.ensures.key
    (subst (λ prefix. IfOk r (λ q. q.message.items ≡ signed_message prefix envelope.content)) (sym g.met.M.OwnState.signs_under) c.question_with.ensures.message) c.question_with.ensures.signature in
    let here = subst (λ u. IfOk r (λ q. Asks rules same u e q)) (ap (view_of_state same view) c.self.view_is) asks in
    subst (λ s. IfOk r (λ q. Asks rules same (view_of_state same view c.args.self.now) (with_envelope s envelope) q)) (c.record_ref-parts.ensures ∙ ap g.M.OwnState.record_data c.contents.ensures) here

pub returns-clause-refused : goal.returns-clause-refused
returns-clause-refused g c =
    let rules = g.M.OwnState.rules in
    let same = g.M.Permission.PartialEq.eq in
    let view = g.M.OwnState.view in
    let named_by = g.M.OwnState.offence_named_by in
    let v = view_of_state same view (record { authority = c.self.inside.state.authority; own_state = c.self.inside.state.own_state; head = c.self.inside.head }) in
    let envelope = c.args.envelope.now.envelope in
    let e = with_envelope (record_ref_data g.M.OwnState.entry_data c.record_ref-parts.result) envelope in
    let w = state_view_over same g.M.OwnState.view_with_change c.self.inside.state.authority c.in_ok-changes.changes.authority c.self.inside.state.own_state c.in_ok-changes.changes.own_state in
    let r = c.question_with.result in
    let refused = refused-unknown rules same v e w c.in_ok-changes.ensures.after c.in_ok-changes.ensures.judges named_by r c.question_with.ensures.unknown in
    let here = subst (λ u. IfErr r (λ f. RefusesAnyway rules same (offence_of_kind_error named_by f) u e)) (ap (view_of_state same view) c.self.view_is) refused in
    subst (λ s. IfErr r (λ f. RefusesAnyway rules same (offence_of_kind_error named_by f) (view_of_state same view c.args.self.now) (with_envelope s envelope))) (c.record_ref-parts.ensures ∙ ap g.M.OwnState.record_data c.contents.ensures) here
