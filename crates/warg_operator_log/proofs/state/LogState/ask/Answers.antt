use Rattle.std.proofs.Common.{IfErr, subst}
use Rattle.warg_permissions.specs.OperatorPermissions.{same_permission}
use Rattle.warg_log.specs.Asking.{RefusesAnyway}
use Rattle.warg_operator_log.specs.Namespaces.{rules}
use Rattle.warg_operator_log.specs.State.{view_of, offence_of, envelope_as_data}
use Rattle.warg_operator_log.proofs.state.LogState.ask.Goals as goal

pub returns-clause-refused : goal.returns-clause-refused
returns-clause-refused c = subst (λ s. IfErr c.ask.result (λ e. RefusesAnyway rules same_permission (offence_of e) (view_of s) (envelope_as_data c.args.envelope.now))) c.self.view_is c.ask.ensures.refused
