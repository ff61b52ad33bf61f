use Rattle.std.proofs.Common.{Option, None, subst}
use Rattle.warg_crypto.specs.declared.json.error.Incoherence.{Incoherence}
use Rattle.warg_saved_states.specs.Fit.{RefusesCaseOrNoMemory}
use Rattle.warg_log.specs.SavedMembers.{saved_incoherence}
use Rattle.warg_package_log.specs.SavedParts.{parts_view}
use Rattle.warg_package_log.proofs.state.saved.check_parts.Goals as goal

pub returns : goal.returns
returns c =
    let parts = parts_view c.args.parts.now in
    subst (λ (before : Option Incoherence). RefusesCaseOrNoMemory (saved_incoherence before parts.seconds None parts) c.check.result) c.misfiled.ensures c.check.ensures
