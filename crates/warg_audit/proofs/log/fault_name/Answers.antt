use Rattle.std.proofs.Common.{◌∙◌, ap, Some}
use Rattle.warg_audit.proofs.NameLemmas.{error_named}
use Rattle.warg_audit.proofs.log.fault_name.Goals as goal

pub returns-in_default : goal.returns-in_default
returns-in_default c = ap Some c.name.ensures ∙ error_named c.args.error c.in_default.not-OutOfMemory
