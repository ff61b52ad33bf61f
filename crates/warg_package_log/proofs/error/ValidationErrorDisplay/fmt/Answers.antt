use Rattle.warg_package_log.proofs.error.ValidationErrorDisplay.fmt.Goals as goal

pub returns-in-UnauthorizedAction-clause-writes : goal.returns-in-UnauthorizedAction-clause-writes
returns-in-UnauthorizedAction-clause-writes g c = rw (c.in-UnauthorizedAction.is) c.write.ensures.writes
