use Rattle.warg_operator_log.proofs.error.ValidationErrorDisplay.fmt.Goals as goal

pub returns-in-UnauthorizedAction-clause-writes : goal.returns-in-UnauthorizedAction-clause-writes
returns-in-UnauthorizedAction-clause-writes g c = rw (c.in-UnauthorizedAction.is) c.write.ensures.writes

pub returns-in-NamespaceAlreadyDefined-clause-writes : goal.returns-in-NamespaceAlreadyDefined-clause-writes
returns-in-NamespaceAlreadyDefined-clause-writes g c = rw (c.in-NamespaceAlreadyDefined.is) c.write-in-NamespaceAlreadyDefined.ensures.writes
