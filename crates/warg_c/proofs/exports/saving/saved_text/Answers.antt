use Rattle.warg_c.proofs.exports.saving.saved_text.Goals as goal

pub returns-in-Package-clause-written : goal.returns-in-Package-clause-written
returns-in-Package-clause-written c = rw c.in-Package.is (rw c.state.ensures at c.state_text.ensures.written)
