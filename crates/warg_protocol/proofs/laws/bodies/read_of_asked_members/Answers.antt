use mathlib.Core.Path.{sym}
use Rattle.warg_protocol.proofs.AskedMembers.{body-same, published-same}
use Rattle.warg_protocol.proofs.laws.bodies.read_of_asked_members.Goals as goal

pub returns-clause-body : goal.returns-clause-body
returns-clause-body g names n whole value content key tag like = sym (body-same names n content key tag whole value like)

pub returns-clause-published : goal.returns-clause-published
returns-clause-published g names n whole value content key tag index like = sym (published-same names n content key tag whole value like index)
