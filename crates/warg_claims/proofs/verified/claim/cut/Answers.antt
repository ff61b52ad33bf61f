use Rattle.std.proofs.Common.{rules}
use Rattle.warg_claims.proofs.VerifiedLemmas.CutLemmas.{cut-line}
use Rattle.warg_claims.proofs.verified.claim.cut.Goals as goal

pub returns : goal.returns
returns c = cut-line c.args.line.now c.in-Some.key.now c.in-Some.rest.now c.in-Some-split_once.message.now c.in-Some-split_once.signature.now (search rules) (search rules) (search rules) (search rules) (search rules) (search rules)
