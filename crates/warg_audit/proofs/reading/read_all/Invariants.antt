use Rattle.warg_audit.proofs.InputLemmas.{SoFar}
use Rattle.warg_audit.proofs.reading.read_all.Given as goal

abbrev pub invariant-reads : goal.invariant-reads
invariant-reads g l = SoFar l.limit g.R.Read.remaining l.fn.input l.input l._turn l.bytes.items
