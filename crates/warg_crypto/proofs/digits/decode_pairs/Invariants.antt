use Rattle.warg_crypto.proofs.DigitLemmas.{Read}
use Rattle.warg_crypto.proofs.digits.decode_pairs.Given as goal

abbrev pub invariant-bytes : goal.invariant-bytes
invariant-bytes l = Read l.wrong l.digits l.bytes l.i
