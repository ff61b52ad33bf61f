use Rattle.warg_primes.proofs.Factors.{no_factors}
use Rattle.warg_primes.proofs.Chain.{prime_256, order_256}
use Rattle.warg_primes.proofs.curve_primes.Goals as goal

pub returns-clause-field : goal.returns-clause-field
returns-clause-field c = no_factors _ prime_256

pub returns-clause-order : goal.returns-clause-order
returns-clause-order c = no_factors _ order_256
