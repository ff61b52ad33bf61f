use Rattle.std.proofs.Common.{sym}
use Rattle.warg_crypto.specs.HashTextLaws.{hash_of_digits-bad, hash_of_digits-long}
use Rattle.warg_crypto.proofs.hash.hash_of_digits.Goals as goal

pub returns-then-are_pairs : goal.returns-then-are_pairs
returns-then-are_pairs c = sym (hash_of_digits-long _ (c.are_pairs.ensures.0 c.if-are_pairs.true) c.if-digits-eq64.false)

pub returns-else-are_pairs : goal.returns-else-are_pairs
returns-else-are_pairs c = sym (hash_of_digits-bad _ (λ h. cc (c.if-are_pairs.false, c.are_pairs.ensures.1 h)))
