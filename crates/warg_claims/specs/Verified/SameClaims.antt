-- When two claims are the same, and what a hasher is fed of them.
use Rattle.std.specs.Prelude.{◌≡◌, ℕ, true, List, ◌++◌}
use Rattle.std.specs.Cmp.{IsEquivalence, on_equiv}
use Rattle.std.specs.Cmp.Lexicographic.{nat_list_eq_equiv}
use Rattle.std.specs.Cmp.Rules.{hashing}
use Rattle.std.specs.Hash as fed
use Rattle.std.proofs.Common.{rules}
use Rattle.std.proofs.lemmas.Cmp.{and_equiv}
use Rattle.warg_crypto.specs.SameNamedBytes.{named_bytes_hash_input}
use Rattle.warg_crypto.specs.SameLaws.{same_named_bytes_equiv}
use Rattle.warg_claims.specs.Verified.Claims.{ClaimData, same_claim}

-- to be the same is an equivalence of claims
pub same_claim_equiv : IsEquivalence same_claim
same_claim_equiv =
    and_equiv (on_equiv (λ (c : ClaimData). c.key) same_named_bytes_equiv)
    (and_equiv (on_equiv (λ (c : ClaimData). c.message) nat_list_eq_equiv) (on_equiv (λ (c : ClaimData). c.signature) same_named_bytes_equiv))

-- the key, the message behind its length, the signature
abbrev pub claim_hash_input : ClaimData → List (List ℕ)
claim_hash_input c = named_bytes_hash_input c.key ++ (fed.slice fed.u8 c.message ++ named_bytes_hash_input c.signature)

alike : fed.Alike same_claim claim_hash_input
alike = search (hashing, rules)

-- of claims that are the same, a hasher is fed the same
pub claim_hash_input-same_claim : (a b : ClaimData) → same_claim a b ≡ true → claim_hash_input a ≡ claim_hash_input b
claim_hash_input-same_claim = alike.fed
