-- When two keys or signatures are the same, and what a hasher is fed of them, agree.
use Rattle.std.specs.Prelude.{◌≡◌, true}
use Rattle.std.specs.Cmp.{IsEquivalence, on_equiv}
use Rattle.std.specs.Cmp.Lexicographic.{nat_list_eq_equiv}
use Rattle.std.specs.Cmp.Rules.{hashing}
use Rattle.std.specs.Hash as fed
use Rattle.std.proofs.Common.{rules}
use Rattle.std.proofs.lemmas.Cmp.{and_equiv}
use Rattle.warg_crypto.specs.NamedBytes.{NamedBytes, same_named_bytes}
use Rattle.warg_crypto.specs.SameNamedBytes.{named_bytes_hash_input}

-- to be the same is an equivalence of keys, and of signatures
pub same_named_bytes_equiv : IsEquivalence same_named_bytes
same_named_bytes_equiv = and_equiv (on_equiv (λ (t : NamedBytes). t.name) nat_list_eq_equiv) (on_equiv (λ (t : NamedBytes). t.bytes) nat_list_eq_equiv)

alike : fed.Alike same_named_bytes named_bytes_hash_input
alike = search (hashing, rules)

-- of keys or signatures that are the same, a hasher is fed the same
pub named_bytes_hash_input-same_named_bytes : (a b : NamedBytes) → same_named_bytes a b ≡ true → named_bytes_hash_input a ≡ named_bytes_hash_input b
named_bytes_hash_input-same_named_bytes = alike.fed
