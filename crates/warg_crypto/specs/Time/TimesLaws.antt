-- When two times are the same, how times are ordered, and what a hasher is fed of them, agree.
use Rattle.std.specs.Prelude.{◌≡◌, nat_eq, true, Some, refl}
use Rattle.std.specs.Ordering.{int_cmp, nat_cmp, int_eq, eq_by_cmp}
use Rattle.std.specs.Cmp.{IsEquivalence, IsTotalOrder, IsPartialOrder, on_equiv, on_total, then_total, po, both_tied, ties, unsigned_po, int_cmp_total, nat_cmp_total}
use Rattle.std.specs.Cmp.Rules.{hashing}
use Rattle.std.specs.Hash as fed
use Rattle.std.proofs.Common.{rules}
use Rattle.std.proofs.lemmas.Cmp.{and_equiv, int_eq_equiv, nat_eq_equiv}
use Rattle.warg_crypto.specs.Time.Times.{Time, same_time, time_cmp, time_hash_input}

-- to be the same is an equivalence of times
pub same_time_equiv : IsEquivalence same_time
same_time_equiv = and_equiv (on_equiv (λ (t : Time). t.seconds) int_eq_equiv) (on_equiv (λ (t : Time). t.nanos) nat_eq_equiv)

-- times stand in a total order
pub time_cmp_total : IsTotalOrder time_cmp
time_cmp_total = then_total (on_total (λ (t : Time). t.seconds) int_cmp_total) (on_total (λ (t : Time). t.nanos) nat_cmp_total)

-- two times are the same where neither is before the other
pub same_time-time_cmp : (a b : Time) → same_time a b ≡ eq_by_cmp time_cmp a b
same_time-time_cmp a b = both_tied (int_eq a.seconds b.seconds) (nat_eq a.nanos b.nanos) (int_cmp a.seconds b.seconds) (nat_cmp a.nanos b.nanos) refl (ties unsigned_po (λ _ _. refl) a.nanos b.nanos)

-- the order of times, as a partial one, agrees with when two are the same
pub time_cmp_partial : IsPartialOrder same_time (λ a b. Some (time_cmp a b))
time_cmp_partial = po time_cmp_total same_time-time_cmp

alike : fed.Alike same_time time_hash_input
alike = search (hashing, rules)

-- of times that are the same, a hasher is fed the same
pub time_hash_input-same_time : (a b : Time) → same_time a b ≡ true → time_hash_input a ≡ time_hash_input b
time_hash_input-same_time = alike.fed
