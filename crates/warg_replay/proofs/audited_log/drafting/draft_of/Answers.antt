use Rattle.std.proofs.Common.{◌≡◌, ◌++◌, ◌+◌, ap, sym, ◌∙◌, subst, arith, List, ℕ}
use Rattle.warg_log_records.specs.Effects.{IsListing}
use Rattle.warg_replay.specs.AuditedLog.Chains.{entries_of, first_entries}
use Rattle.warg_replay.specs.AuditedLog.GrantIndexes.{number_over, IsGrantIndex, GivesOnlyHeld}
use Rattle.warg_replay.proofs.AuditedLogLemmas.GrantIndexLemmas.{entry-added, entries-whole, fewer}
use Rattle.warg_replay.proofs.audited_log.drafting.draft_of.Goals as goal

pub entries-preserved : goal.entries-preserved
entries-preserved g c =
    let f = g.L.Validator.effects in
    let same = g.L.Permission.PartialEq.eq in
    let e = c.args.envelope.now.envelope in
    let base = c.args.grant_index.now in
    let mid = c.entries.draft in
    let new = c.add_entry.new.draft in
    let n = c.entries.entry_index in
    record {
      grant_index = λ honest es long only grant_index.
          let listing : IsListing same (f.effect e n) c.as_slice.result.now = subst (IsListing same (f.effect e n)) (sym c.as_slice.ensures.value) (c.in_ok-events.ensures.listed honest) in
          entry-added f same es e c.args.record_index n (base.gifts.items ++ mid.gifts.items) (base.gifts.items ++ new.gifts.items) (number_over same base.holdings mid.holdings) (number_over same base.holdings new.holdings) c.key_id.result.now c.as_slice.result.now long c.key_id.ensures listing c.in_ok-add_entry.ensures.applied only
          (c.entries.invariant.grant_index honest es long (fewer f es e n only) grant_index);
      unique = c.in_ok-add_entry.ensures.unique c.entries.invariant.unique;
    }

pub returns-clause-grant_index : goal.returns-clause-grant_index
returns-clause-grant_index g c = λ honest es long only grant_index.
    let f = g.L.Validator.effects in
    let same = g.L.Permission.PartialEq.eq in
    let e = c.args.envelope.now.envelope in
    let base = c.args.grant_index.now in
    let at_end : c.entry_count-entry_index-end.result ≡ c.entries.entry_index = omega arith in
    let all : f.entries e ≡ c.entries.entry_index = sym (c.entry_count-entry_index-end.ensures.entries honest) ∙ at_end in
    let only_these : GivesOnlyHeld f es e c.entries.entry_index = subst (GivesOnlyHeld f es e) all only in
    let done = c.entries.invariant.grant_index honest es long only_these grant_index in
    subst (λ h. IsGrantIndex h (base.gifts.items ++ c.entries.draft.gifts.items) (number_over same base.holdings c.entries.draft.holdings)) (ap (λ m. entries_of f es ++ first_entries f c.args.record_index e m) (sym all) ∙ entries-whole f es e c.args.record_index long) done
