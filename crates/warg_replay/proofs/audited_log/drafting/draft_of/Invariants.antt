use Rattle.std.proofs.Common.{◌≡◌, ◌++◌, List, length}
use Rattle.std.specs.Str.{bytes_eq}
use Rattle.indexmap.specs.IndexMap.{IsUnique}
use Rattle.warg_envelope.specs.Envelopes.{ContentsMatchBytes}
use Rattle.warg_envelope.specs.EnvelopeData.{EnvelopeData}
use Rattle.warg_replay.specs.AuditedLog.Chains.{entries_of, first_entries}
use Rattle.warg_replay.specs.AuditedLog.GrantIndexes.{number_at, number_over, IsGrantIndex, GivesOnlyHeld}
use Rattle.warg_replay.proofs.audited_log.drafting.draft_of.Given as goal

-- the entries so far are in the draft
abbrev pub invariant-entries : goal.invariant-entries
invariant-entries g l =
    let f = g.L.Validator.effects in
    let same = g.L.Permission.PartialEq.eq in
    let e = l.envelope.envelope in
    record {
      grant_index : ContentsMatchBytes g.L.Record.Record.read g.L.Record.Record.meaning l.envelope → (es : List EnvelopeData) → length es ≡ l.fn.record_index → GivesOnlyHeld f es e l.entry_index → IsGrantIndex (entries_of f es) l.grant_index.gifts.items (number_at same l.grant_index.holdings)
          → IsGrantIndex (entries_of f es ++ first_entries f l.fn.record_index e l.entry_index) (l.grant_index.gifts.items ++ l.draft.gifts.items) (number_over same l.grant_index.holdings l.draft.holdings);
      unique : IsUnique bytes_eq l.draft.holdings;
    }
