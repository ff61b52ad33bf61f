-- A log read entry by entry, wherever its records end.
use Rattle.std.specs.Prelude.{ℕ, List, Bool, Option}
use Rattle.warg_log_records.specs.RecordData.{EntryData}
use Rattle.warg_log.specs.History.{PlacedEvent, access_view_of, own_events}
use Rattle.warg_log.specs.Rules.{Event, Rules, StateView, LogOffence}
use Rattle.warg_log.specs.Rules as rule

-- what a list of entries says: who may do what, and what the kind says of its own events
abbrev pub state_view_of : {P O V : Type 0} → (P → P → Bool) → (List (Event O) → V)
    → List (PlacedEvent (EntryData P O)) → StateView P V
state_view_of same own_state h = record {
  authority = access_view_of same h;
  own_state = own_state (own_events h);
}

-- what is wrong with an entry of a record of this version, where w stands before it
abbrev pub entry_offence : {P O V F : Type 0} → Rules P O V F → (P → P → Bool) → ℕ → StateView P V
    → PlacedEvent (EntryData P O) → Option (LogOffence P F)
entry_offence rules same version w e =
    rule.entry_offence rules same version w e.event.signer e.event.entry
