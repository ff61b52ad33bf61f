-- What the history of a log says, for both kinds: signed records and their entries as events, and what is held after them.
-- events, the view that a state stands for, and the first thing that is wrong with a record
pub use Rattle.warg_log.specs.Rules.{Event, SignedRecord, View, start, record_offence}
pub use Rattle.warg_log.specs.Offences.{offence_of}
pub use Rattle.warg_log.specs.PossibleOffences.{IsPossible}
-- who holds what by the history, and which entry gave it
pub use Rattle.warg_log.specs.History.{Holds, PlacedEvent, holds, entry_on}
pub use Rattle.warg_log.specs.Listings.{IsGift}
-- what a state keeps, and the view of it
pub use Rattle.warg_permissions.specs.KeyMaps.AuthorityData.{AuthorityData}
pub use Rattle.warg_log.specs.States.{State, view_of_state}
pub use Rattle.warg_log.specs.Equal.{same_states}
-- what a call answers where something is wrong
pub use Rattle.warg_log.specs.declared.log_error.LogError.{LogError}
pub use Rattle.warg_log_records.specs.OutcomeOffences.{ReturnsOffence, NamesOffence}
-- a kind of log by what its own part says
pub use Rattle.warg_log.specs.KindOfRules.{kind_of, effects_of, effect_of, effect_at, signed_record_of}
-- the name of 0.1.0 for it
pub use Rattle.warg_log.specs.declared.log_error.LogError.{LogError as Refusal}
