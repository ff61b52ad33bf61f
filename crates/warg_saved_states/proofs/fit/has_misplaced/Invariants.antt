use Rattle.std.proofs.Common.{◌≡◌}
use Rattle.std.specs.List.{list_any}
use Rattle.warg_saved_states.specs.Fit.{is_misplaced}
use Rattle.warg_saved_states.proofs.fit.has_misplaced.Given as goal

abbrev pub invariant-keys : goal.invariant-keys
invariant-keys l = list_any is_misplaced l.id-iterator ≡ list_any is_misplaced l.fn.keys.entries
