use Rattle.std.proofs.Common.{◌≡◌, ◌++◌, map}
use Rattle.serde_json.specs.Data.{string}
use Rattle.serde_json.specs.View.{view}
use Rattle.warg_saved_states.proofs.permissions.permissions_value.Given as goal

abbrev pub invariant-permissions : goal.invariant-permissions
invariant-permissions g l = map view l.items.items ++ map (λ p. string (g.P.LogPermission.text_of p)) l.permission-iterator ≡ map (λ p. string (g.P.LogPermission.text_of p)) l.fn.set.keys
