use Rattle.std.proofs.Common.{refl}
use Rattle.serde_json.proofs.Views.{members_view-insert_entry}
use Rattle.warg_saved_states.proofs.map.put_named.Goals as goal

pub returns-clause-ok : goal.returns-clause-ok
returns-clause-ok c = rw (c.in_ok-insert.ensures.entries, members_view-insert_entry) refl
