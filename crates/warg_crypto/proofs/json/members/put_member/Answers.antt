use Rattle.std.proofs.Common.{refl}
use Rattle.serde_json.proofs.Views.{members_view-insert_entry}
use Rattle.warg_crypto.proofs.json.members.put_member.Goals as goal

pub returns-clause-ok : goal.returns-clause-ok
returns-clause-ok c =
    rw (c.in_ok-insert.ensures.entries, members_view-insert_entry, c.in_ok-name.ensures.ok) refl
