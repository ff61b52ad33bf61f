use Rattle.serde_json.specs.View.{view}
use Rattle.warg_crypto.specs.Json.Pairs.{plain_pairs}
use Rattle.warg_saved_states.specs.SavedPermissions.{permissions_in}
use Rattle.warg_log.proofs.AskedHead.{begun_of}
use Rattle.warg_log.proofs.SavedTexts.{all_read}
use Rattle.warg_log.proofs.saved_parts.quick_parts.Goals as goal

pub returns : goal.returns
returns g c =
    let read = c.in_ok-value.ensures in
    all_read (permissions_in g.P.PartialEq.eq g.P.LogPermission.permission_named) c.args.first.now g.K.SavedName.key_named g.V.SavedValue.reads c.args.second.now g.L.SavedName.key_named g.W.SavedValue.reads c.args.text.now
    read.0 (c.in-Ok.algorithm, c.in-Ok-head_member.head) (plain_pairs (λ id. id) (λ set. set) c.in_ok-value.rights.entries)
    (plain_pairs g.K.SavedName.plain g.V.SavedValue.plain c.in_ok-value.firsts.entries) (plain_pairs g.L.SavedName.plain g.W.SavedValue.plain c.in_ok-value.seconds.entries)
    read.1 (begun_of read.0 (view c.in_ok-value.value) c.in-Ok.algorithm c.in-Ok-head_member.head read.2 c.in-Ok.ensures c.in-Ok-head_member.ensures) read.3 read.4 read.5
