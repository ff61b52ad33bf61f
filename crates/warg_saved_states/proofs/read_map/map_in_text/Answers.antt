use Rattle.std.proofs.Common.{Ok}
use Rattle.warg_crypto.specs.Json.Pairs.{pairs_member, plain_pairs}
use Rattle.warg_saved_states.proofs.TextMaps.{of_whole, text_told}
use Rattle.warg_saved_states.proofs.read_map.map_in_text.Goals as goal

pub returns-in-Ok-Ok : goal.returns-in-Ok-Ok
returns-in-Ok-Ok g c =
    let read = rw c.in-Ok-Ok.field-0-is at c.in-Ok-Ok.ensures in
    of_whole (pairs_member g.K.SavedName.key_named g.V.SavedValue.reads c.args.name.now)
    c.args.text.now read.0 (Ok (plain_pairs g.K.SavedName.plain g.V.SavedValue.plain c.in-Ok-Ok.map.entries)) read.1 read.2

pub returns : goal.returns
returns g c =
    text_told (λ m. plain_pairs g.K.SavedName.plain g.V.SavedValue.plain m.entries) (pairs_member g.K.SavedName.key_named g.V.SavedValue.reads c.args.name.now)
    c.args.text.now c.read_member-2.result c.map_or_fault.result c.map_or_fault.ensures c.read_member-2.ensures
