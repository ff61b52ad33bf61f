use Rattle.std.proofs.Common.{◌≡◌, ◌++◌, [], Ok, fold, length, map}
use Rattle.std.specs.Vec.Iter.{into_iter_items, into_iter_len}
use Rattle.warg_log_records.specs.Entries.{entries_held, next_entry}
use Rattle.warg_log_records.proofs.entries.read_each.Given as goal

abbrev pub invariant-loop-message : goal.invariant-loop-message
invariant-loop-message g l =
    let t = g.T.LogEntry in
    (entries_held t.plain l.entries ≡ fold (next_entry t.read) (Ok []) (map t.message_view l.yielded))
    × (l.yielded ++ into_iter_items l.message-iterator ≡ into_iter_items l.initial.message-iterator)
    × (into_iter_len l.message-iterator ≡ length (into_iter_items l.message-iterator))
