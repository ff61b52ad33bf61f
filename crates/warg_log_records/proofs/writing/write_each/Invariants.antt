use Rattle.std.proofs.Common.{◌≡◌, take, map}
use Rattle.warg_log_records.proofs.writing.write_each.Given as goal

abbrev pub invariant-loop-entry : goal.invariant-loop-entry
invariant-loop-entry g l = map g.T.LogEntry.message_view l.messages.items ≡ map g.T.LogEntry.written_message (take l.entry-index l.entries)
