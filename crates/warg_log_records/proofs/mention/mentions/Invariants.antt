use Rattle.std.proofs.Common.{◌≡◌, [], take}
use Rattle.std.specs.List.{filter_map}
use Rattle.indexmap.specs.IndexSet.{insert_all}
use Rattle.warg_log_records.proofs.mention.mentions.Given as goal

abbrev pub invariant-loop-entry : goal.invariant-loop-entry
invariant-loop-entry g l = l.items.keys ≡ insert_all g.E.Item.PartialEq.eq [] (filter_map g.E.Mention.mention_of (take l.entry-index l.entries))
