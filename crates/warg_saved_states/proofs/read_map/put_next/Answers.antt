use Rattle.std.proofs.Common.{◌≡◌, arith}
use Rattle.indexmap.specs.IndexMap.{insert_entry}
use Rattle.warg_saved_states.proofs.read_map.put_next.Goals as goal

pub returns-clause-read : goal.returns-clause-read
returns-clause-read g c =
    let put : c.insert.new.self.entries ≡ insert_entry g.K.PartialEq.eq c.args.map.now.entries c.in_ok-key.key c.in_ok-key.value = grind arith in
    let entry = c.in_ok-key.ensures.read in
    (entry.0, c.in_ok-key.key, c.in_ok-key.value, entry.1, entry.2, entry.3, put)
