use Rattle.warg_saved_states.proofs.read_map.next_entry.Goals as goal

pub returns-clause-read : goal.returns-clause-read
returns-clause-read g c =
    let n = rw c.in-Ok-Ok.field-0-is at c.in-Ok-Ok.ensures in
    (n.json, n.text, c.in-Ok.ensures, n.read)
