use Rattle.warg_saved_states.proofs.read_map.quick_members.Goals as goal

pub returns-in-Some : goal.returns-in-Some
returns-in-Some g c =
    let read = c.in-Some.ensures.read in
    (read.0, c.in-Some.ensures.shorter, read.1, read.2)

pub returns-in-None : goal.returns-in-None
returns-in-None g c same = absurd cc
