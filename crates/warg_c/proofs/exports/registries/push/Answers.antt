use Rattle.warg_c.proofs.exports.registries.push.Goals as goal

pub returns-in-Ok-clause-ok : goal.returns-in-Ok-clause-ok
returns-in-Ok-clause-ok c = (c.len-place.ensures, record { leaf = c.in_ok-leaf.leaf; texts = c.in_ok-leaf.ensures.ok; last = c.in-Ok.ensures.ok })
