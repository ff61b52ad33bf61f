use Rattle.warg_log.proofs.KindLaws.{log_laws}
use Rattle.warg_log_laws.proofs.laws.is_a_kind.Goals as goal

pub returns : goal.returns
returns g c =
    let l = g.L.RuledLog in
    let m = g.met.L.RuledLog in
    log_laws l.rules l.same l.read l.listed m.after_none m.after_append m.by_list
