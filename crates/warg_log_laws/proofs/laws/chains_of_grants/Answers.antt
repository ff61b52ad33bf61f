use Rattle.std.proofs.Common.{sym, ◌∙◌}
use Rattle.warg_log.proofs.KindLaws.{log_laws}
use Rattle.warg_log_laws.proofs.ChainWords.{accepted-chains, accepted-one}
use Rattle.warg_log_laws.proofs.HistoryEntries.{effects-history}
use Rattle.warg_log_laws.proofs.laws.chains_of_grants.Goals as goal

pub returns-clause-answer : goal.returns-clause-answer
returns-clause-answer g c = λ b es h k p links.
    let l = g.L.RuledLog in
    let m = g.met.L.RuledLog in
    accepted-chains l.rules l.same l.read l.listed b (log_laws l.rules l.same l.read l.listed m.after_none m.after_append m.by_list) es h k p links

pub returns-clause-held : goal.returns-clause-held
returns-clause-held g c = λ b es h k p links is.
    let l = g.L.RuledLog in
    let m = g.met.L.RuledLog in
    let chains = accepted-chains l.rules l.same l.read l.listed b (log_laws l.rules l.same l.read l.listed m.after_none m.after_append m.by_list) es h k p links in
    sym (effects-history l.rules l.same l.read es k p) ∙ (chains.1 is).0

pub returns-clause-one : goal.returns-clause-one
returns-clause-one g c = λ b es h k p links is others other.
    let l = g.L.RuledLog in
    let m = g.met.L.RuledLog in
    accepted-one l.rules l.same l.read l.listed b (log_laws l.rules l.same l.read l.listed m.after_none m.after_append m.by_list) es h k p links is others other
