use Rattle.std.proofs.Common.{[], sym, ap, ◌∙◌, length}
use Rattle.warg_log.specs.History.{record_history}
use Rattle.warg_log.specs.Rules.{events_offence}
use Rattle.warg_log_laws.specs.RuledLogs.{kind}
use Rattle.warg_log_laws.proofs.EntryWalks.{view-within, first-within, accepted-entries, placed-events}
use Rattle.warg_log_laws.proofs.laws.entries_in_turn.Goals as goal

pub returns-clause-view : goal.returns-clause-view
returns-clause-view g c = λ b es h version before none.
    let l = g.L.RuledLog in
    let m = g.met.L.RuledLog in
    view-within l.rules l.same m.after_none m.after_append l.listed m.by_list l.read b es h version before none

pub returns-clause-first : goal.returns-clause-first
returns-clause-first g c = λ b es h r.
    let l = g.L.RuledLog in
    let m = g.met.L.RuledLog in
    let f = first-within l.rules l.same m.after_none m.after_append l.listed m.by_list l.read b es h r.contents.version (record_history l.rules.id_of (length es, r)) in
    (f.0, f.1.0, ap (events_offence l.rules l.same r.contents.version ((kind l.ruled).view_of es).state []) (sym (placed-events l.rules l.same m.after_none m.after_append l.listed m.by_list l.read b (length es) r)) ∙ f.1.1)

pub returns-clause-accepted : goal.returns-clause-accepted
returns-clause-accepted g c = λ b es h place r at.
    let l = g.L.RuledLog in
    let m = g.met.L.RuledLog in
    accepted-entries l.rules l.same m.after_none m.after_append l.listed m.by_list l.read b es h place r at
