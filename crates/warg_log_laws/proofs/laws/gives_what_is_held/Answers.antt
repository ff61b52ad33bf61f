use Rattle.std.proofs.Common.{take, ◌++◌}
use Rattle.warg_log.specs.History.{record_history}
use Rattle.warg_log.proofs.KindLaws.{log_gives}
use Rattle.warg_log_laws.specs.RuledLogs.{history, state_view_of}
use Rattle.warg_log_laws.proofs.EntryWalks.{accepted-entries, grant-held}
use Rattle.warg_log_laws.proofs.laws.gives_what_is_held.Goals as goal

pub returns-clause-effects : goal.returns-clause-effects
returns-clause-effects g c = let l = g.L.RuledLog in log_gives l.rules l.same l.read l.listed g.met.L.RuledLog.one_permission_each

pub returns-clause-grants : goal.returns-clause-grants
returns-clause-grants g c = λ b es h place r at n e there k p grant.
    let l = g.L.RuledLog in
    let m = g.met.L.RuledLog in
    grant-held l.rules l.same m.one_permission_each r.contents.version (state_view_of l.ruled (history l.ruled (take place es) ++ take n (record_history l.rules.id_of (place, r)))) e k p
    (accepted-entries l.rules l.same m.after_none m.after_append l.listed m.by_list l.read b es h place r at n e there)
    grant
