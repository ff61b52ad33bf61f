use Rattle.std.proofs.Common.{◌≡◌, true, false, arith}
use Rattle.std.specs.Option.{is_some}
use Rattle.indexmap.specs.IndexSet.{insert_key}
use Rattle.warg_saved_states.proofs.PermissionItems.{faulty_step, take_bad, take_good}
use Rattle.warg_saved_states.proofs.permissions.take_permission.Goals as goal

pub returns-then-is_some-clause-ok : goal.returns-then-is_some-clause-ok
returns-then-is_some-clause-ok g c = λ d read ds.
    let some : is_some c.args.fault ≡ true = grind arith in
    faulty_step g.P.PartialEq.eq g.P.LogPermission.permission_named c.args.fault c.args.set.now.keys d some ds

pub returns-in_ok-insert-in-Ok-clause-ok : goal.returns-in_ok-insert-in-Ok-clause-ok
returns-in_ok-insert-in-Ok-clause-ok g c = λ d read ds.
    let none : is_some c.args.fault ≡ false = grind arith in
    let put : c.insert.new.self.keys ≡ insert_key g.P.PartialEq.eq c.args.set.now.keys c.in-Ok.permission = grind arith in
    take_good g.P.PartialEq.eq g.P.LogPermission.permission_named c.args.fault c.args.found c.in-Ok.permission c.args.set.now.keys c.insert.new.self.keys none c.in-Ok.is put d read ds

pub returns-in-Err-clause-ok : goal.returns-in-Err-clause-ok
returns-in-Err-clause-ok g c = λ d read ds.
    let none : is_some c.args.fault ≡ false = grind arith in
    take_bad g.P.PartialEq.eq g.P.LogPermission.permission_named c.args.fault c.args.found c.in-Err.fault c.args.set.now.keys none c.in-Err.is d read ds
