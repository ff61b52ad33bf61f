use Rattle.std.proofs.Common.{◌≡◌, Ok, ◌∷◌, [], ◌++◌, List, length, sym, ap, subst, ◌∙◌, append_assoc, arith}
use Rattle.std.proofs.lemmas.Result.{err_from_is_err_and}
use Rattle.std.specs.Vec.Iter.{into_iter_items}
use Rattle.warg_envelope.specs.Faults.{NamesFault, fault_of}
use Rattle.warg_log_records.specs.RecordReading.{each, permission_in}
use Rattle.warg_log_records.proofs.Each.{each-grows, each-stops}
use Rattle.warg_log_records.proofs.reading.read_permissions.Goals as goal

pub returns-in_err-permission : goal.returns-in_err-permission
returns-in_err-permission g c =
    let p = err_from_is_err_and c.from_residual-in_err-permission.result c.from_residual-in_err-permission.ensures.1 in
    let steps : into_iter_items c.loop-number.number-iterator ≡ c.in-Some.number ∷ into_iter_items c.next.new.self = c.in-Some.ensures.steps.0 in
    let told : NamesFault (permission_in g.P.LogPermission.permission_of c.in-Some.number) (fault_of c.in_err-permission.field-0.0) = grind (arith, c.in_err-permission.ensures) in
    let f = permission_in g.P.LogPermission.permission_of in
    rw (p.1, p.2) (subst (λ (l : List _). NamesFault (each f l) (fault_of c.in_err-permission.field-0.0))
    (ap (λ r. c.loop-number.yielded ++ r) (sym steps) ∙ c.loop-number.invariant.1 ∙ c.into_iter-number-iterator.ensures.into_iter_gives.0)
    (each-stops f c.loop-number.yielded c.loop-number.permissions.items c.in-Some.number (into_iter_items c.next.new.self) (fault_of c.in_err-permission.field-0.0) c.loop-number.invariant.0 told))

pub loop-number-preserved : goal.loop-number-preserved
loop-number-preserved g c =
    let at = c.loop-number in
    let m = c.in-Some.number in
    let steps : into_iter_items at.number-iterator ≡ m ∷ into_iter_items c.next.new.self = c.in-Some.ensures.steps.0 in
    let known : permission_in g.P.LogPermission.permission_of m ≡ Ok c.in_ok-permission.permission = grind (arith, c.in_ok-permission.ensures) in
    let pushed : c.push.new.self.items ≡ at.permissions.items ++ c.in_ok-permission.permission ∷ [] = c.in_ok-push.ensures.items in (
      each-grows (permission_in g.P.LogPermission.permission_of) at.yielded at.permissions.items m c.in_ok-permission.permission at.invariant.0 known ∙ ap Ok (sym pushed),
      append_assoc at.yielded (m ∷ []) _ ∙ rw (← steps) at.invariant.1,
      let was = at.invariant.2 in
          let gone = c.in-Some.ensures.steps.1 in
          let short = ap length steps in
          omega arith,
    )
