use Rattle.std.proofs.Common.{refl}
use Rattle.warg_saved_states.specs.WriteLaws.{after, nothing}
use Rattle.warg_operator_log.proofs.namespace.json.write_imported.Goals as goal

pub returns : goal.returns
returns c =
    let out = c.args.out.now in
    let a = after out _ _ _ _ _ (nothing out) c.in_ok-begin_object.ensures in
    let b = after out _ _ _ _ _ a c.in_ok-key.ensures in
    let d = after out _ _ _ _ _ b c.in_ok-begin_object-2.ensures in
    let e = after out _ _ _ _ _ d c.in_ok-key-2.ensures in
    let f = after out _ _ _ _ _ e c.in_ok-string.ensures in
    let h = after out _ _ _ _ _ f c.in_ok-end_object.ensures in
    let i = after out _ _ _ _ _ h c.in_ok-end_object-2.ensures in (_, refl, i)
