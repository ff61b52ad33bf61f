use Rattle.std.proofs.Common.{◌≡◌, codes, refl}
use Rattle.std.specs.Prelude.{Ok}
use Rattle.serde_json.specs.Data.{no_members, member, object}
use Rattle.warg_saved_states.specs.WriteLaws.{after, after_all, nothing}
use Rattle.warg_operator_log.specs.NamespaceMap.{namespace_view}
use Rattle.warg_operator_log.specs.NamespaceJson.{saved_namespace_json}
use Rattle.warg_operator_log.proofs.namespace.json.write_saved.Goals as goal

pub returns : goal.returns
returns c =
    let out = c.args.out.now in
    let a = after out _ _ _ _ _ (nothing out) c.in_ok-begin_object.ensures in
    let b = after out _ _ _ _ _ a c.in_ok-key.ensures in
    let state = c.in_ok-write_namespace.ensures in
    let d = after_all out c.key.new.self c.write_namespace.new.out _ _ b state.2 in
    let e = after out _ _ _ _ _ d c.in_ok-end_object.ensures in
    let whole : saved_namespace_json (namespace_view c.args.state.now) ≡ Ok (object (member (codes "state") state.0 no_members)) = rw state.1 refl in (
      object (member (codes "state") state.0 no_members),
      whole,
      e,
    )
