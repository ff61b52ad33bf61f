use Rattle.std.proofs.Common.{◌++◌, refl, ap, ◌∙◌, codes}
use Rattle.serde_json.specs.Data.{no_members, member, object, string}
use Rattle.warg_saved_states.specs.Writes.{tokens_of}
use Rattle.warg_saved_states.specs.WriteLaws.{after, nothing}
use Rattle.warg_package_log.proofs.release.saved.write_released.Goals as goal

pub returns : goal.returns
returns c =
    let out = c.args.out.now in
    let a = after out _ _ _ _ _ (nothing out) c.in_ok-begin_object.ensures in
    let b = after out _ _ _ _ _ a c.in_ok-key.ensures in
    let d = after out _ _ _ _ _ b c.in_ok-string.ensures in
    let e = after out _ _ _ _ _ d c.in_ok-key-2.ensures in
    let f = after out _ _ _ _ _ e c.in_ok-string-2.ensures in
    let h = after out _ _ _ _ _ f c.in_ok-end_object.ensures in (
      _,
      refl,
      (h.0, h.1 ∙ ap (λ text. out.tokens ++ tokens_of (object (member (codes "content") (string text) (member (codes "status") (string (codes "released")) no_members)))) c.write_text.ensures),
    )
