use Rattle.std.proofs.Common.{sym, ap, subst}
use Rattle.std.specs.Prelude.{string_bytes}
use Rattle.serde_json.specs.View.{view}
use Rattle.warg_c.specs.CheckpointTexts.{IsWrittenAs, signed_parts}
use Rattle.warg_c.proofs.CheckpointTextLemmas.{written-as}
use Rattle.warg_c.proofs.exports.checkpoint_texts.json_of.Goals as goal

pub returns-clause-ok : goal.returns-clause-ok
returns-clause-ok c =
    subst (λ text. IsWrittenAs (signed_parts c.args.signed.now) text) (sym (ap (λ v. v.items) c.into_bytes.ensures.value))
    (written-as (signed_parts c.args.signed.now) (view c.in-Ok.value) (string_bytes c.in_ok-text.text) c.in-Ok.ensures.written (c.in-Ok.ensures.back tt)
    c.in_ok-text.ensures.text c.in_ok-text.ensures.reads_back)
