use Rattle.std.proofs.Common.{◌≡◌, sym, subst}
use Rattle.std.specs.Prelude.{IfSome, string_bytes}
use Rattle.warg_c.proofs.Sentences.{line-said}
use Rattle.warg_c.proofs.error_text.sentence_of.Goals as goal

pub returns : goal.returns
returns g c =
    let printed = g.E.Display.output c.args.error.now in
    line-said string_bytes c.args.name.now c.as_str.result.now printed c.line_of.result (subst (λ l. IfSome printed (λ said. l ≡ said)) (sym c.as_str.ensures.value) c.in_ok-sentence.ensures.ok) c.line_of.ensures
