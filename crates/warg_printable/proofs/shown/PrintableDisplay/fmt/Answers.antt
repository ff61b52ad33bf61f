use Rattle.std.proofs.Common.{[], ◌++◌, sym, ap, ◌∙◌, append_assoc, append-nil, encode_utf8_all, rules}
use Rattle.std.proofs.Output.{has_written_styled_append, has_written_styled_nil, has_written_styled_of_eq}
use Rattle.std.proofs.lemmas.Str.{IsUtf8-past_char}
use Rattle.warg_printable.specs.Printable.{escaped, shown_char}
use Rattle.warg_printable.proofs.ShownLemmas.{escaped_empty, escaped_step}
use Rattle.warg_printable.proofs.shown.PrintableDisplay.fmt.Goals as goal

pub loop-c-init : goal.loop-c-init
loop-c-init g c = (
  search rules,
  λ flush. ([], has_written_styled_nil _ _ flush, ap (escaped c.args.self.now.spaces) c.chars-rest.ensures.rest),
)

pub loop-c-preserved : goal.loop-c-preserved
loop-c-preserved g c =
    let held = c.loop-c.invariant in
    let parts = c.in-Some.ensures.steps.0 in (
      IsUtf8-past_char _ _ c.in-Some.c held.0 parts,
      λ flush.
          let now = held.1 flush in (
            now.0 ++ encode_utf8_all (shown_char c.args.self.now.spaces c.in-Some.c),
            has_written_styled_append _ _ _ _ _ _ now.1 (search rules),
            append_assoc now.0 _ _ ∙ ap (λ l. now.0 ++ l) (escaped_step c.args.self.now.spaces _ _ c.in-Some.c held.0 parts) ∙ now.2,
          ),
    )

pub returns-clause-styled : goal.returns-clause-styled
returns-clause-styled g c = λ flush ok.
    let now = c.loop-c.invariant.1 flush in
    let none = escaped_empty c.args.self.now.spaces _ c.in_default.ensures.steps.0.0 in
    has_written_styled_of_eq _ _ _ _ _ (sym (ap (λ l. now.0 ++ l) none ∙ append-nil now.0) ∙ now.2) now.1

pub returns-clause-writes : goal.returns-clause-writes
returns-clause-writes g c = λ plain ok.
    let styled = returns-clause-styled g c plain.flush ok in
    record { wrote = styled.wrote; plain = record { bare = rw styled.spec plain.bare; flush = styled.flush } }
