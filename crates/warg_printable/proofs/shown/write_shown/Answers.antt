use Rattle.std.proofs.Common.{sym, ◌∙◌}
use Rattle.std.proofs.Output.{has_written_of_eq, has_written_styled_of_eq}
use Rattle.warg_printable.proofs.ShownLemmas.{shown-number}
use Rattle.warg_printable.proofs.shown.write_shown.Goals as goal

pub returns-then-is_numbered-clause-writes : goal.returns-then-is_numbered-clause-writes
returns-then-is_numbered-clause-writes g c = λ plain ok.
    has_written_of_eq _ _ _ _ _ (shown-number c.args.spaces c.args.c (sym c.is_numbered.ensures ∙ c.if-is_numbered.true)) (c.write_number.ensures.writes plain ok)

pub returns-then-is_numbered-clause-styled : goal.returns-then-is_numbered-clause-styled
returns-then-is_numbered-clause-styled g c = λ flush ok.
    has_written_styled_of_eq _ _ _ _ _ (shown-number c.args.spaces c.args.c (sym c.is_numbered.ensures ∙ c.if-is_numbered.true)) (c.write_number.ensures.styled flush ok)
