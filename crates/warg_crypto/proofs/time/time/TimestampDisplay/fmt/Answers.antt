use Rattle.std.proofs.Common.{rules}
use Rattle.std.proofs.Output.{has_written_styled_append, has_written_styled_of_eq}
use Rattle.warg_crypto.proofs.time.time.TimestampDisplay.fmt.Goals as goal

pub returns-clause-styled : goal.returns-clause-styled
returns-clause-styled g c = λ flush ok.
    let seconds = c.write_str.ensures.styled flush (search rules) in
    let dot = c.write_str-2.ensures.styled seconds.flush (search rules) in
    let nanos = c.write_str-3.ensures.styled dot.flush ok in
    has_written_styled_of_eq _ _ _ _ _ (search rules)
    (has_written_styled_append _ _ _ _ _ _ seconds (has_written_styled_append _ _ _ _ _ _ dot nanos))
