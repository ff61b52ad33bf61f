use Rattle.std.proofs.Common.{rules}
use Rattle.std.proofs.Output.{has_written_styled_append, has_written_styled_of_eq}
use Rattle.warg_crypto.proofs.signing.algorithm_bytes.AlgorithmBytesDisplay.fmt.Goals as goal

pub returns-clause-styled : goal.returns-clause-styled
returns-clause-styled g c = λ flush ok.
    let name = c.write_str.ensures.styled flush (search rules) in
    let colon = c.write_str-2.ensures.styled name.flush (search rules) in
    let shown = c.write_base64.ensures.styled colon.flush ok in
    has_written_styled_of_eq _ _ _ _ _ (search rules)
    (has_written_styled_append _ _ _ _ _ _ name (has_written_styled_append _ _ _ _ _ _ colon shown))
