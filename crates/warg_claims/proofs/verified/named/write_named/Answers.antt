use Rattle.std.proofs.Common.{rules}
use Rattle.std.proofs.Output.{has_written_styled_append, has_written_styled_of_eq}
use Rattle.warg_claims.proofs.VerifiedLemmas.SymbolLemmas.{named_printed}
use Rattle.warg_claims.proofs.verified.named.write_named.Goals as goal

pub returns-clause-styled : goal.returns-clause-styled
returns-clause-styled g c = λ flush ok.
    let name = c.fmt.ensures.styled flush (search rules) in
    let colon = c.write_str.ensures.styled name.flush (search rules) in
    let shown = c.write_base64.ensures.styled colon.flush ok in
    has_written_styled_of_eq _ _ _ _ _ (named_printed c.args.name.now c.args.bytes.now c.utf8.name c.byte_range.ensures)
    (has_written_styled_append _ _ _ _ _ _ name (has_written_styled_append _ _ _ _ _ _ colon shown))

pub returns-clause-writes : goal.returns-clause-writes
returns-clause-writes g c = λ plain ok.
    let styled = returns-clause-styled g c plain.flush ok in
    record { wrote = styled.wrote; plain = record { bare = rw styled.spec plain.bare; flush = styled.flush } }
