use Rattle.std.proofs.Common.{Err}
use Rattle.warg_audit.proofs.FilesLemmas.UnusableLemmas.{always_error}
use Rattle.tool_checkpoints.proofs.read_words.value_of.Goals as goal

pub returns-clause-refused : goal.returns-clause-refused
returns-clause-refused g c =
    let said : (error : g.row.T-Err.Denot) × g.T.FromStr.from_str_gives c.args.word.now (Err error) = (c.in-Err.field-0, c.in-Err.ensures.value) in
    always_error (λ printed. (error : g.row.T-Err.Denot) × g.T.FromStr.from_str_gives c.args.word.now (Err error)) c.word_error.result (λ printed. said)
