use Rattle.std.proofs.Common.{length, string_bytes}
use Rattle.warg_protocol.specs.Logs.{envelopes}
use Rattle.tool_questions.specs.Questions.{AreWithin}
use Rattle.tool_questions.proofs.ChainLemmas.{AreFirstLinks}
use Rattle.tool_questions.proofs.chain.chain_lines.Given as goal

-- the links that are left are of the log's records, and the lines so far, before theirs, are those of all
abbrev pub invariant-loop-link : goal.invariant-loop-link
invariant-loop-link g l =
    AreWithin (length (envelopes l.records)) l.rest
    × AreFirstLinks g.L.ToolLog.says_words (envelopes l.records) l.key_id l.rest l.links (string_bytes l.text)

abbrev pub decreases-loop-link : goal.decreases-loop-link
decreases-loop-link g l = length l.rest
