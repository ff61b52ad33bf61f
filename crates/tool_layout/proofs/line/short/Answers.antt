use Rattle.std.proofs.Common.{sym}
use Rattle.tool_layout.proofs.DigestLemmas.{digest_boundary}
use Rattle.tool_layout.proofs.line.short.Goals as goal

pub range-requires-clause-end_boundary : goal.range-requires-clause-end_boundary
range-requires-clause-end_boundary c = digest_boundary c.args.text.now (sym c.if-is_digest.ensures)
