use Rattle.std.proofs.Common.{◌≡◌, map, string_bytes, take}
use Rattle.warg_audit.specs.Files.Texts.{all_lines}
use Rattle.warg_claims.specs.Verified.Claims.{claim_text}
use Rattle.tool_changes.proofs.claim_lines.claim_lines.Given as goal

-- the lines of the claims so far
abbrev pub invariant-loop-claim : goal.invariant-loop-claim
invariant-loop-claim l = string_bytes l.text ≡ all_lines (map claim_text (take l.claim-index l.claims))
