use Rattle.std.proofs.Common.{[], ap, sym, ◌∙◌}
use Rattle.warg_crypto.proofs.laws.bytes_and_hash.Goals as goal

pub returns-clause-bytes : goal.returns-clause-bytes
returns-clause-bytes g c = c.in_ok-visit.ensures.ok [] c.new-bytes.ensures.items

pub returns-clause-hash : goal.returns-clause-hash
returns-clause-hash g c =
    c.of.ensures ∙ ap g.D.SupportedDigest.digest_of (sym (c.in_ok-visit.ensures.ok [] c.new-bytes.ensures.items))
