use Rattle.std.proofs.Common.{sym, ap, length, ◌∙◌}
use Rattle.warg_crypto.proofs.JsonLemmas.JsonTextLaws.{hash_reads_back}
use Rattle.warg_package_log.proofs.release.saved.hash_reads_back.Goals as goal

pub returns : goal.returns
returns c = λ d is.
    hash_reads_back c.args.hash.now d
    (record { len = ap length (sym c.bytes-bytes.ensures.value) ∙ c.bytes-bytes.ensures.len; bytes = c.bytes-bytes.ensures.are_bytes }) is
