use Rattle.std.proofs.Common.{refl}
use Rattle.warg_crypto.proofs.JsonLemmas.JsonTextLaws.{key_reads_back}
use Rattle.warg_saved_states.proofs.value.PublicKeySavedValue.can_save.Goals as goal

pub returns-clause-ok : goal.returns-clause-ok
returns-clause-ok c = (_, refl)

pub returns-clause-back : goal.returns-clause-back
returns-clause-back c = λ none d is.
    key_reads_back c.args.self.now d (record { name = c.algorithm-name.ensures.named; bytes = c.bytes-bytes.ensures.are_bytes }) is
