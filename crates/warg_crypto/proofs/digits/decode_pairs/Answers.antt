use Rattle.std.proofs.Common.{arith}
use Rattle.warg_crypto.proofs.DigitLemmas.{read_step, read_tells, read_spells}
use Rattle.warg_crypto.proofs.digits.decode_pairs.Goals as goal

pub bytes-preserved : goal.bytes-preserved
bytes-preserved c =
    read_step c.bytes.wrong c.args.digits.now c.bytes.bytes c.bytes.i _ _ (omega arith) (omega arith)
    c.digit_value-high.ensures c.digit_value-low.ensures c.bytes.invariant

pub returns-clause-spelled : goal.returns-clause-spelled
returns-clause-spelled c = read_tells c.bytes.wrong c.args.digits.now c.bytes.bytes c.bytes.i (omega arith) (omega arith) c.bytes.invariant

pub returns-clause-bytes : goal.returns-clause-bytes
returns-clause-bytes c = read_spells c.bytes.wrong c.args.digits.now c.bytes.bytes c.bytes.i (omega arith) (omega arith) c.bytes.invariant
