use Rattle.std.proofs.Common.{◌≡◌, ◌%◌, ◌^◌, take}
use Rattle.warg_modular.specs.BigEndian.{big_endian}
use Rattle.warg_modular.specs.Value.{value}
use Rattle.warg_modular.proofs.words.from_be_bytes.Given as goal

abbrev pub invariant-loop-b : goal.invariant-loop-b
invariant-loop-b l = value l.a ≡ big_endian (take l.b-index l.bytes) % 2 ^ 256
