use Rattle.std.proofs.Common.{◌≡◌, ◌≤◌, ◌++◌, take}
use Rattle.warg_crypto.specs.Prefix.{unsigned_of}
use Rattle.warg_crypto.proofs.prefix.unsigned_bytes.Given as goal

abbrev pub invariant-groups : goal.invariant-groups
invariant-groups l = record { inside : l.len ≤ 10; so_far : take l.len l.buffer ++ unsigned_of l.rest ≡ unsigned_of l.number }

abbrev pub decreases-groups : goal.decreases-groups
decreases-groups l = l.rest
