-- The other hash of a key.
use Rattle.std.specs.Prelude.{ℕ}
use Rattle.std.specs.List.{fold}
use Rattle.std.specs.Hash.{HashWrites}
use Rattle.std.specs.Hash.DefaultHasher as sip

-- what SipHash-1-3 with no key gives of what a key writes
unfoldable pub far_hash : HashWrites → ℕ
far_hash writes = sip.finish (fold sip.write sip.initial writes)
