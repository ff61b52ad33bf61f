use Rattle.std.proofs.Common.{rules, ◌≡◌, ◌++◌, sym, subst}
use Rattle.warg_registry.specs.PrefixEncodings.{IsHash, map_leaf_encoding_of}
use Rattle.warg_transparency.specs.MapLeaves.{IsLeafEncoding}
use Rattle.warg_transparency.proofs.Encodings.{is_encoding}
use Rattle.warg_transparency.proofs.encode.map_leaf_bytes.Goals as goal

pub returns-clause-reads_back : goal.returns-clause-reads_back
returns-clause-reads_back c =
    let is : IsHash c.args.leaf.now.record_id.hash = subst IsHash c.from.ensures c.put_hash.ensures.is_hash in
    let value : c.copy_from_slice.new.self ++ c.put_hash.new.place ≡ map_leaf_encoding_of c.args.leaf.now = search rules in
    subst IsLeafEncoding (sym value) (is_encoding c.args.leaf.now is)

pub returns-clause-is_hash : goal.returns-clause-is_hash
returns-clause-is_hash c = subst IsHash c.from.ensures c.put_hash.ensures.is_hash
