-- What a hasher is fed of a key or a signature.
use Rattle.std.specs.Prelude.{ℕ, List, ◌++◌}
use Rattle.std.specs.Hash as fed
use Rattle.warg_crypto.specs.NamedBytes.{NamedBytes}

-- the name, then the bytes behind their number
abbrev pub named_bytes_hash_input : NamedBytes → List (List ℕ)
named_bytes_hash_input t = fed.str t.name ++ fed.slice fed.u8 t.bytes
