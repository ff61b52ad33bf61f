-- When a signature belongs to a message under a key.
use Rattle.std.specs.Prelude.{ℕ, Bool, ◌&&◌, List, ◌++◌, codes}
use Rattle.std.specs.Str.{bytes_eq}

-- both are named `stamp`, and the signature's bytes are the key's bytes and the message
abbrev pub belongs : (key_name key_bytes message name bytes : List ℕ) → Bool
belongs key_name key_bytes message name bytes =
    (bytes_eq key_name (codes "stamp") && bytes_eq name (codes "stamp")) && bytes_eq bytes (key_bytes ++ message)
