-- The signature scheme `ecdsa-p256`: ECDSA on P-256 with SHA-256 (FIPS 186-5, 6.4.2).
use Rattle.std.specs.Prelude.{ℕ, Bool, ◌&&◌, List, codes}
use Rattle.std.specs.Str.{bytes_eq}
use Rattle.warg_crypto.specs.NamedBytes.{NamedBytes}
use Rattle.warg_p256.specs.Verified.{is_verified}

-- both are named `ecdsa-p256`, and their bytes are a key and its signature of the message
abbrev pub p256_belongs : NamedBytes → List ℕ → NamedBytes → Bool
p256_belongs key message signature =
    (bytes_eq key.name (codes "ecdsa-p256") && bytes_eq signature.name (codes "ecdsa-p256"))
    && is_verified key.bytes message signature.bytes
