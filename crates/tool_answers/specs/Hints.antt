-- Schemes that signatures may be of.
use Rattle.std.specs.Prelude.{ℕ, Bool, not, ◌||◌, List, codes}
use Rattle.std.specs.Str.{bytes_eq}
use Rattle.warg_crypto.specs.NamedBytes.{NamedBytes}

-- the name of the key stands for no scheme that is known here
abbrev pub of_no_known_scheme : NamedBytes → List ℕ → NamedBytes → Bool
of_no_known_scheme key message signature = not (bytes_eq key.name (codes "toy") || bytes_eq key.name (codes "ecdsa-p256"))
