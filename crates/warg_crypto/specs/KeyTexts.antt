-- The text of a key's id: its bytes, however they are held.
use Rattle.std.specs.Prelude.{ℕ, List}
use Rattle.std.specs.String.{string_bytes}
use Rattle.std.specs.Arc.{arc_str_bytes}
use Rattle.warg_crypto.specs.declared.signing.key.KeyText.{KeyText}
use Rattle.warg_crypto.specs.declared.signing.key.KeyText.TheVariants as text

-- the bytes of the text, its own or one that copies share
abbrev pub key_text_bytes : KeyText → List ℕ
key_text_bytes (text.Own s) = string_bytes s
key_text_bytes (text.Shared s) = arc_str_bytes s
