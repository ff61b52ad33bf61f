-- What is claimed of a signature: that it belongs to a message under a key.
use Rattle.std.specs.Prelude.{ℕ, Bool, true, ◌&&◌, List, ◌∷◌, ◌++◌}
use Rattle.std.specs.List.{list_any}
use Rattle.std.specs.Str.{IsUtf8, NonePass, bytes_eq, chars}
use Rattle.hex.specs.Hex.{encode_lower}
use Rattle.warg_crypto.specs.NamedBytes.{NamedBytes, same_named_bytes, named_bytes_text}
use Rattle.warg_printable.specs.Printable.{is_escaped, printable_word}

-- a key, a message, and the signature that is said to belong to it
pub record ClaimData : Type 0 where
  pub key : NamedBytes
  pub message : List ℕ
  pub signature : NamedBytes

-- whether two claims are the same: in key, message and signature
abbrev pub same_claim : ClaimData → ClaimData → Bool
same_claim a b = same_named_bytes a.key b.key && (bytes_eq a.message b.message && same_named_bytes a.signature b.signature)

-- the text of a key or of a signature as a printed word
abbrev pub named_word : NamedBytes → List ℕ
named_word it = printable_word (named_bytes_text it)

-- the line of a claim: the key's word, the message in hex, the signature's word, a space between
abbrev pub claim_text : ClaimData → List ℕ
claim_text c = named_word c.key ++ 32 ∷ encode_lower c.message ++ 32 ∷ named_word c.signature

-- no character of its text is printed otherwise than as itself: no hidden one, no space and no backslash
abbrev pub IsPlain : NamedBytes → Type 0
IsPlain it = IsUtf8 it.name × NonePass (is_escaped true) (chars (named_bytes_text it))

-- whether the triple is one of the claims
abbrev pub is_claimed : List ClaimData → NamedBytes → List ℕ → NamedBytes → Bool
is_claimed claims key message signature = list_any (same_claim (record { key = key; message = message; signature = signature })) claims
