-- Questions as bytes: the key's text, the message, the signature's text, one behind the other.
use Rattle.std.specs.Prelude.{◌≡◌, ◌+◌, ◌≤◌, ℕ, List, ◌++◌, length, take, drop, Bool, true, Ok}
use Rattle.std.specs.Str.{IsUtf8}
use Rattle.warg_crypto.specs.Keys.{public_key_of, signature_of}
use Rattle.warg_crypto.specs.NamedBytes.{named_bytes_text}
use Rattle.warg_log_records.specs.declared.signature_check.SignatureCheck.{SignatureCheck}
use Rattle.warg_log_records.specs.Kinds.{SignatureRelation}
use Rattle.warg_c.specs.declared.question.Asked.{Asked}

abbrev pub key_part : Asked → List ℕ → List ℕ
key_part n bytes = take n.key_len bytes

abbrev pub message_part : Asked → List ℕ → List ℕ
message_part n bytes = take n.message_len (drop n.key_len bytes)

abbrev pub signature_part : Asked → List ℕ → List ℕ
signature_part n bytes = take n.signature_len (drop n.message_len (drop n.key_len bytes))

-- the lengths of three parts
abbrev pub lengths_of : List ℕ → List ℕ → List ℕ → Asked
lengths_of key message signature = record { key_len = length key; message_len = length message; signature_len = length signature }

-- the bytes, cut by these lengths, say the question
pub record Says (n : Asked) (bytes : List ℕ) (q : SignatureCheck) : Type 0 where
  pub fits : (n.key_len + n.message_len) + n.signature_len ≤ length bytes
  pub key_utf8 : IsUtf8 (key_part n bytes)
  pub key : public_key_of (key_part n bytes) ≡ Ok q.key
  pub message : q.message.items ≡ message_part n bytes
  pub signature_utf8 : IsUtf8 (signature_part n bytes)
  pub signature : signature_of (signature_part n bytes) ≡ Ok q.signature

-- they say none
abbrev pub SaysNone : Asked → List ℕ → Type 0
SaysNone n bytes = (q : SignatureCheck) → Says n bytes q → ⊥

-- the relation holds of what the bytes say, if that was said to belong together
abbrev pub HoldsOf : SignatureRelation → Bool → Asked → List ℕ → Type 0
HoldsOf b belongs n bytes = belongs ≡ true → (q : SignatureCheck) → Says n bytes q → b q.key q.message.items q.signature ≡ true

-- a question as bytes
abbrev pub question_text : SignatureCheck → List ℕ
question_text q = (named_bytes_text q.key ++ q.message.items) ++ named_bytes_text q.signature

-- the bytes are all of the question, and say it
pub record Spells (n : Asked) (bytes : List ℕ) (q : SignatureCheck) : Type 0 where
  pub text : bytes ≡ question_text q
  pub says : Says n bytes q
