-- The state of a file's bytes.
use Rattle.std.proofs.Common.{◌≡◌, ℕ, Bool, true, false, cond, List, refl, Result, Err}
use Rattle.std.specs.Str.{IsUtf8, is_utf8}
use Rattle.std.proofs.lemmas.Str.{IsUtf8-from_is_utf8, is_utf8-from_IsUtf8}
use Rattle.warg_protocol.specs.Json.{JsonTextError}
use Rattle.warg_saved_states.specs.declared.error.JsonTextError.TheVariants.{NotJson}
use Rattle.tool_questions.specs.Resumption.{read_state}

module _ {S : Type 0} (reads : List ℕ → Result S JsonTextError) (bytes : List ℕ) where
  pub text_is_read : IsUtf8 bytes → read_state reads bytes ≡ reads bytes
  text_is_read is = rw (is_utf8-from_IsUtf8 bytes is) refl

  no_text_at : (b : Bool) → is_utf8 bytes ≡ b → (IsUtf8 bytes → ⊥) → cond b (reads bytes) (Err NotJson) ≡ Err NotJson
  no_text_at true e never = absurd (never (IsUtf8-from_is_utf8 bytes e))
  no_text_at false e never = refl

  pub no_text_is_read : (IsUtf8 bytes → ⊥) → read_state reads bytes ≡ Err NotJson
  no_text_is_read never = no_text_at (is_utf8 bytes) refl never
