-- What is read of a part of a text, or the text's fault.
use Rattle.std.specs.Prelude.{ℕ, ◌≡◌, ◌⊎◌, List, Some, None, Result, Ok, Err, MatchResult, refl}
use Rattle.std.proofs.Common.{inl, inr, sym, ap, ◌∙◌, subst}
use Rattle.serde_json.specs.Data.{Data}
use Rattle.serde_json.specs.Read.{read}
use Rattle.warg_crypto.specs.Json.Json.{Returns}
use Rattle.warg_crypto.specs.declared.json.error.JsonError.{JsonError}
use Rattle.warg_saved_states.specs.JsonText.{ReturnsOfText, in_text, of_json_in, or_fault}
use Rattle.warg_saved_states.specs.Next.{value_or_fault}
use Rattle.warg_saved_states.specs.declared.error.JsonTextError.{JsonTextError}
use Rattle.warg_saved_states.specs.declared.error.ReadFault.{ReadFault}
use Rattle.warg_saved_states.specs.declared.error.ReadFault.TheVariants as fault

-- what is read of the text's JSON is read of the text
pub of_whole : {Y : Type 0} (reads : Data → Result Y JsonError) (text : List ℕ) (d : Data) (w : Result Y JsonError) → read text ≡ Some d → reads d ≡ w → in_text reads text ≡ or_fault w
of_whole reads text d w is got = ap (of_json_in reads) is ∙ ap or_fault got

module _ {X Y : Type 0} (view : X → Y) (reads : Data → Result Y JsonError) (text : List ℕ) where
  abbrev Told : Result X JsonTextError → Type 0
  Told result = ReturnsOfText view result (in_text reads text)

  read_so : (s : Result X JsonError) (d : Data) → read text ≡ Some d → Returns view s (reads d) → Told (or_fault s)
  read_so (Ok x) d is got = of_whole reads text d (Ok (view x)) is got
  read_so (Err e) d is got = inr (of_whole reads text d (Err e) is got)

  fault_so : (e : ReadFault) → (e ≡ fault.NotJson → read text ≡ None) → Told (value_or_fault (Err e))
  fault_so fault.NotJson none = inr (ap (of_json_in reads) (none refl))
  fault_so fault.GivenUp none = inl refl
  fault_so fault.OutOfMemory none = inl refl

  -- the value or the fault is that of the text
  pub text_told : (r : Result (Result X JsonError) ReadFault) (result : Result X JsonTextError) → result ≡ value_or_fault r
      → MatchResult r (λ s. (d : Data) × (read text ≡ Some d) × Returns view s (reads d)) (λ e. e ≡ fault.NotJson → read text ≡ None) → Told result
  text_told (Ok s) result is h = subst Told (sym is) (read_so s h.0 h.1 h.2)
  text_told (Err e) result is h = subst Told (sym is) (fault_so e h)
