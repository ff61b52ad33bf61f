-- What follows of what was read of a text.
use Rattle.std.specs.Prelude.{ℕ, ◌≡◌, ◌⊎◌, List, Option, Some, None, Result, Ok, Err}
use Rattle.std.proofs.Common.{ap, ◌∙◌, inl, inr}
use Rattle.serde_json.specs.Data.{Data}
use Rattle.serde_json.specs.Read.{read}
use Rattle.warg_crypto.specs.declared.json.error.JsonError.{JsonError}
use Rattle.warg_crypto.specs.declared.json.error.JsonError.TheVariants as json
use Rattle.warg_crypto.specs.Json.Json.{◌>>=◌, json_result}
use Rattle.warg_saved_states.specs.declared.error.JsonTextError.{JsonTextError}
use Rattle.warg_saved_states.specs.declared.error.JsonTextError.TheVariants.{OutOfMemory}
use Rattle.warg_saved_states.specs.JsonText.{in_text, of_json_in, or_fault, text_fault}

module _ {A : Type 0} (reads : Data → Result A JsonError) where
  -- of a text whose JSON is d, what is read of d
  pub of_value : (text : List ℕ) (d : Data) → in_text json_result text ≡ Ok d → in_text reads text ≡ or_fault (reads d)
  of_value text d e = by (read text) e
    where
      by : (o : Option Data) → of_json_in json_result o ≡ Ok d → of_json_in reads o ≡ or_fault (reads d)
      by None h = absurd cc
      by (Some c) h = ap (λ r. of_json_in reads (dropped r)) h
        where
          dropped : Result Data JsonTextError → Option Data
          dropped (Ok x) = Some x
          dropped (Err f) = None

  -- where the text's JSON is read, so is the text
  pub of_json_text : (text : List ℕ) (d : Data) (x : A) → read text ≡ Some d → reads d ≡ Ok x
      → in_text reads text ≡ Ok x
  of_json_text text d x is read_so = ap (of_json_in reads) is ∙ ap or_fault read_so

  module _ {B : Type 0} (f : A → Result B JsonError) where
    -- what comes of what was read
    pub and_then : (text : List ℕ) (x : A) → in_text reads text ≡ Ok x
        → in_text (λ d. reads d >>= f) text ≡ or_fault (f x)
    and_then text x e = by (read text) e
      where
        by_read : (r : Result A JsonError) → or_fault r ≡ Ok x → or_fault (r >>= f) ≡ or_fault (f x)
        by_read (Ok y) h = ap (λ z. or_fault (f z)) (same h)
          where
            same : or_fault (Ok y) ≡ Ok x → y ≡ x
            same h = cc
        by_read (Err g) h = absurd cc

        by : (o : Option Data) → of_json_in reads o ≡ Ok x → of_json_in (λ d. reads d >>= f) o ≡ or_fault (f x)
        by None h = absurd cc
        by (Some d) h = by_read (reads d) h

    -- a fault of what comes of it
    pub or_fault_then : (text : List ℕ) (x : A) (e : JsonError) → in_text reads text ≡ Ok x
        → (e ≡ json.OutOfMemory) ⊎ (f x ≡ Err e)
        → (text_fault e ≡ OutOfMemory) ⊎ (in_text (λ d. reads d >>= f) text ≡ Err (text_fault e))
    or_fault_then text x e is (inl none) = inl (ap text_fault none)
    or_fault_then text x e is (inr fault) = inr (and_then text x is ∙ ap or_fault fault)
