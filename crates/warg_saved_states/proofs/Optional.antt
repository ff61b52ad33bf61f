-- Values that may be missing, and are plain data as they are.
use Rattle.std.specs.Prelude.{◌≡◌, ◌↔◌, Bool, true, false, IsTrue, List, [], ◌∷◌, length, Option, Some, None, Result, Ok, Err, refl}
use Rattle.std.specs.Option.{option_map}
use Rattle.std.proofs.Common.{ap, sym, ◌∙◌, suc, arith, true≢false}
use Rattle.warg_crypto.specs.declared.json.error.JsonError.{JsonError}
use Rattle.warg_crypto.specs.Json.Json.{ReturnsOrNoMemory}
use Rattle.warg_crypto.specs.Json.Pairs.{plain_pairs}
use Rattle.warg_saved_states.specs.Fit.{is_nil}

pub same_option : {A : Type 0} (o : Option A) → option_map (λ x. x) o ≡ o
same_option None = refl
same_option (Some x) = refl

pub gives_itself : {A : Type 0} (r : Result (Option A) JsonError) (want : Result (Option A) JsonError) → ReturnsOrNoMemory (option_map (λ x. x)) r want → ReturnsOrNoMemory (λ x. x) r want
gives_itself (Ok o) want h = h ∙ ap Ok (same_option o)
gives_itself (Err e) want h = h

pub same_pairs : {K A : Type 0} (es : List (K × A)) → plain_pairs (λ k. k) (λ x. x) es ≡ es
same_pairs [] = refl
same_pairs (e ∷ es) = ap (λ l. e ∷ l) (same_pairs es)

-- a map whose keys and values are plain data as they are
pub gives_entries : {K A M : Type 0} (entries : M → List (K × A)) (r : Result M JsonError) (want : Result (List (K × A)) JsonError)
    → ReturnsOrNoMemory (λ m. plain_pairs (λ k. k) (λ x. x) (entries m)) r want → ReturnsOrNoMemory entries r want
gives_entries entries (Ok m) want h = h ∙ ap Ok (same_pairs (entries m))
gives_entries entries (Err e) want h = h

pub empty_pairs : {K X A B : Type 0} (f : K → A) (g : X → B) (b : Bool) (es : List (K × X)) → IsTrue b ↔ (length es ≡ 0) → b ≡ is_nil (plain_pairs f g es)
empty_pairs f g true [] h = refl
empty_pairs f g false [] h = absurd (true≢false (sym (h.1 refl)))
empty_pairs f g true (e ∷ es) h = absurd (no_length (h.0 refl))
  where
    no_length : suc (length es) ≡ 0 → ⊥
    no_length e = omega arith
empty_pairs f g false (e ∷ es) h = refl
