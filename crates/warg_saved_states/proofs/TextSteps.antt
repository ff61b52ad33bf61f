-- What a call that put a member as text says of the members.
use Rattle.std.proofs.Common.{◌≡◌, ◌⊎◌, inl, inr, ℕ, List, String, Global, string_bytes, refl, sym, ap, ◌∙◌}
use Rattle.std.specs.Prelude.{Result, Ok, Err, IfOk, IfErr}
use Rattle.serde_json.specs.Data.{Data, Members, object}
use Rattle.serde_json.specs.Written.{compact_text}
use Rattle.warg_crypto.specs.declared.json.error.JsonError.{JsonError}
use Rattle.warg_crypto.specs.declared.json.error.JsonError.TheVariants.{OutOfMemory}
use Rattle.warg_crypto.specs.Json.Json.{ReturnsOrNoMemory}
use Rattle.warg_crypto.specs.Json.JsonLaws.{ok_same}
use Rattle.warg_saved_states.specs.Texts.{text_of, texts_in, texts_of}

-- the members that were written, whose texts these are
pub record Written (r : Result Members JsonError) (texts : List (List ℕ × List ℕ)) : Type 0 where
  pub members : Members
  pub is : r ≡ Ok members
  pub are : texts ≡ texts_of members

pub written : (r : Result Members JsonError) (texts : List (List ℕ × List ℕ)) → texts_in r ≡ Ok texts → Written r texts
written (Ok ms) texts e = record { members = ms; is = refl; are = sym (ok_same (texts_of ms) texts e) }
written (Err d) texts e = cc e

-- the fault of the members is that of the texts
fault_of : (r : Result Members JsonError) (e : JsonError) → texts_in r ≡ Err e → r ≡ Err e
fault_of (Ok ms) e h = cc h
fault_of (Err d) e h = cc

pub gives_fault : (r : Result Members JsonError) (want : Result Data JsonError) (e : JsonError)
    → (e ≡ OutOfMemory) ⊎ (texts_in r ≡ Err e) → (r ≡ Err e → want ≡ Err e) → (e ≡ OutOfMemory) ⊎ (text_of want ≡ Err e)
gives_fault r want e (inl out) whole = inl out
gives_fault r want e (inr h) whole = inr (ap text_of (whole (fault_of r e h)))

-- the text that was joined is that of the object
pub gives_text : (r : Result (String Global) JsonError) (want : Result Data JsonError) (texts : List (List ℕ × List ℕ)) (ms : Members)
    → IfOk r (λ s. (ms : Members) → texts ≡ texts_of ms → string_bytes s ≡ compact_text (object ms)) → IfErr r (λ e. e ≡ OutOfMemory)
    → want ≡ Ok (object ms) → texts ≡ texts_of ms → ReturnsOrNoMemory string_bytes r (text_of want)
gives_text (Ok s) want texts ms ok err is are = ap text_of is ∙ ap Ok (sym (ok ms are))
gives_text (Err e) want texts ms ok err is are = inl err
