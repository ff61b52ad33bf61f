-- What was written as a member reads back.
use Rattle.std.specs.Prelude.{◌≡◌, Option, Some, None, Result, Ok, Err, refl}
use Rattle.std.proofs.Common.{sym, ap, ◌∙◌, subst}
use Rattle.serde_json.specs.Data.{Data, null, boolean, number, string, array, object}
use Rattle.warg_crypto.specs.declared.json.error.JsonError.{JsonError}
use Rattle.warg_crypto.specs.Json.Json.{ReadsBack, json_result}
use Rattle.warg_crypto.specs.Json.Members.{OptionReadsBack, option_json, optional}
use Rattle.warg_crypto.specs.Json.JsonLaws.{ok_same, bind_ok}

-- what reads back as an equal value reads as the value
pub read_again : {A : Type 0} (reads : Data → Result A JsonError) (x : A) (d : Data)
    → ReadsBack reads (λ a b. a ≡ b) x d → reads d ≡ Ok x
read_again reads x d r = r.is ∙ ap json_result (sym r.equal)

module _ {A : Type 0} (writes : A → Result Data JsonError) (reads : Data → Result A JsonError) (is_written : A → Type 0) (same : A → A → Type 0)
    (back : (x : A) (d : Data) → is_written x → writes x ≡ Ok d → ReadsBack reads same x d) (e : JsonError) (no_null : reads null ≡ Err e) where
  some_read_back : (d : Data) (x : A) → reads d ≡ Ok x → optional reads (Some d) ≡ Ok (Some x)
  some_read_back null x h = cc (no_null, h)
  some_read_back (boolean b) x h = rw h refl
  some_read_back (number n) x h = rw h refl
  some_read_back (string t) x h = rw h refl
  some_read_back (array ds) x h = rw h refl
  some_read_back (object ms) x h = rw h refl

  -- where each value reads back and null is none of them, so does a value that may be missing
  pub optional_reads_back : (o : Option A) (d : Option Data) → ((x : A) → o ≡ Some x → is_written x)
      → option_json writes o ≡ Ok d → OptionReadsBack reads same o d
  optional_reads_back None d own is = record { again = None; is = subst (λ (x : Option Data). optional reads x ≡ Ok None) (ok_same _ _ is) refl; equal = tt }
  optional_reads_back (Some x) d own is =
      let w = bind_ok (writes x) _ d is in
      let r = back x w.0 (own x refl) w.1 in
      record { again = Some r.again; is = subst (λ (o : Option Data). optional reads o ≡ Ok (Some r.again)) (ok_same _ _ w.2) (some_read_back w.0 r.again r.is); equal = r.equal }
