-- What is read of the members that were asked for is what is read of all.
use Rattle.std.specs.Prelude.{◌≡◌, ◌^◌, ℕ, suc, List, true, Option, Some, None, Result, Ok, Err, codes, option_and_then}
use mathlib.Core.Path.{refl, sym, ap, subst}
use Rattle.serde_json.specs.Data.{Data, Members}
use Rattle.serde_json.specs.Find.{as_object, as_u64, get_member}
use Rattle.warg_crypto.specs.Json.Json.{◌>>=◌, member_in, some_or, text_in, json_result}
use Rattle.warg_crypto.specs.Json.JsonTexts.{key_id_in, signature_in}
use Rattle.warg_crypto.specs.Json.Members.{SameOptions}
use Rattle.warg_crypto.specs.Json.Numbers.{in_range, number_in}
use Rattle.warg_crypto.specs.NamedBytes.{NamedBytes}
use Rattle.warg_crypto.specs.declared.json.error.JsonError.{JsonError}
use Rattle.warg_crypto.specs.declared.json.error.JsonError.TheVariants as fault
use Rattle.warg_envelope.specs.EnvelopeData.{EnvelopeData}
use Rattle.warg_envelope.specs.EnvelopeJson.{body_in, bytes_in, published_in}
use Rattle.warg_envelope.specs.declared.proto_envelope.body.PublishedProtoEnvelopeBody.{PublishedProtoEnvelopeBody}
use Rattle.warg_saved_states.specs.Asked.{AreAskedOf, IsAskedOf, is_asked}

-- equal first steps with equal second ones are equal
pub bind-same : {A B : Type 0} (r s : Result A JsonError) (f g : A → Result B JsonError) → r ≡ s → ((x : A) → f x ≡ g x) → r >>= f ≡ s >>= g
bind-same (Ok x) s f g is same = subst (λ t. f x ≡ t >>= g) is (same x)
bind-same (Err e) s f g is same = subst (λ t. Err e ≡ t >>= g) is refl

module _ (names : List (List ℕ)) (n : ℕ) where
  module _ (name : List ℕ) (asked : is_asked names name ≡ true) {A : Type 0} (reads reads' : Data → Result A JsonError) (same : (d v : Data) → IsAskedOf names n d v → reads d ≡ reads' v) where
    found : (o p : Option Data) → SameOptions (λ d v. IsAskedOf names n d v) o p → some_or fault.Missing o >>= reads ≡ some_or fault.Missing p >>= reads'
    found None None s = refl
    found (Some d) (Some v) s = same d v s
    found None (Some v) s = absurd s
    found (Some d) None s = absurd s

    inside : (o p : Option Members) → SameOptions (AreAskedOf names (suc n)) o p
        → (some_or fault.WrongType o >>= λ ms. some_or fault.Missing (get_member name ms)) >>= reads ≡ (some_or fault.WrongType p >>= λ ms. some_or fault.Missing (get_member name ms)) >>= reads'
    inside None None s = refl
    inside (Some all) (Some few) s = found (get_member name all) (get_member name few) (s.same name asked)
    inside None (Some few) s = absurd s
    inside (Some all) None s = absurd s

    -- the member of a name that is asked for reads the same
    pub member-same : (whole v : Data) → IsAskedOf names (suc n) whole v → member_in name whole >>= reads ≡ member_in name v >>= reads'
    member-same whole v like = inside (as_object whole) (as_object v) like.object

-- the body of an envelope
module _ (names : List (List ℕ)) (n : ℕ) (content : is_asked names (codes "contentBytes") ≡ true) (key : is_asked names (codes "keyId") ≡ true) (tag : is_asked names (codes "signature") ≡ true) (whole v : Data)
    (like : IsAskedOf names (suc n) whole v) where
  text-same : {A : Type 0} (f : List ℕ → Result A JsonError) (d w : Data) → IsAskedOf names n d w → text_in d >>= f ≡ text_in w >>= f
  text-same f d w of = ap (λ o. some_or fault.WrongType o >>= f) (sym of.text)

  abbrev whole_of : List ℕ → List ℕ → NamedBytes → Result EnvelopeData JsonError
  whole_of c k s = json_result (record { content = c; key_id = k; signature = s })

  signature-same : (c k : List ℕ) → (member_in (codes "signature") whole >>= λ b. signature_in b >>= whole_of c k) ≡ (member_in (codes "signature") v >>= λ b. signature_in b >>= whole_of c k)
  signature-same c k =
      member-same names n (codes "signature") tag (λ b. signature_in b >>= whole_of c k) (λ b. signature_in b >>= whole_of c k)
      (λ d w of. ap (λ r. r >>= whole_of c k) (text-same _ d w of)) whole v like

  key_id-same : (c : List ℕ) → (member_in (codes "keyId") whole >>= λ b. key_id_in b >>= λ k. member_in (codes "signature") whole >>= λ b. signature_in b >>= whole_of c k)
      ≡ (member_in (codes "keyId") v >>= λ b. key_id_in b >>= λ k. member_in (codes "signature") v >>= λ b. signature_in b >>= whole_of c k)
  key_id-same c =
      member-same names n (codes "keyId") key (λ b. key_id_in b >>= λ k. member_in (codes "signature") whole >>= λ b. signature_in b >>= whole_of c k) (λ b. key_id_in b >>= λ k. member_in (codes "signature") v >>= λ b. signature_in b >>= whole_of c k)
      (λ d w of. bind-same (key_id_in d) (key_id_in w) _ _ (ap (λ o. some_or fault.WrongType o) (sym of.text)) (λ k. signature-same c k)) whole v like

  pub body-same : body_in whole ≡ body_in v
  body-same =
      member-same names n (codes "contentBytes") content (λ b. bytes_in b >>= λ c. member_in (codes "keyId") whole >>= λ b. key_id_in b >>= λ k. member_in (codes "signature") whole >>= λ b. signature_in b >>= whole_of c k)
      (λ b. bytes_in b >>= λ c. member_in (codes "keyId") v >>= λ b. key_id_in b >>= λ k. member_in (codes "signature") v >>= λ b. signature_in b >>= whole_of c k)
      (λ d w of. bind-same (bytes_in d) (bytes_in w) _ _ (text-same _ d w of) (λ c. key_id-same c)) whole v like

  -- a published one
  module _ (index : is_asked names (codes "registryIndex") ≡ true) where
    abbrev published_of : EnvelopeData → ℕ → Result PublishedProtoEnvelopeBody JsonError
    published_of e i = json_result (record { envelope = e; registry_index = i })

    index-same : (e : EnvelopeData) → (member_in (codes "registryIndex") whole >>= λ b. number_in b >>= published_of e) ≡ (member_in (codes "registryIndex") v >>= λ b. number_in b >>= published_of e)
    index-same e =
        member-same names n (codes "registryIndex") index (λ b. number_in b >>= published_of e) (λ b. number_in b >>= published_of e)
        (λ d w of. ap (λ o. (some_or fault.WrongType (option_and_then as_u64 o) >>= in_range (2 ^ 64)) >>= published_of e) (sym of.number)) whole v like

    pub published-same : published_in whole ≡ published_in v
    published-same = bind-same (body_in whole) (body_in v) _ _ body-same index-same
