-- What is read of what is asked of JSON is what is read of all of it.
use Rattle.std.specs.Prelude.{ℕ, suc, ◌≡◌, ⊤, List, true, Option, Some, None, option_and_then, Result, Ok, Err, refl}
use Rattle.std.proofs.Common.{sym, ap, ap₂, ◌∙◌}
use Rattle.serde_json.specs.Data.{Data, Members, null, boolean, number, string, array, object}
use Rattle.serde_json.specs.Find.{as_null, as_number, as_object, as_str, as_u64, get_member}
use Rattle.warg_crypto.specs.declared.json.error.JsonError.{JsonError}
use Rattle.warg_crypto.specs.declared.json.error.JsonError.TheVariants as fault
use Rattle.warg_crypto.specs.Json.Json.{◌>>=◌, member_in, members_in, json_result, some_or, text_in}
use Rattle.warg_crypto.specs.Json.Members.{SameOptions, optional, some_read, unless_null}
use Rattle.warg_crypto.specs.Json.Numbers.{in_range, number_below}
use Rattle.warg_saved_states.specs.Asked.{AreAskedOf, IsAskedOf, is_asked}
use Rattle.warg_saved_states.specs.Next.{AsksFor}

-- what two steps do that are the same
pub then_same : {A B : Type 0} (r s : Result A JsonError) (f g : A → Result B JsonError) → r ≡ s → ((x : A) → f x ≡ g x) → (r >>= f) ≡ (s >>= g)
then_same {A} {B} r s f g same next = ap (λ t. t >>= f) same ∙ by s
  where
    by : (s : Result A JsonError) → (s >>= f) ≡ (s >>= g)
    by (Ok x) = next x
    by (Err e) = refl

abbrev read_unless : {A : Type 0} → Option ⊤ → Result A JsonError → Result (Option A) JsonError
read_unless (Some t) r = Ok None
read_unless None r = r >>= λ x. json_result (Some x)

optional_is : {A : Type 0} (reads : Data → Result A JsonError) (d : Data) → some_read reads (unless_null d) ≡ read_unless (as_null d) (reads d)
optional_is reads null = refl
optional_is reads (boolean b) = refl
optional_is reads (number x) = refl
optional_is reads (string s) = refl
optional_is reads (array ds) = refl
optional_is reads (object ms) = refl

module _ (names : List (List ℕ)) (n : ℕ) where
  -- a text, and a number
  pub text_asked : {A : Type 0} (f : List ℕ → Result A JsonError) → AsksFor names n (λ d. text_in d >>= f)
  text_asked f d v like = ap (λ o. some_or fault.WrongType o >>= f) like.text

  pub number_asked : (bound : ℕ) → AsksFor names n (number_below bound)
  number_asked bound d v like = ap (λ o. some_or fault.WrongType (option_and_then as_u64 o) >>= in_range bound) like.number

  -- what may be missing
  pub optional_asked : {A : Type 0} (reads : Data → Result A JsonError) → AsksFor names n reads → (o p : Option Data)
      → SameOptions (λ d v. IsAskedOf names n d v) o p → optional reads p ≡ optional reads o
  optional_asked reads asks None None same = refl
  optional_asked reads asks (Some d) (Some v) like = optional_is reads v ∙ ap₂ read_unless like.none (asks d v like) ∙ sym (optional_is reads d)
  optional_asked reads asks None (Some v) same = absurd same
  optional_asked reads asks (Some d) None same = absurd same

  -- a member, and what follows
  pub member_asked : {A : Type 0} (name : List ℕ) (d v : Data) (f g : Data → Result A JsonError) → is_asked names name ≡ true → IsAskedOf names (suc n) d v
      → ((x y : Data) → IsAskedOf names n x y → f y ≡ g x) → (member_in name v >>= f) ≡ (member_in name d >>= g)
  member_asked {A} name d v f g asked like next = by (as_object d) (as_object v) like.object
    where
      found : (o p : Option Data) → SameOptions (λ d v. IsAskedOf names n d v) o p → (some_or fault.Missing p >>= f) ≡ (some_or fault.Missing o >>= g)
      found None None same = refl
      found (Some x) (Some y) same = next x y same
      found None (Some y) same = absurd same
      found (Some x) None same = absurd same

      by : (o p : Option Members) → SameOptions (AreAskedOf names (suc n)) o p
          → ((some_or fault.WrongType p >>= λ ms. some_or fault.Missing (get_member name ms)) >>= f) ≡ ((some_or fault.WrongType o >>= λ ms. some_or fault.Missing (get_member name ms)) >>= g)
      by None None same = refl
      by (Some a) (Some b) are = found (get_member name a) (get_member name b) (are.same name asked)
      by None (Some b) same = absurd same
      by (Some a) None same = absurd same

  -- a member that may be missing
  pub found_asked : {A : Type 0} (name : List ℕ) (d v : Data) (f g : Option Data → Result A JsonError) → is_asked names name ≡ true → IsAskedOf names (suc n) d v
      → ((o p : Option Data) → SameOptions (λ x y. IsAskedOf names n x y) o p → f p ≡ g o)
      → (members_in v >>= λ ms. f (get_member name ms)) ≡ (members_in d >>= λ ms. g (get_member name ms))
  found_asked {A} name d v f g asked like next = by (as_object d) (as_object v) like.object
    where
      by : (o p : Option Members) → SameOptions (AreAskedOf names (suc n)) o p
          → (some_or fault.WrongType p >>= λ ms. f (get_member name ms)) ≡ (some_or fault.WrongType o >>= λ ms. g (get_member name ms))
      by None None same = refl
      by (Some a) (Some b) are = next (get_member name a) (get_member name b) (are.same name asked)
      by None (Some b) same = absurd same
      by (Some a) None same = absurd same

  -- a member that is read, and what follows
  pub read_member_asked : {A B : Type 0} (name : List ℕ) (d v : Data) (reads : Data → Result A JsonError) (f g : A → Result B JsonError) → is_asked names name ≡ true
      → AsksFor names n reads → IsAskedOf names (suc n) d v → ((x : A) → f x ≡ g x) → (member_in name v >>= λ m. reads m >>= f) ≡ (member_in name d >>= λ m. reads m >>= g)
  read_member_asked name d v reads f g asked asks like next =
      member_asked name d v (λ m. reads m >>= f) (λ m. reads m >>= g) asked like (λ x y inner. then_same (reads y) (reads x) f g (asks x y inner) next)
