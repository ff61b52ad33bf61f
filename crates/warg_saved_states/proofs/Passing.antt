-- A value of a text is passed over.
use Rattle.std.specs.Prelude.{ℕ, ◌≡◌, ◌-◌, ◌<◌, List, Option, Some, None, option_map, refl}
use Rattle.std.proofs.Common.{ap, ◌∙◌}
use Rattle.json.specs.Token.{Token}
use Rattle.json.specs.Json as json
use Rattle.json.specs.Json.{Parse, after_end_array, items, members, parse_map, read_key}
use Rattle.serde_json.specs.Data.{Data, Members, item, put}
use Rattle.serde_json.specs.Read.{converted, of_items, of_json, of_members}
use Rattle.warg_saved_states.specs.Passed.{behind}
use Rattle.warg_saved_states.proofs.TextReading.{item_read, member_read}

pub behind-parse_map : {A B : Type 0} (f : A → B) (r : Option (A × List Token)) → behind (parse_map f r) ≡ behind r
behind-parse_map f None = refl
behind-parse_map f (Some p) = refl

abbrev unwrap : {A : Type 0} → A → Option A → A
unwrap a None = a
unwrap a (Some b) = b

-- what was passed over is a value
pub behind_some : {A : Type 0} (r : Option (A × List Token)) (ts : List Token) → behind r ≡ Some ts → (a : A) × (r ≡ Some (a, ts))
behind_some None ts e = absurd cc
behind_some (Some p) ts e = (p.0, ap (λ o. Some (p.0, unwrap p.1 o)) e)

pub behind_none : {A : Type 0} (r : Option (A × List Token)) → behind r ≡ None → r ≡ None
behind_none None e = refl
behind_none (Some p) e = absurd cc

module _ (p : Parse json.Json) (n : ℕ) where
  -- one more item is
  pub item_passed : (ts r : List Token) → 0 < n → after_end_array ts ≡ None → behind (converted of_json (p ts)) ≡ Some r
      → behind (converted of_items (items p n ts)) ≡ behind (converted of_items (items p (n - 1) r))
  item_passed ts r some going e =
      let d = behind_some (converted of_json (p ts)) r e in
      ap behind (item_read p n ts r d.0 some going d.1) ∙ behind-parse_map (item d.0) _

  -- one more member is
  pub member_passed : (old : Members) (k : List ℕ) (ts s r : List Token) → 0 < n → read_key ts ≡ Some (Some k, s) → behind (converted of_json (p s)) ≡ Some r
      → (new : Members) × (behind (converted (λ ms. of_members ms old) (members p n ts)) ≡ behind (converted (λ ms. of_members ms new) (members p (n - 1) r)))
  member_passed old k ts s r some key e =
      let d = behind_some (converted of_json (p s)) r e in
      (put k d.0 old, ap behind (member_read p old n k ts s r d.0 some key d.1))
