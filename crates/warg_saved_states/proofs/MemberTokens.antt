-- Members written as tokens, one behind the other.
use Rattle.std.proofs.Common.{◌≡◌, ℕ, List, [], ◌∷◌, ◌++◌, String, Global, Bor, refl, sym, ap, ◌∙◌, append_assoc}
use Rattle.std.specs.Prelude.{Result}
use Rattle.json.specs.Print.{print}
use Rattle.json.specs.Token.{Token, begin_object, end_object, key}
use Rattle.json.specs.Tree.{members_tokens}
use Rattle.serde_json.specs.Data.{Data, Members, no_members, member, object}
use Rattle.serde_json.specs.Written.{compact_text, members_outline}
use Rattle.serde_json.proofs.Texts.{print-outline}
use Rattle.warg_crypto.specs.declared.json.error.JsonError.{JsonError}
use Rattle.warg_saved_states.specs.Texts.{AreMembers}
use Rattle.warg_saved_states.specs.Writes.{tokens_of}

-- the tokens of members, with the closing brace
abbrev pub tokens_of_members : Members → List Token
tokens_of_members ms = members_tokens (members_outline ms)

-- a member written behind others, and then what follows it
pub member_behind : (old new : List Token) (name : List ℕ) (d : Data) (others ms : Members)
    → new ≡ (old ++ key name ∷ []) ++ tokens_of d → ms ≡ member name d others
    → new ++ tokens_of_members others ≡ old ++ tokens_of_members ms
member_behind old new name d others ms is are =
    let rest = tokens_of_members others in
    ap (λ t. t ++ rest) is ∙ append_assoc (old ++ key name ∷ []) (tokens_of d) rest
    ∙ append_assoc old (key name ∷ []) (tokens_of d ++ rest) ∙ ap (λ m. old ++ tokens_of_members m) (sym are)

module _ {V A : Type 0} (plain : V → A) (writes : A → Result Data JsonError) where
  none_left : (es : List (String Global × Bor V)) (ms : Members) → es ≡ [] → AreMembers plain writes es ms → ms ≡ no_members
  none_left [] no_members e are = refl
  none_left [] (member name d more) e are = absurd are
  none_left (f ∷ es) no_members e are = absurd are
  none_left (f ∷ es) (member name d more) e are = cc e

  -- where no value is left, the closing brace ends the text of the object
  pub whole_text : (es : List (String Global × Bor V)) (left all : Members) (old new : List Token) → es ≡ []
      → AreMembers plain writes es left → old ++ tokens_of_members left ≡ begin_object ∷ tokens_of_members all
      → new ≡ old ++ end_object ∷ [] → print new ≡ compact_text (object all)
  whole_text es left all old new e are is closed =
      ap print (closed ∙ ap (λ ms. old ++ tokens_of_members ms) (sym (none_left es left e are)) ∙ is)
      ∙ print-outline (object all)
