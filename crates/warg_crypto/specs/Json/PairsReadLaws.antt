-- What holds of each value that is read holds of the values of the pairs that are read.
use Rattle.std.specs.Prelude.{◌≡◌, ℕ, List, [], ◌∷◌, Option, Some, None, Result, Ok}
use Rattle.std.specs.List.{AllByRecursion}
use Rattle.std.proofs.Common.{subst}
use Rattle.serde_json.specs.Data.{Data, Members, no_members, member}
use Rattle.serde_json.specs.Find.{get_member}
use Rattle.warg_crypto.specs.declared.json.error.JsonError.{JsonError}
use Rattle.warg_crypto.specs.Json.Json.{members_in}
use Rattle.warg_crypto.specs.Json.Pairs.{pairs_member, pairs_of, pairs_or_none}
use Rattle.warg_crypto.specs.Json.JsonLaws.{bind_ok, ok_same}

module _ {K A : Type 0} (named : List ℕ → Result K JsonError) (reads : Data → Result A JsonError) (P : A → Type 0)
    (read : (x : A) (d : Data) → reads d ≡ Ok x → P x) where
  of_members : (ms : Members) (es : List (K × A)) → pairs_of named reads ms ≡ Ok es → AllByRecursion (λ e. P e.1) es
  of_members no_members es is = subst (λ (x : List (K × A)). AllByRecursion (λ (e : K × A). P e.1) x) (ok_same [] es is) tt
  of_members (member name d more) es is =
      let w1 = bind_ok (named name) _ es is in
      let w2 = bind_ok (reads d) _ es w1.2 in
      let w3 = bind_ok (pairs_of named reads more) _ es w2.2 in
      subst (λ (x : List (K × A)). AllByRecursion (λ (e : K × A). P e.1) x) (ok_same ((w1.0, w2.0) ∷ w3.0) es w3.2)
      (read w2.0 d w2.1, of_members more w3.0 w3.1)

  -- of the pairs of a member that may be missing
  pub values_read : (name : List ℕ) (d : Data) (es : List (K × A)) → pairs_member named reads name d ≡ Ok es
      → AllByRecursion (λ e. P e.1) es
  values_read name d es is =
      let w = bind_ok (members_in d) _ es is in
      by (get_member name w.0) w.2
    where
      by : (o : Option Data) → pairs_or_none named reads o ≡ Ok es → AllByRecursion (λ e. P e.1) es
      by None h = subst (λ (x : List (K × A)). AllByRecursion (λ (e : K × A). P e.1) x) (ok_same [] es h) tt
      by (Some x) h = let v = bind_ok (members_in x) _ es h in of_members v.0 es v.2
