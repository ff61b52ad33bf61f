-- What the lists of an authority say is what its maps say.
use Rattle.std.proofs.Common.{◌≡◌, ℕ, List, [], ◌∷◌, Bool, false, Option, refl, sym, ap, ◌∙◌, is_some}
use Rattle.std.specs.List.{list_any, AllZip}
use Rattle.std.specs.Option.{option_map_or, option_or}
use Rattle.std.specs.Str.{bytes_eq}
use Rattle.indexmap.specs.IndexMap.{IndexMap, get}
use Rattle.warg_crypto.specs.NamedBytes.{NamedBytes}
use Rattle.warg_permissions.specs.KeyMaps.Rights.{holds_in, value_over, held_over}
use Rattle.warg_permissions.specs.KeyMaps.AuthorityData.{AuthorityData, access_view, access_view_over, authority_data}
use Rattle.warg_permissions.proofs.KeyMapsLemmas.AccessLaws.{same_access_view}
use Rattle.warg_crypto.specs.declared.hash.HashAlgorithm.{HashAlgorithm}

module _ {P Z X : Type 0} (same : P → P → Bool) (algorithm : Option HashAlgorithm) (permissions : IndexMap (List ℕ) (List P) Z) (keys : IndexMap (List ℕ) NamedBytes X)
    (c : AuthorityData P) (is : authority_data algorithm permissions keys ≡ c) where
  pub holds-is : (k : List ℕ) (p : P) → holds_in same permissions k p ≡ (access_view same c).holds k p
  holds-is k p = ap (λ c. (access_view same c).holds k p) is

-- the same where changes lie over the maps
module _ {P Z X : Type 0} (same : P → P → Bool) (algorithm algorithm' : Option HashAlgorithm) (permissions permissions' : IndexMap (List ℕ) (List P) Z) (keys keys' : IndexMap (List ℕ) NamedBytes X)
    (c d : AuthorityData P) (is : authority_data algorithm permissions keys ≡ c) (is' : authority_data algorithm' permissions' keys' ≡ d) where
  pub stands-over : access_view_over same (authority_data algorithm permissions keys) (authority_data algorithm' permissions' keys') ≡ access_view_over same c d
  stands-over = λ i. access_view_over same (is i) (is' i)

  pub held-over-is : (k : List ℕ) (p : P) → held_over same permissions permissions' k p ≡ (access_view_over same c d).holds k p
  held-over-is k p = ap (λ s. s.holds k p) stands-over

-- what the maps say with the changes, once they are made
module _ {P Z X : Type 0} (same : P → P → Bool) (algorithm algorithm' named : Option HashAlgorithm) (permissions permissions' new : IndexMap (List ℕ) (List P) Z) (keys keys' new_keys : IndexMap (List ℕ) NamedBytes X) (c d e : AuthorityData P)
    (is : authority_data algorithm permissions keys ≡ c) (is' : authority_data algorithm' permissions' keys' ≡ d) (new_is : authority_data named new new_keys ≡ e) where
  pub made-over : named ≡ option_or algorithm' algorithm → ((k : List ℕ) → get bytes_eq new k ≡ value_over permissions.entries permissions'.entries k)
      → ((k : List ℕ) → get bytes_eq new_keys k ≡ value_over keys.entries keys'.entries k) → access_view same e ≡ access_view_over same c d
  made-over is_named made registered = ap (access_view same) (sym new_is)
      ∙ same_access_view (access_view same (authority_data named new new_keys)) (access_view_over same (authority_data algorithm permissions keys) (authority_data algorithm' permissions' keys'))
      is_named (λ k p. ap (λ o. option_map_or (λ ps. list_any (same p) ps) o false) (made k)) (λ k. ap is_some (made k)) registered
      ∙ stands-over same algorithm algorithm' permissions permissions' keys keys' c d is is'

-- clones that equal their sources, as pairs
pub pairs-cloned : {K V : Type 0} (es fs : List (K × V)) → AllZip (λ p q. (q.0 ≡ p.0) × (q.1 ≡ p.1)) es fs → fs ≡ es
pairs-cloned [] [] h = refl
pairs-cloned [] (f ∷ fs) h = absurd h
pairs-cloned (e ∷ es) [] h = absurd h
pairs-cloned (e ∷ es) (f ∷ fs) h = λ i. (h.0.0 i, h.0.1 i) ∷ pairs-cloned es fs h.1 i
