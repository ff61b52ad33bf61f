-- Entries have one chain back at most.
use Rattle.std.proofs.Common.{◌≡◌, inl, inr, ℕ, List, [], ◌∷◌, take, Some, sym, ap, ◌∙◌, subst}
use Rattle.std.specs.Prelude.{slice_get}
use Rattle.warg_replay.specs.declared.audited_log.link.Link.{Link}
use Rattle.warg_replay.specs.AuditedLog.Chains.{Entry, first_place, IsLastGift, IsChainBack}
use Rattle.warg_log_laws.proofs.ListLemmas.{same_item, no_item, take_at}
use Rattle.warg_log_laws.proofs.RisingPlaces.{compared}

module _ {P : Type 0} (p : P) where
  -- two last gifts are one
  one_place : (g : List (Entry P)) (k : List ℕ) (n m : ℕ) (e x : Entry P) → IsLastGift g k p n e → IsLastGift g k p m x → n ≡ m
  one_place g k n m e x a b = elim (compared n m) [
    | inl lt ↦ absurd (a.last m x lt b.at b.gives)
    | inr rest ↦ elim rest [
      | inl gt ↦ absurd (b.last n e gt a.at a.gives)
      | inr is ↦ is
    ]
  ]

  one_entry : (g : List (Entry P)) (k : List ℕ) (n m : ℕ) (e x : Entry P) → IsLastGift g k p n e → IsLastGift g k p m x → e ≡ x
  one_entry g k n m e x a b = same_item e x (sym a.at ∙ ap (slice_get g) (one_place g k n m e x a b) ∙ b.at)

  no_chain : (k : List ℕ) (ls : List Link) → IsChainBack [] k p ls → ⊥
  no_chain k [] c = c
  no_chain k (l ∷ []) c = no_item c.1 c.2.at
  no_chain k (l ∷ m ∷ ms) c = no_item c.1 c.2.at

  -- h begins with the entries of g, and has one entry at the first place, at its start
  module _ (h : List (Entry P)) (starts : (n : ℕ) (e : Entry P) → slice_get h n ≡ Some e → e.place ≡ first_place → n ≡ 0) where
    -- from the first place no chain goes on
    no_more : (g : List (Entry P)) → ((i : ℕ) (e : Entry P) → slice_get g i ≡ Some e → slice_get h i ≡ Some e) → (k j : List ℕ) (l m : Link) (ms : List Link) (n : ℕ) (e : Entry P) → IsLastGift g k p n e → e.place ≡ l → l ≡ first_place → IsChainBack (take n g) j p (m ∷ ms) → ⊥
    no_more g front k j l m ms n e last place first c =
        let start : n ≡ 0 = starts n e (front n e last.at) (place ∙ first) in
        no_chain j (m ∷ ms) (subst (λ i. IsChainBack (take i g) j p (m ∷ ms)) start c)

    pub one-chain : (g : List (Entry P)) → ((i : ℕ) (e : Entry P) → slice_get g i ≡ Some e → slice_get h i ≡ Some e) → (k : List ℕ) (ls ms : List Link) → IsChainBack g k p ls → IsChainBack g k p ms → ls ≡ ms
    one-chain g front k [] ms c d = absurd c
    one-chain g front k (l ∷ ls) [] c d = absurd d
    one-chain g front k (l ∷ []) (m ∷ []) c d = ap (λ (x : Link). x ∷ []) (c.4 ∙ sym d.4)
    one-chain g front k (l ∷ []) (m ∷ n ∷ ms) c d =
        let e = one_entry g k c.0 d.0 c.1 d.1 c.2 d.2 in
        absurd (no_more g front k d.1.signer m n ms d.0 d.1 d.2 d.3 (sym d.3 ∙ ap (λ (x : Entry P). x.place) (sym e) ∙ c.3 ∙ c.4) d.5)
    one-chain g front k (l ∷ n ∷ ls) (m ∷ []) c d =
        let e = one_entry g k c.0 d.0 c.1 d.1 c.2 d.2 in
        absurd (no_more g front k c.1.signer l n ls c.0 c.1 c.2 c.3 (sym c.3 ∙ ap (λ (x : Entry P). x.place) e ∙ d.3 ∙ d.4) c.5)
    one-chain g front k (l ∷ n ∷ ls) (m ∷ o ∷ ms) c d =
        let at = one_place g k c.0 d.0 c.1 d.1 c.2 d.2 in
        let e = one_entry g k c.0 d.0 c.1 d.1 c.2 d.2 in
        let here : l ≡ m = sym c.3 ∙ ap (λ (x : Entry P). x.place) e ∙ d.3 in
        let other : IsChainBack (take c.0 g) c.1.signer p (o ∷ ms) = subst (λ (i : ℕ). IsChainBack (take i g) c.1.signer p (o ∷ ms)) (sym at) (subst (λ (x : Entry P). IsChainBack (take d.0 g) x.signer p (o ∷ ms)) (sym e) d.5) in
        let rest = one-chain (take c.0 g) (λ i x there. front i x (take_at g c.0 i x there).1) c.1.signer (n ∷ ls) (o ∷ ms) c.5 other in
        (λ i. here i ∷ rest i)
