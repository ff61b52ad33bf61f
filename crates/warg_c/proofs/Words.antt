-- A box is two words: its pointer, and its allocator's.
use Prim.Native.Nat.{ℕ}
use denote.RawPtr.{block_ptr}
use Rattle.warg_c.proofs.Steps.{◌≡◌, refl, List, [], ◌∷◌, Ura, Val, Logic, Goal, Seq, Item, ‵, ◌$◌, Bx, D, B, word, box_out, box_in, Fits}

module _ (E : Bx) {M : Type 1} {𝓤 : Ura M} {𝓛 : Logic 𝓤} {K : Type 0} {Γ : List (Item 𝓤)} {G : Goal 𝓤 𝓛.H} where
  pub is_words : K → (d : D E) (vs : List Val)
      → ((b o : ℕ) (hv : Val) → d.ptr ≡ block_ptr b o → vs ≡ word E hv b o ∷ [] → Fits E.al hv → Seq K 𝓛 (‵ ((B E).own_val d (word E hv b o ∷ [])) ∷ Γ) G)
      → Seq K 𝓛 (‵ ((B E).own_val d vs) ∷ Γ) G
  is_words t d vs k = box_out E t d vs (λ b o hv e ws fits. box_in E t d b o d.value e refl $ k b o hv e ws fits)
