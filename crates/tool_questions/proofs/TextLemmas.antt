-- The texts that are printed item by item.
use Rattle.std.proofs.Common.{◌≡◌, ℕ, Bool, true, false, cond, List, [], ◌∷◌, ◌++◌, length, filter, map, refl, sym, ap, ◌∙◌, append_assoc, append-nil, arith}
use Rattle.warg_audit.specs.Files.Texts.{all_lines, line}

module _ {P : Type 0} (text_of : P → List ℕ) (held : P → Bool) where
  -- the lines of the items that pass the test, item by item
  abbrev pub held_lines : List P → List ℕ
  held_lines [] = []
  held_lines (p ∷ ps) = cond (held p) (line (text_of p)) [] ++ held_lines ps

  held_step : (b : Bool) (p : P) (ps : List P) → held p ≡ b → held_lines ps ≡ all_lines (map text_of (filter held ps))
      → cond b (line (text_of p)) [] ++ held_lines ps ≡ all_lines (map text_of (cond b (p ∷ filter held ps) (filter held ps)))
  held_step true p ps e further = ap (λ rest. line (text_of p) ++ rest) further
  held_step false p ps e further = further

  pub held_lines-is : (ps : List P) → held_lines ps ≡ all_lines (map text_of (filter held ps))
  held_lines-is [] = refl
  held_lines-is (p ∷ ps) = held_step (held p) p ps refl (held_lines-is ps)

  -- one item more, and none
  pub held_lines-more : (done whole more : List ℕ) (p : P) (rest later : List P) → rest ≡ p ∷ later → more ≡ cond (held p) (line (text_of p)) []
      → done ++ held_lines rest ≡ whole → (done ++ more) ++ held_lines later ≡ whole
  held_lines-more done whole more p rest later parts is so_far =
      append_assoc done more (held_lines later) ∙ ap (λ text. done ++ (text ++ held_lines later)) is
      ∙ ap (λ ps. done ++ held_lines ps) (sym parts) ∙ so_far

  pub held_lines-end : (done : List ℕ) (rest all : List P) → length rest ≡ 0 → done ++ held_lines rest ≡ held_lines all
      → done ≡ all_lines (map text_of (filter held all))
  held_lines-end done [] all none so_far = sym (append-nil done) ∙ so_far ∙ held_lines-is all
  held_lines-end done (p ∷ rest) all none so_far = absurd (omega arith)
