-- The lines of a text that are none of others.
use Rattle.std.proofs.Common.{◌≡◌, ◌<◌, ℕ, Bool, true, false, List, [], ◌∷◌, ◌++◌, length, refl, sym, ap, ◌∙◌, append_assoc, append-nil, Bor, get_or, ◌||◌}
use Rattle.std.specs.Prelude.{filter}
use Rattle.std.specs.List.{list_any}
use Rattle.std.specs.Str.{bytes_eq}
use Rattle.std.proofs.lemmas.List.{map-append}
use Rattle.std.proofs.lemmas.List.Elements.{filter-append}
use Rattle.std.proofs.lemmas.List.Folds.{list_any_at}
use Rattle.warg_audit.specs.Files.RecordLines.{texts}
use Rattle.warg_audit.specs.Files.Texts.{all_lines, line}
use Rattle.tool_changes.specs.Additions.{is_line_of}

-- a test of texts behind references
pub any_text : (said : List ℕ) (others : List (Bor (List ℕ))) → list_any (λ (other : Bor (List ℕ)). bytes_eq other.now said) others ≡ is_line_of (texts others) said
any_text said [] = refl
any_text said (other ∷ more) = ap (λ t. bytes_eq other.now said || t) (any_text said more)

-- a text behind the reference at a place
pub line_at : (said : List ℕ) (others : List (Bor (List ℕ))) (place : ℕ) (there : Bor (List ℕ)) → place < length others
    → there ≡ get_or others place there → bytes_eq there.now said ≡ true → is_line_of (texts others) said ≡ true
line_at said others place there within at same =
    let equal : Bor (List ℕ) → Bool = λ other. bytes_eq other.now said in
    sym (any_text said others) ∙ list_any_at equal others place there within (sym (ap equal at) ∙ same)

-- lines, and more behind them
pub all_lines-append : (front back : List (List ℕ)) → all_lines (front ++ back) ≡ all_lines front ++ all_lines back
all_lines-append [] back = refl
all_lines-append (said ∷ more) back = ap (λ t. line said ++ t) (all_lines-append more back) ∙ sym (append_assoc (line said) (all_lines more) (all_lines back))

module _ (test : List ℕ → Bool) where
  kept_by : (said : List ℕ) → test said ≡ true → all_lines (filter test (said ∷ [])) ≡ line said
  kept_by said e = rw e (append-nil (line said))

  passed_by : (said : List ℕ) → test said ≡ false → all_lines (filter test (said ∷ [])) ≡ []
  passed_by said e = rw e refl

  one_more : (done : List (Bor (List ℕ))) (said : Bor (List ℕ))
      → all_lines (filter test (texts (done ++ said ∷ []))) ≡ all_lines (filter test (texts done)) ++ all_lines (filter test (said.now ∷ []))
  one_more done said =
      ap (λ lines. all_lines (filter test lines)) (map-append (λ (it : Bor (List ℕ)). it.now) done (said ∷ []))
      ∙ ap all_lines (filter-append test (texts done) (said.now ∷ []))
      ∙ all_lines-append (filter test (texts done)) (filter test (said.now ∷ []))

  -- a line more that is kept
  pub kept_more : (done : List (Bor (List ℕ))) (said : Bor (List ℕ)) (text new : List ℕ) → text ≡ all_lines (filter test (texts done))
      → test said.now ≡ true → new ≡ text ++ line said.now → new ≡ all_lines (filter test (texts (done ++ said ∷ [])))
  kept_more done said text new so_far is more =
      more ∙ ap (λ t. t ++ line said.now) so_far ∙ ap (λ t. all_lines (filter test (texts done)) ++ t) (sym (kept_by said.now is)) ∙ sym (one_more done said)

  -- a line more that is passed over
  pub passed_more : (done : List (Bor (List ℕ))) (said : Bor (List ℕ)) (text : List ℕ) → text ≡ all_lines (filter test (texts done))
      → test said.now ≡ false → text ≡ all_lines (filter test (texts (done ++ said ∷ [])))
  passed_more done said text so_far is =
      so_far ∙ sym (append-nil (all_lines (filter test (texts done)))) ∙ ap (λ t. all_lines (filter test (texts done)) ++ t) (sym (passed_by said.now is)) ∙ sym (one_more done said)
