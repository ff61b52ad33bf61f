-- Text that is kept in place, after several writes.
use Rattle.std.proofs.Common.{ℕ, List, [], ◌∷◌, ◌++◌, ap, sym, ◌∙◌}
use Rattle.std.proofs.Math.Path.{subst}
use Rattle.std.proofs.lemmas.List.{append-nil, append_assoc}
use Rattle.std.specs.Fmt.{WritesInCalls}
use Rattle.std.specs.Fmt.InlineText.{AppendsIfIntact, IsIntact, inline_text}
use Rattle.std.specs.List.{FoldsTo, concat}
use Rattle.std.specs.declared.fmt.InlineText.{InlineText}

module _ {n : ℕ} where
  -- several writes append what they wrote together
  text_after_calls : (s : InlineText n) (parts : List (List ℕ)) (t : InlineText n) → FoldsTo AppendsIfIntact s parts t → AppendsIfIntact s (concat parts) t
  text_after_calls s [] t same intact = (subst IsIntact same intact, ap inline_text (sym same) ∙ sym (append-nil (inline_text s)))
  text_after_calls s (x ∷ parts) t calls intact =
      let first = calls.1 intact in
      let rest = text_after_calls calls.0 parts t calls.2 first.0 in
      (rest.0, rest.1 ∙ ap (λ l. l ++ concat parts) first.1 ∙ append_assoc (inline_text s) x (concat parts))

  -- the same by what is said of the calls
  pub appended_in_calls : (s : InlineText n) (bs : List ℕ) (t : InlineText n) → WritesInCalls AppendsIfIntact s bs t → AppendsIfIntact s bs t
  appended_in_calls s bs t wrote = subst (λ l. AppendsIfIntact s l t) wrote.whole (text_after_calls s wrote.parts t wrote.calls)
