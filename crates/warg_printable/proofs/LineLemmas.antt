-- Printed texts, put together line by line.
use Rattle.std.proofs.Common.{◌≡◌, ℕ, false, List, [], ◌∷◌, ◌++◌, codes, refl, sym, ap, subst, ◌∙◌, append_assoc, append-nil}
use Rattle.std.specs.List.{AllByRecursion}
use Rattle.warg_printable.specs.Lines.{IsPrintedText, with_ends}
use Rattle.warg_printable.specs.Printable.{IsPrintable, printable}
use Rattle.warg_printable.proofs.ShownLemmas.{escaped_shown}

all_both : (xs ys : List (List ℕ)) → AllByRecursion IsPrintable xs → AllByRecursion IsPrintable ys → AllByRecursion IsPrintable (xs ++ ys)
all_both [] ys h k = k
all_both (x ∷ xs) ys h k = (h.0, all_both xs ys h.1 k)

ends_both : (xs ys : List (List ℕ)) → with_ends (xs ++ ys) ≡ with_ends xs ++ with_ends ys
ends_both [] ys = refl
ends_both (x ∷ xs) ys =
    ap (λ (l : List ℕ). (x ++ codes "\n") ++ l) (ends_both xs ys) ∙ sym (append_assoc (x ++ codes "\n") (with_ends xs) (with_ends ys))

-- no line
pub no_lines : IsPrintedText []
no_lines = ([], record { each = tt; is = refl })

-- the lines of one text, and those of another
pub both_lines : (a b : List ℕ) → IsPrintedText a → IsPrintedText b → IsPrintedText (a ++ b)
both_lines a b x y = (
  x.0 ++ y.0,
  record {
    each = all_both x.0 y.0 x.1.each y.1.each;
    is = ap (λ (l : List ℕ). l ++ b) x.1.is ∙ ap (λ (l : List ℕ). with_ends x.0 ++ l) y.1.is ∙ sym (ends_both x.0 y.0);
  },
)

-- one line with no hidden character
pub one_shown : (text : List ℕ) → IsPrintable text → IsPrintedText (text ++ codes "\n")
one_shown text shown = (text ∷ [], record { each = (shown, tt); is = sym (append-nil (text ++ codes "\n")) })

-- one printed line
pub one_line : (text : List ℕ) → IsPrintedText (printable text ++ codes "\n")
one_line text = one_shown (printable text) (escaped_shown false text)

-- the same of a text that is such lines
pub same_lines : (a b : List ℕ) → a ≡ b → IsPrintedText b → IsPrintedText a
same_lines a b e h = subst (λ (l : List ℕ). IsPrintedText l) (sym e) h
