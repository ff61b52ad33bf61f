-- Single lines in which no hidden character stands, and the texts that are put together of them.
use Rattle.std.proofs.Common.{◌≡◌, ℕ, Bool, true, false, List, [], ◌∷◌, ◌++◌, codes, Option, Some, None, refl, sym, ap, subst, ◌∙◌, append_assoc, map}
use Rattle.std.specs.Prelude.{if◌then◌else◌, length, nat_lt}
use Rattle.std.specs.List.{AllByRecursion, filter}
use Rattle.std.proofs.lemmas.Str.{NoCharPasses-append}
use Rattle.warg_audit.specs.Files.OutputData.{OutputData}
use Rattle.warg_audit.specs.Files.Texts.{all_lines, line, silent}
use Rattle.tool_answers.specs.Texts.{within}
use Rattle.tool_laws.specs.Plain.Plain.{is_plain}
use Rattle.tool_laws.proofs.PlainLemmas.PlainLemmas.{plain_shown}
use Rattle.warg_printable.specs.Characters.{is_hidden}
use Rattle.warg_printable.specs.Lines.{IsPrintedText}
use Rattle.warg_printable.specs.Printable.{IsPrintable}
use Rattle.warg_printable.proofs.LineLemmas.{both_lines, no_lines, one_shown, same_lines}

-- the text is one line with no hidden character in it, and its end
abbrev pub IsOneLine : List ℕ → Type 0
IsOneLine text = (it : List ℕ) × IsPrintable it × (text ≡ it ++ codes "\n")

-- if there is a text, it is
abbrev pub IfLine : Option (List ℕ) → Type 0
IfLine None = Unit {0}
IfLine (Some text) = IsOneLine text

-- what is printed is lines with no hidden character in them
abbrev pub IsClean : OutputData → Type 0
IsClean printed = IsPrintedText printed.text

-- ---- lines

pub line_text : (text : List ℕ) → IsOneLine text → IsPrintedText text
line_text text h = same_lines text (h.0 ++ codes "\n") h.2 (one_shown h.0 h.1)

pub same_line : (a b : List ℕ) → a ≡ b → IsOneLine b → IsOneLine a
same_line a b e h = subst IsOneLine (sym e) h

-- a plain text and its end
pub plain_line : (text : List ℕ) → is_plain text ≡ true → IsOneLine (text ++ codes "\n")
plain_line text h = (text, plain_shown text h, refl)

-- a text with no hidden character in front of a line
pub shown_front : (a text : List ℕ) → IsPrintable a → IsOneLine text → IsOneLine (a ++ text)
shown_front a text x h = (
  a ++ h.0,
  NoCharPasses-append is_hidden a h.0 x h.1,
  ap (λ (l : List ℕ). a ++ l) h.2 ∙ sym (append_assoc a h.0 (codes "\n")),
)

-- a plain text in front of a line
pub plain_front : (a text : List ℕ) → is_plain a ≡ true → IsOneLine text → IsOneLine (a ++ text)
plain_front a text x h = shown_front a text (plain_shown a x) h

-- a plain word and a space, in front of a line
pub word_front : (word text : List ℕ) → is_plain word ≡ true → IsOneLine text → IsOneLine (word ++ (codes " " ++ text))
word_front word text x h = plain_front word (codes " " ++ text) x (plain_front (codes " ") text refl h)

-- ---- choices

if_clean : (b : Bool) (x y : OutputData) → IsClean x → IsClean y → IsClean (if b then x else y)
if_clean true x y h k = h
if_clean false x y h k = k

-- what is printed within a limit
pub within_clean : (limit : ℕ) (it : OutputData) → IsClean it → IsClean (within limit it)
within_clean limit it h = if_clean (nat_lt limit (length it.text)) (silent 2) it no_lines h

pub if_line : (b : Bool) (x y : Option (List ℕ)) → IfLine x → IfLine y → IfLine (if b then x else y)
if_line true x y h k = h
if_line false x y h k = k

pub line_if : (o : Option (List ℕ)) (text : List ℕ) → o ≡ Some text → IfLine o → IsOneLine text
line_if o text e h = subst IfLine e h

-- ---- texts of many lines

-- each with an end behind it
pub shown_lines : (texts : List (List ℕ)) → AllByRecursion IsPrintable texts → IsPrintedText (all_lines texts)
shown_lines [] h = no_lines
shown_lines (text ∷ more) h = both_lines (line text) (all_lines more) (one_shown text h.0) (shown_lines more h.1)

module _ {A : Type 0} (P : A → Type 0) where
  pub all_filtered : (test : A → Bool) (xs : List A) → AllByRecursion P xs → AllByRecursion P (filter test xs)
  all_filtered test [] h = tt
  all_filtered test (x ∷ xs) h = by (test x) (all_filtered test xs h.1)
    where
      by : (b : Bool) → AllByRecursion P (filter test xs) → AllByRecursion P (if b then x ∷ filter test xs else filter test xs)
      by true rest = (h.0, rest)
      by false rest = rest

pub all_mapped : {A : Type 0} (P : List ℕ → Type 0) (f : A → List ℕ) → ((x : A) → P (f x)) → (xs : List A) → AllByRecursion P (map f xs)
all_mapped P f each [] = tt
all_mapped P f each (x ∷ xs) = (each x, all_mapped P f each xs)

-- ---- what is printed

pub clean_same : (printed it : OutputData) → printed ≡ it → IsPrintedText it.text → IsClean printed
clean_same printed it e h = subst IsClean (sym e) h

pub line_same : (printed it : OutputData) → printed ≡ it → IsOneLine it.text → IsOneLine printed.text
line_same printed it e h = subst (λ (p : OutputData). IsOneLine p.text) (sym e) h

pub clean_line : (printed it : OutputData) → printed ≡ it → IsOneLine it.text → IsClean printed
clean_line printed it e h = line_text printed.text (line_same printed it e h)

-- a plain text is
pub clean_plain : (printed : OutputData) (text : List ℕ) → printed.text ≡ text ++ codes "\n" → is_plain text ≡ true → IsClean printed
clean_plain printed text e h = line_text printed.text (same_line printed.text (text ++ codes "\n") e (plain_line text h))
