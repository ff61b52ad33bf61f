-- Layouts have no hidden character, where the text and the names have none.
use Rattle.std.proofs.Common.{◌≡◌, ℕ, ◌+◌, ◌-◌, ◌*◌, Bool, true, false, cond, not, List, [], ◌∷◌, ◌++◌, length, map, take, drop, refl, sym, subst, arith, codes, Option, Some, None, IfSome, get_or}
use Rattle.std.specs.Prelude.{◌==◌, nat_lt, ◌&&◌, min}
use Rattle.std.specs.List.{AllByRecursion, after_first, before_first, position_or_len, slice_split}
use Rattle.std.specs.Str.{bytes_eq}
use Rattle.std.specs.Str.Lines.{lines}
use Rattle.std.proofs.lemmas.List.Folds.{length-prefix_len}
use Rattle.warg_printable.specs.Lines.{IsPrintedLines}
use Rattle.warg_printable.specs.Printable.{IsPrintable}
use Rattle.tool_layout.specs.Chains.{chain_layout, chain_lines}
use Rattle.tool_layout.specs.Digests.{is_digest}
use Rattle.tool_layout.specs.KeyNames.{ArePrintable, KeyName, name_of}
use Rattle.tool_layout.specs.Layouts.{laid_before, laid_by, laid_id, laid_line, laid_word, short}
use Rattle.tool_layout.specs.Logs.{log_layout, log_lines, padded, padded_by, padded_release, spaces, widest}
use Rattle.tool_layout.specs.Names.{is_space}
use Rattle.tool_layout.specs.declared.look.Look.{Look}
use Rattle.tool_layout.proofs.DigestLemmas.{digest_parts, same_of}
use Rattle.tool_layout.proofs.PrintableLemmas.{shown-append, shown-before_comma, shown-cut, shown-hex, shown-join, shown-nil, shown-sign, shown-spaces, shown-words}

-- ---- words

short-cases : (text : List ℕ) (b : Bool) → is_digest text ≡ b → IsPrintable text → IsPrintable (cond b (take 19 text) text)
short-cases text true e x =
    let parts = digest_parts text e in
    subst (λ (it : List ℕ). IsPrintable (take 19 it)) (sym parts.whole)
    (shown-sign 115 _ (omega arith) (omega arith)
    (shown-sign 104 _ (omega arith) (omega arith)
    (shown-sign 97 _ (omega arith) (omega arith)
    (shown-sign 50 _ (omega arith) (omega arith)
    (shown-sign 53 _ (omega arith) (omega arith)
    (shown-sign 54 _ (omega arith) (omega arith)
    (shown-sign 58 _ (omega arith) (omega arith) (shown-hex 12 parts.digits parts.all))))))))
short-cases text false e x = x

shown-short : (text : List ℕ) → IsPrintable text → IsPrintable (short text)
shown-short text x = short-cases text (is_digest text) refl x

shown-name : (names : List KeyName) (id : List ℕ) → ArePrintable names → IfSome (name_of names id) IsPrintable
shown-name [] id h = tt
shown-name (it ∷ more) id h =
    elim (bytes_eq it.id id) as (λ b. IfSome (cond b (Some it.name) (name_of more id)) IsPrintable) [ true ↦ h.0 | false ↦ shown-name more id h.1 ]

shown-by : (found : Option (List ℕ)) (full : Bool) (text : List ℕ) → IfSome found IsPrintable → IsPrintable text → IsPrintable (laid_by found full text)
shown-by (Some name) full text named x = named
shown-by None true text named x = x
shown-by None false text named x = shown-short text x

module _ (look : Look) (named : ArePrintable look.names) where
  shown-id : (text : List ℕ) → IsPrintable text → IsPrintable (laid_id look text)
  shown-id text x = shown-by (name_of look.names text) look.full text (shown-name look.names text named) x

  word-cases : (word : List ℕ) (b : Bool) → (get_or word (length word - 1) 0 == 44) ≡ b → IsPrintable word
      → IsPrintable (laid_before look (cond b (Some (take (length word - 1) word)) None) word)
  word-cases word true e x =
      let comma : get_or word (length word - 1) 0 ≡ 44 = same_of (get_or word (length word - 1) 0) 44 e in
      shown-append (laid_id look (take (length word - 1) word)) (codes ",") (shown-id (take (length word - 1) word) (shown-before_comma word x comma))
      (shown-sign 44 [] (omega arith) (omega arith) shown-nil)
  word-cases word false e x = shown-id word x

  shown-laid_words : (words : List (List ℕ)) → AllByRecursion IsPrintable words → AllByRecursion IsPrintable (map (laid_word look) words)
  shown-laid_words [] h = tt
  shown-laid_words (word ∷ more) h = (word-cases word (get_or word (length word - 1) 0 == 44) refl h.0, shown-laid_words more h.1)

  -- ---- lines

  shown-line : (line : List ℕ) → IsPrintable line → IsPrintable (laid_line look line)
  shown-line line x = shown-join (map (laid_word look) (slice_split is_space line)) (shown-laid_words (slice_split is_space line) (shown-words line x))

  shown-chain : (place : ℕ) (text_lines : List (List ℕ)) → AllByRecursion IsPrintable text_lines → AllByRecursion IsPrintable (chain_lines look place text_lines)
  shown-chain place [] h = tt
  shown-chain place (line ∷ more) h = (
    shown-append (spaces (2 * min place 20)) (laid_line look line) (shown-spaces (2 * min place 20)) (shown-line line h.0),
    shown-chain (place + 1) more h.1,
  )

  -- the layout of a chain
  pub shown-chain_layout : (text : List ℕ) → AllByRecursion IsPrintable (lines text) → IsPrintedLines (chain_layout look text) (chain_lines look 0 (lines text))
  shown-chain_layout text h = record { each = shown-chain 0 (lines text) h; is = refl }

shown-release : (width : ℕ) (rest : List ℕ) → IsPrintable rest → IsPrintable (padded_release width rest)
shown-release width rest x =
    let parts = shown-cut rest x in
    let version : List ℕ = before_first is_space rest in
    let onward : IsPrintable (drop (length version) rest) =
    subst (λ (n : ℕ). IsPrintable (drop n rest)) (sym (length-prefix_len (λ (b : ℕ). not (is_space b)) rest)) parts.onward in
    shown-append (codes "release ") (version ++ (spaces (width - length version) ++ drop (length version) rest))
    (shown-sign 114 _ (omega arith) (omega arith)
    (shown-sign 101 _ (omega arith) (omega arith)
    (shown-sign 108 _ (omega arith) (omega arith)
    (shown-sign 101 _ (omega arith) (omega arith)
    (shown-sign 97 _ (omega arith) (omega arith)
    (shown-sign 115 _ (omega arith) (omega arith)
    (shown-sign 101 _ (omega arith) (omega arith) (shown-sign 32 [] (omega arith) (omega arith) shown-nil))))))))
    (shown-append version (spaces (width - length version) ++ drop (length version) rest) parts.before
    (shown-append (spaces (width - length version)) (drop (length version) rest) (shown-spaces (width - length version)) onward))

padded-cases : (width : ℕ) (line : List ℕ) (b : Bool) → IsPrintable line → IsPrintable (padded_by width line (cond b (Some (after_first is_space line)) None))
padded-cases width line true x = shown-release width (after_first is_space line) (shown-cut line x).behind
padded-cases width line false x = x

shown-padded : (width : ℕ) (line : List ℕ) → IsPrintable line → IsPrintable (padded width line)
shown-padded width line x =
    padded-cases width line (nat_lt (position_or_len is_space line) (length line) && bytes_eq (before_first is_space line) (codes "release")) x

module _ (look : Look) (named : ArePrintable look.names) where
  shown-log : (width : ℕ) (text_lines : List (List ℕ)) → AllByRecursion IsPrintable text_lines
      → AllByRecursion IsPrintable (map (λ (line : List ℕ). laid_line look (padded width line)) text_lines)
  shown-log width [] h = tt
  shown-log width (line ∷ more) h = (shown-line look named (padded width line) (shown-padded width line h.0), shown-log width more h.1)

  -- the layout of a log
  pub shown-log_layout : (text : List ℕ) → AllByRecursion IsPrintable (lines text) → IsPrintedLines (log_layout look text) (log_lines look (lines text))
  shown-log_layout text h = record { each = shown-log (widest (lines text)) (lines text) h; is = refl }
