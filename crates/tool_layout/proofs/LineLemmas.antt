-- Words and lines, one after another.
use Rattle.std.proofs.Common.{◌≡◌, ℕ, ◌+◌, List, [], ◌∷◌, ◌++◌, length, map, refl, sym, ap, ◌∙◌, append_assoc, append-nil, zero-add, get_or, ◌<◌, take, length-take, Bor, codes, suc, zero, arith}
use Rattle.std.specs.List.{enumerate_from, join_with_byte}
use Rattle.std.proofs.lemmas.List.{length-map, length_push, map-append, take_all, take_more}
use Rattle.std.proofs.lemmas.List.FromFn.{get_or-enumerate_from, length-enumerate_from}
use Rattle.warg_printable.specs.Lines.{with_ends}
use Rattle.tool_layout.specs.Chains.{chain_line, chain_lines}
use Rattle.tool_layout.specs.Layouts.{laid_line}
use Rattle.tool_layout.specs.Logs.{log_lines, padded, spaces, widest}
use Rattle.tool_layout.specs.declared.look.Look.{Look}

-- ---- words

-- what parts a word from those before it
abbrev pub parting_behind : {X : Type 0} → List X → List ℕ
parting_behind [] = []
parting_behind (x ∷ xs) = 32 ∷ []

-- behind a word, a space parts the next
pub parting-more : {X : Type 0} (done : List X) (x : X) → codes " " ≡ parting_behind (done ++ x ∷ [])
parting-more [] x = refl
parting-more (y ∷ ys) x = refl

-- one word more
pub join-more : (words : List (List ℕ)) (word : List ℕ)
    → join_with_byte 32 (words ++ word ∷ []) ≡ join_with_byte 32 words ++ (parting_behind words ++ word)
join-more [] word = refl
join-more (first ∷ []) word = refl
join-more (first ∷ next ∷ more) word =
    ap (λ (t : List ℕ). first ++ (32 ∷ t)) (join-more (next ∷ more) word)
    ∙ sym (append_assoc first (32 ∷ join_with_byte 32 (next ∷ more)) (32 ∷ word))

parting-map : {X Y : Type 0} (f : X → Y) (xs : List X) → parting_behind (map f xs) ≡ parting_behind xs
parting-map f [] = refl
parting-map f (x ∷ xs) = refl

-- a word more behind a text, with what parts it
pub words-more : (f : List ℕ → List ℕ) (done : List (Bor (List ℕ))) (word : Bor (List ℕ)) (old text middle new : List ℕ)
    → text ≡ old ++ join_with_byte 32 (map f (map (λ it. it.now) done)) → middle ≡ text ++ parting_behind done → new ≡ middle ++ f word.now
    → new ≡ old ++ join_with_byte 32 (map f (map (λ it. it.now) (done ++ word ∷ [])))
words-more f done word old text middle new so_far parted more =
    let words = map (λ (it : Bor (List ℕ)). it.now) done in
    let laid : List (List ℕ) = map f words in
    let parting : List ℕ = parting_behind done in
    let all : map f (map (λ (it : Bor (List ℕ)). it.now) (done ++ word ∷ [])) ≡ laid ++ f word.now ∷ [] =
    ap (map f) (map-append (λ (it : Bor (List ℕ)). it.now) done (word ∷ [])) ∙ map-append f words (word.now ∷ []) in
    let same : parting_behind laid ≡ parting = parting-map f words ∙ parting-map (λ (it : Bor (List ℕ)). it.now) done in
    more ∙ ap (λ (t : List ℕ). t ++ f word.now) (parted ∙ ap (λ (t : List ℕ). t ++ parting) so_far)
    ∙ append_assoc (old ++ join_with_byte 32 laid) parting (f word.now)
    ∙ append_assoc old (join_with_byte 32 laid) (parting ++ f word.now)
    ∙ ap (λ (t : List ℕ). old ++ (join_with_byte 32 laid ++ (t ++ f word.now))) (sym same)
    ∙ ap (λ (t : List ℕ). old ++ t) (sym (join-more laid (f word.now)))
    ∙ ap (λ (t : List (List ℕ)). old ++ join_with_byte 32 t) (sym all)

-- one space more
pub spaces-more : (count : ℕ) → spaces (count + 1) ≡ spaces count ++ 32 ∷ []
spaces-more zero = refl
spaces-more (suc count) =
    let next : suc count + 1 ≡ suc (count + 1) = omega arith in
    ap spaces next ∙ ap (λ (t : List ℕ). 32 ∷ t) (spaces-more count)

-- the same behind a text
pub spaces_pushed : (old text new : List ℕ) (count : ℕ) → text ≡ old ++ spaces count → new ≡ text ++ codes " " → new ≡ old ++ spaces (count + 1)
spaces_pushed old text new count so_far more =
    more ∙ ap (λ (t : List ℕ). t ++ codes " ") so_far ∙ append_assoc old (spaces count) (codes " ") ∙ ap (λ (t : List ℕ). old ++ t) (sym (spaces-more count))

-- ---- lines

-- the item that a turn gave, with its place
pub at_turn : (ls : List (List ℕ)) (n place : ℕ) (line : List ℕ) → n < length (enumerate_from 0 ls)
    → (place, line) ≡ get_or (enumerate_from 0 ls) n (place, line) → (n < length ls) × (place ≡ n) × (line ≡ get_or ls n line)
at_turn ls n place line below at =
    let inside : n < length ls = rw (length-enumerate_from 0 ls) at below in
    let item : (place, line) ≡ (0 + n, get_or ls n line) = at ∙ get_or-enumerate_from 0 ls n (place, line) inside in
    (inside, ap (λ p. p.0) item ∙ zero-add n, ap (λ p. p.1) item)

-- one line more
pub with_ends-more : (lines : List (List ℕ)) (line : List ℕ) → with_ends (lines ++ line ∷ []) ≡ with_ends lines ++ (line ++ codes "\n")
with_ends-more [] line = append-nil (line ++ codes "\n")
with_ends-more (first ∷ more) line =
    ap (λ (t : List ℕ). (first ++ codes "\n") ++ t) (with_ends-more more line)
    ∙ sym (append_assoc (first ++ codes "\n") (with_ends more) (line ++ codes "\n"))

-- a line more behind a text
pub lines-more : (f : List ℕ → List ℕ) (done : List (Bor (List ℕ))) (line : Bor (List ℕ)) (text new : List ℕ)
    → text ≡ with_ends (map f (map (λ it. it.now) done)) → new ≡ text ++ (f line.now ++ codes "\n")
    → new ≡ with_ends (map f (map (λ it. it.now) (done ++ line ∷ [])))
lines-more f done line text new so_far more =
    let lines = map (λ (it : Bor (List ℕ)). it.now) done in
    more ∙ ap (λ (t : List ℕ). t ++ (f line.now ++ codes "\n")) so_far
    ∙ sym (with_ends-more (map f lines) (f line.now))
    ∙ ap with_ends (sym (map-append f lines (line.now ∷ []))
    ∙ ap (map f) (sym (map-append (λ (it : Bor (List ℕ)). it.now) done (line ∷ []))))

-- one link more
pub chain_lines-more : (look : Look) (place : ℕ) (lines : List (List ℕ)) (line : List ℕ)
    → chain_lines look place (lines ++ line ∷ []) ≡ chain_lines look place lines ++ chain_line look (place + length lines) line ∷ []
chain_lines-more look place [] line =
    let here : place ≡ place + length {A = List ℕ} [] = omega arith in ap (λ (n : ℕ). chain_line look n line ∷ []) here
chain_lines-more look place (first ∷ more) line =
    let here : place + 1 + length more ≡ place + length (first ∷ more) = omega arith in
    ap (λ (t : List (List ℕ)). chain_line look place first ∷ t) (chain_lines-more look (place + 1) more line
    ∙ ap (λ (n : ℕ). chain_lines look (place + 1) more ++ chain_line look n line ∷ []) here)

-- a link more behind a text
pub chain-more : {X : Type 0} (look : Look) (ls : List (List ℕ)) (yielded : List X) (x : X) (place : ℕ) (line : List ℕ) (text new : List ℕ)
    → (length yielded < length ls) × (place ≡ length yielded) × (line ≡ get_or ls (length yielded) line)
    → text ≡ with_ends (chain_lines look 0 (take (length yielded) ls)) → new ≡ text ++ (chain_line look place line ++ codes "\n")
    → new ≡ with_ends (chain_lines look 0 (take (length (yielded ++ x ∷ [])) ls))
chain-more look ls yielded x place line text new at so_far more =
    let n = length yielded in
    let done : List (List ℕ) = take n ls in
    let cut : take (length (yielded ++ x ∷ [])) ls ≡ done ++ line ∷ [] =
    ap (λ (k : ℕ). take k ls) (length_push yielded x) ∙ take_more ls n line at.0 ∙ ap (λ (l : List ℕ). done ++ l ∷ []) (sym at.2) in
    let count : length done ≡ n = let l = length-take n ls in omega arith in
    let here : place ≡ 0 + length done = let p = at.1 in omega arith in
    more ∙ ap (λ (t : List ℕ). t ++ (chain_line look place line ++ codes "\n")) so_far
    ∙ sym (with_ends-more (chain_lines look 0 done) (chain_line look place line))
    ∙ ap (λ (k : ℕ). with_ends (chain_lines look 0 done ++ chain_line look k line ∷ [])) here
    ∙ ap with_ends (sym (chain_lines-more look 0 done line))
    ∙ ap (λ (t : List (List ℕ)). with_ends (chain_lines look 0 t)) (sym cut)

-- behind the last link
pub chain-end : (look : Look) (ls : List (List ℕ)) (n : ℕ) (text : List ℕ) → n ≡ length (enumerate_from 0 ls)
    → text ≡ with_ends (chain_lines look 0 (take n ls)) → text ≡ with_ends (chain_lines look 0 ls)
chain-end look ls n text all so_far =
    so_far ∙ ap (λ (t : List (List ℕ)). with_ends (chain_lines look 0 t)) (take_all n ls (rw (all, length-enumerate_from 0 ls) (omega arith)))

-- a line for each
pub length-chain_lines : (look : Look) (place : ℕ) (lines : List (List ℕ)) → length (chain_lines look place lines) ≡ length lines
length-chain_lines look place [] = refl
length-chain_lines look place (first ∷ more) = ap suc (length-chain_lines look (place + 1) more)

pub length-log_lines : (look : Look) (lines : List (List ℕ)) → length (log_lines look lines) ≡ length lines
length-log_lines look lines = length-map lines (λ (line : List ℕ). laid_line look (padded (widest lines) line))
