-- Names, line by line.
use Rattle.std.proofs.Common.{◌≡◌, ℕ, ◌+◌, ◌<◌, List, [], ◌∷◌, ◌++◌, length, drop, get_or, refl, sym, ap, ◌∙◌, append_assoc, append-nil, arith, suc, drop-cons, Result, Ok, Err, ◌⊎◌, inl, inr}
use Rattle.std.proofs.Common.{cond, true, false, Option, Some, None, IfOk}
use Rattle.std.specs.Prelude.{◌==◌}
use Rattle.std.specs.List.{after_first, before_first, enumerate_from}
use Rattle.std.proofs.lemmas.List.{drop_all, length_push}
use Rattle.std.proofs.lemmas.List.FromFn.{length-enumerate_from}
use Rattle.std.specs.Str.Lines.{lines}
use Rattle.warg_printable.specs.Printable.{printable}
use Rattle.warg_printable.proofs.ShownLemmas.{escaped_shown}
use Rattle.tool_layout.specs.KeyNames.{ArePrintable, KeyName}
use Rattle.tool_layout.specs.Names.{IsLineAdded, in_front, is_passed_over, is_space, key_id_of, line_names, names_by, names_from, names_of, with_line}
use Rattle.tool_layout.specs.declared.error.NameFault.{NameFault}
use Rattle.tool_layout.specs.declared.error.NameFault.TheVariants as fault
use Rattle.tool_layout.specs.declared.error.NamesParseError.{NamesParseError}

-- names in front of others that are in front
in_front-append : (old names : List KeyName) (rest : Result (List KeyName) NamesParseError)
    → in_front old (in_front names rest) ≡ in_front (old ++ names) rest
in_front-append old names (Ok more) = ap Ok (sym (append_assoc old names more))
in_front-append old names (Err e) = refl

-- the lines from a place on: the line there, and those behind it
at_place : (ls : List (List ℕ)) (n : ℕ) (line : List ℕ) → n < length ls → line ≡ get_or ls n line
    → names_from (n + 1) (drop n ls) ≡ with_line (n + 1) (line_names line) (names_from (n + 1 + 1) (drop (n + 1) ls))
at_place ls n line below at =
    let next : suc n ≡ n + 1 = omega arith in
    let cut : drop n ls ≡ line ∷ drop (n + 1) ls =
    drop-cons ls n line below ∙ ap (λ (l : List ℕ). l ∷ drop (suc n) ls) (sym at) ∙ ap (λ (k : ℕ). line ∷ drop k ls) next in
    ap (names_from (n + 1)) cut

-- where the line at a place says names
pub names-more : (ls : List (List ℕ)) (n : ℕ) (line : List ℕ) (old new : List KeyName) (whole : Result (List KeyName) NamesParseError)
    → n < length ls → line ≡ get_or ls n line → in_front old (names_from (n + 1) (drop n ls)) ≡ whole → IsLineAdded line old new
    → in_front new (names_from (n + 1 + 1) (drop (n + 1) ls)) ≡ whole
names-more ls n line old new whole below at so_far one =
    let rest = names_from (n + 1 + 1) (drop (n + 1) ls) in
    ap (λ (names : List KeyName). in_front names rest) one.added
    ∙ sym (in_front-append old one.names rest)
    ∙ ap (λ (said : Result (List KeyName) NameFault). in_front old (with_line (n + 1) said rest)) (sym one.said)
    ∙ ap (in_front old) (sym (at_place ls n line below at))
    ∙ so_far

-- where it has a fault
pub names-fault : (ls : List (List ℕ)) (n : ℕ) (line : List ℕ) (old : List KeyName) (e : NameFault) (whole : Result (List KeyName) NamesParseError)
    → n < length ls → line ≡ get_or ls n line → in_front old (names_from (n + 1) (drop n ls)) ≡ whole → line_names line ≡ Err e
    → whole ≡ Err (record { line = n + 1; fault = e })
names-fault ls n line old e whole below at so_far here =
    sym so_far ∙ ap (in_front old) (at_place ls n line below at)
    ∙ ap (λ (said : Result (List KeyName) NameFault). in_front old (with_line (n + 1) said (names_from (n + 1 + 1) (drop (n + 1) ls)))) here

-- behind the last line
pub names-end : (ls : List (List ℕ)) (n : ℕ) (held : List KeyName) (whole : Result (List KeyName) NamesParseError)
    → n ≡ length (enumerate_from 0 ls) → in_front held (names_from (n + 1) (drop n ls)) ≡ whole → whole ≡ Ok held
names-end ls n held whole all so_far =
    let none : drop n ls ≡ [] = drop_all n ls (rw (all, length-enumerate_from 0 ls) (omega arith)) in
    sym so_far ∙ ap (λ (left : List (List ℕ)). in_front held (names_from (n + 1) left)) none ∙ ap Ok (append-nil held)

-- the fault of the line at a place
abbrev error_at : NameFault → ℕ → Result (List KeyName) NamesParseError
error_at e place = Err (record { line = place + 1; fault = e })

-- after a turn
pub names-turn : {X : Type 0} (ls : List (List ℕ)) (yielded : List X) (x : X) (place : ℕ) (line : List ℕ) (old new : List KeyName)
    (whole : Result (List KeyName) NamesParseError)
    → (length yielded < length ls) × (place ≡ length yielded) × (line ≡ get_or ls (length yielded) line)
    → in_front old (names_from (length yielded + 1) (drop (length yielded) ls)) ≡ whole → IsLineAdded line old new
    → in_front new (names_from (length (yielded ++ x ∷ []) + 1) (drop (length (yielded ++ x ∷ [])) ls)) ≡ whole
names-turn ls yielded x place line old new whole at so_far one =
    ap (λ (n : ℕ). in_front new (names_from (n + 1) (drop n ls))) (length_push yielded x)
    ∙ names-more ls (length yielded) line old new whole at.0 at.2 so_far one

-- the fault that is told
pub fault-told : (ls : List (List ℕ)) (n place : ℕ) (line : List ℕ) (old : List KeyName) (e : NameFault) (whole : Result (List KeyName) NamesParseError)
    → (n < length ls) × (place ≡ n) × (line ≡ get_or ls n line) → in_front old (names_from (n + 1) (drop n ls)) ≡ whole
    → (e ≡ fault.OutOfMemory) ⊎ (line_names line ≡ Err e)
    → (e ≡ fault.OutOfMemory) ⊎ (whole ≡ Err (record { line = place + 1; fault = e }))
fault-told ls n place line old e whole at so_far (inl memory) = inl memory
fault-told ls n place line old e whole at so_far (inr here) =
    inr (names-fault ls n line old e whole at.0 at.2 so_far here ∙ ap (error_at e) (sym at.1))

-- ---- no hidden character stands in a name

both-shown : (names more : List KeyName) → ArePrintable names → ArePrintable more → ArePrintable (names ++ more)
both-shown [] more h k = k
both-shown (it ∷ names) more h k = (h.0, both-shown names more h.1 k)

by-shown : (found : Option (List ℕ)) (name : List ℕ) → IfOk (names_by found name) ArePrintable
by-shown None name = tt
by-shown (Some id) name =
    elim (length name == 0) as (λ b. IfOk (cond b (Err fault.NoName) (Ok (record { id = id; name = printable name } ∷ []))) ArePrintable) [
      | true ↦ tt
      | false ↦ (escaped_shown false name, tt)
    ]

line-shown : (line : List ℕ) → IfOk (line_names line) ArePrintable
line-shown line =
    elim (is_passed_over line) as (λ b. IfOk (cond b (Ok []) (names_by (key_id_of (before_first is_space line)) (after_first is_space line))) ArePrintable) [
      | true ↦ tt
      | false ↦ by-shown (key_id_of (before_first is_space line)) (after_first is_space line)
    ]

with-shown : (number : ℕ) (said : Result (List KeyName) NameFault) (rest : Result (List KeyName) NamesParseError)
    → IfOk said ArePrintable → IfOk rest ArePrintable → IfOk (with_line number said rest) ArePrintable
with-shown number (Ok names) (Ok more) h k = both-shown names more h k
with-shown number (Ok names) (Err e) h k = tt
with-shown number (Err e) rest h k = tt

from-shown : (number : ℕ) (text_lines : List (List ℕ)) → IfOk (names_from number text_lines) ArePrintable
from-shown number [] = tt
from-shown number (line ∷ more) = with-shown number (line_names line) (names_from (number + 1) more) (line-shown line) (from-shown (number + 1) more)

-- of the names that are read
pub shown-names : (text : List ℕ) → IfOk (names_of text) ArePrintable
shown-names text = from-shown 1 (lines text)
