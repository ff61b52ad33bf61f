-- A reader on its way through a printed text.
use Rattle.std.proofs.Common.{◌≡◌, ℕ, Bool, true, false, List, [], ◌++◌, length, Option, Some, None, option_map, refl, sym, ap, subst, ◌∙◌, append_assoc, append-nil, if◌then◌else◌, encode_utf8, encode_utf8_all, chars, IsUtf8}
use Rattle.std.proofs.lemmas.List.{nil_from_length}
use Rattle.std.proofs.lemmas.Str.{chars-nil, chars_past_char}
use Rattle.warg_printable.specs.Back.{IsTaken, in_front, may_end, read_from, read_on, next_turn, unprintable}
use Rattle.warg_printable.specs.declared.read.Turn.{Turn}
use Rattle.warg_printable.specs.declared.read.Turn.TheVariants.{On, Said, Bad}
use Rattle.warg_printable.specs.declared.read.Within.{Within}
use Rattle.warg_printable.specs.declared.read.Within.TheVariants.{Plain}

-- what was read, and what the rest says, is what the whole text says
abbrev pub IsReadSoFar : Within → List ℕ → List ℕ → List ℕ → Type 0
IsReadSoFar within read rest whole = option_map (λ (cs : List ℕ). read ++ encode_utf8_all cs) (read_from within (chars rest)) ≡ unprintable whole

-- the same where the reader may stand nowhere
abbrev pub IsReadTo : Option Within → List ℕ → List ℕ → List ℕ → Type 0
IsReadTo None read rest whole = None ≡ unprintable whole
IsReadTo (Some within) read rest whole = IsReadSoFar within read rest whole

said_first : (read : List ℕ) (c : ℕ) (more : Option (List ℕ))
    → option_map (λ (cs : List ℕ). (read ++ encode_utf8 c) ++ encode_utf8_all cs) more
    ≡ option_map (λ (cs : List ℕ). read ++ encode_utf8_all cs) (in_front c more)
said_first read c None = refl
said_first read c (Some cs) = ap Some (append_assoc read (encode_utf8 c) (encode_utf8_all cs))

-- what a turn and the rest say
abbrev IsReadBy : Turn → List ℕ → List ℕ → List ℕ → Type 0
IsReadBy t read rest whole =
    option_map (λ (cs : List ℕ). read ++ encode_utf8_all cs) (read_on t (λ next. read_from next (chars rest))) ≡ unprintable whole

by_turn : (within : Within) (read bs rest whole : List ℕ) (c : ℕ) → IsUtf8 bs → bs ≡ encode_utf8 c ++ rest
    → IsReadSoFar within read bs whole → IsReadBy (next_turn within c) read rest whole
by_turn within read bs rest whole c u parts so_far =
    sym (ap (λ (cs : List ℕ). option_map (λ (l : List ℕ). read ++ encode_utf8_all l) (read_from within cs)) (chars_past_char bs rest c u parts))
    ∙ so_far

to_turn : (t : Turn) (read : List ℕ) (after : Option Within) (new rest whole : List ℕ) → IsTaken t read after new
    → IsReadBy t read rest whole → IsReadTo after new rest whole
to_turn (On next) read after new rest whole is by = rw (is.0, is.1) by
to_turn (Said c) read after new rest whole is by =
    rw (is.0, is.1) (said_first read c (read_from Plain (chars rest)) ∙ by)
to_turn Bad read after new rest whole is by = rw is by

-- where a turn leaves the reader
read-turn : (within : Within) (read bs rest whole : List ℕ) (c : ℕ) (after : Option Within) (new : List ℕ) → IsUtf8 bs
    → bs ≡ encode_utf8 c ++ rest → IsTaken (next_turn within c) read after new → IsReadSoFar within read bs whole
    → IsReadTo after new rest whole
read-turn within read bs rest whole c after new u parts is so_far =
    to_turn (next_turn within c) read after new rest whole is (by_turn within read bs rest whole c u parts so_far)

-- where a turn goes on
pub read-on : (within next : Within) (read bs rest whole : List ℕ) (c : ℕ) (after : Option Within) (new : List ℕ) → after ≡ Some next → IsUtf8 bs
    → bs ≡ encode_utf8 c ++ rest → IsTaken (next_turn within c) read after new → IsReadSoFar within read bs whole
    → IsReadSoFar next new rest whole
read-on within next read bs rest whole c after new e u parts is so_far =
    subst (λ (it : Option Within). IsReadTo it new rest whole) e (read-turn within read bs rest whole c after new u parts is so_far)

-- where it ends all
pub read-bad : (within : Within) (read bs rest whole : List ℕ) (c : ℕ) (after : Option Within) (new : List ℕ) → after ≡ None → IsUtf8 bs
    → bs ≡ encode_utf8 c ++ rest → IsTaken (next_turn within c) read after new → IsReadSoFar within read bs whole
    → None ≡ unprintable whole
read-bad within read bs rest whole c after new e u parts is so_far =
    subst (λ (it : Option Within). IsReadTo it new rest whole) e (read-turn within read bs rest whole c after new u parts is so_far)

at_end : (may : Bool) (read : List ℕ) → option_map (λ (cs : List ℕ). read ++ encode_utf8_all cs) (if may then Some [] else None) ≡ (if may then Some (read ++ []) else None)
at_end true read = refl
at_end false read = refl

-- nothing is left
pub read-end : (within : Within) (may : Bool) (read bs whole : List ℕ) → length bs ≡ 0 → may ≡ may_end within → IsReadSoFar within read bs whole
    → (if may then Some read else None) ≡ unprintable whole
read-end within may read bs whole none same so_far =
    ap (λ (l : List ℕ). if may then Some l else None) (sym (append-nil read))
    ∙ sym (at_end may read)
    ∙ ap (λ b. option_map (λ (cs : List ℕ). read ++ encode_utf8_all cs) (if b then Some [] else None)) same
    ∙ sym (ap (λ (l : List ℕ). option_map (λ (cs : List ℕ). read ++ encode_utf8_all cs) (read_from within (chars l))) (nil_from_length bs none)
    ∙ ap (λ (l : List ℕ). option_map (λ (cs : List ℕ). read ++ encode_utf8_all cs) (read_from within l)) chars-nil)
    ∙ so_far

-- at the start
pub read-start : (read bs whole : List ℕ) → read ≡ [] → bs ≡ whole → IsReadSoFar Plain read bs whole
unfolding unprintable
read-start read bs whole none same =
    ap (λ (l : List ℕ). option_map (λ (cs : List ℕ). l ++ encode_utf8_all cs) (read_from Plain (chars bs))) none
    ∙ ap (λ (l : List ℕ). option_map encode_utf8_all (read_from Plain (chars l))) same
