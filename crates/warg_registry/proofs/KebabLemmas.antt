-- The test of kebab names and their grammar are one.
use Rattle.std.proofs.Common.{◌≡◌, ◌<◌, ◌==◌, ◌&&◌, ℕ, Bool, true, false, List, [], ◌∷◌, ◌++◌, length, arith, refl, sym, ◌∙◌, ap, append-nil, if◌then◌else◌}
use Rattle.std.specs.List.{list_all, join_with_byte}
use Rattle.std.proofs.lemmas.Grind.{common_steps}
use Rattle.warg_registry.specs.KebabNames.{is_letter, is_letter_or_digit, IsWord, AreWords, IsKebabName, ends_kebab, is_kebab_name}

-- what follows a word: nothing, or a hyphen and further words
abbrev behind : List (List ℕ) → List ℕ
behind [] = []
behind (word ∷ words) = 45 ∷ join_with_byte 45 (word ∷ words)

joined-cons : (word : List ℕ) (words : List (List ℕ)) → join_with_byte 45 (word ∷ words) ≡ word ++ behind words
joined-cons word [] = sym (append-nil word)
joined-cons word (next ∷ words) = refl

-- a word that goes on: letters and digits, and what follows
record GoesOn (bytes : List ℕ) : Type 0 where
  run : List ℕ
  words : List (List ℕ)
  fits : list_all is_letter_or_digit run ≡ true
  each : AreWords words
  parts : bytes ≡ run ++ behind words

record Both (bytes : List ℕ) : Type 0 where
  begins : ends_kebab true bytes ≡ true → IsKebabName bytes
  goes_on : ends_kebab false bytes ≡ true → GoesOn bytes

pub and_first : (a b : Bool) → (a && b) ≡ true → a ≡ true
and_first true b h = refl
and_first false b h = h

pub and_second : (a b : Bool) → (a && b) ≡ true → b ≡ true
and_second true b h = h
and_second false b h = absurd (grind (arith))

pub and_both : (a b : Bool) → a ≡ true → b ≡ true → (a && b) ≡ true
and_both a b p q = rw (p, q) refl

first_word : (b : ℕ) (bs : List ℕ) → is_letter b ≡ true → GoesOn bs → IsKebabName (b ∷ bs)
first_word b bs letter g = record {
  words = (b ∷ g.run) ∷ g.words;
  some = omega arith;
  each = (record { first = b; others = g.run; parts = refl; letter = letter; rest = g.fits }, g.each);
  joined = ap (λ (x : List ℕ). b ∷ x) g.parts ∙ sym (joined-cons (b ∷ g.run) g.words);
}

next_word : (bs : List ℕ) (k : IsKebabName bs) → GoesOn (45 ∷ bs)
next_word bs k = following k.words k.some k.each k.joined
  where
    following : (words : List (List ℕ)) → 0 < length words → AreWords words → bs ≡ join_with_byte 45 words → GoesOn (45 ∷ bs)
    following [] some each joined = absurd (omega arith)
    following (word ∷ words) some each joined = record { run = []; words = word ∷ words; fits = refl; each = each; parts = ap (λ (x : List ℕ). 45 ∷ x) joined }

more_run : (b : ℕ) (bs : List ℕ) → is_letter_or_digit b ≡ true → GoesOn bs → GoesOn (b ∷ bs)
more_run b bs ok g = record { run = b ∷ g.run; words = g.words; fits = and_both _ _ ok g.fits; each = g.each; parts = ap (λ (x : List ℕ). b ∷ x) g.parts }

on_hyphen : (hyphen : Bool) (b : ℕ) (bs : List ℕ) → (b == 45) ≡ hyphen → Both bs → (if hyphen then ends_kebab true bs else is_letter_or_digit b && ends_kebab false bs) ≡ true → GoesOn (b ∷ bs)
on_hyphen true b bs e both h = let is : b ≡ 45 = grind (arith, common_steps) in rw is (next_word bs (both.begins h))
on_hyphen false b bs e both h = more_run b bs (and_first _ _ h) (both.goes_on (and_second _ _ h))

after_both : (b : ℕ) (bs : List ℕ) → Both bs → Both (b ∷ bs)
after_both b bs more = record {
  begins = λ h. first_word b bs (and_first _ _ h) (more.goes_on (and_second _ _ h));
  goes_on = λ h. on_hyphen (b == 45) b bs refl more h;
}

both : (bytes : List ℕ) → Both bytes
both [] = record {
  begins = λ h. absurd (grind (arith));
  goes_on = λ h. record { run = []; words = []; fits = refl; each = tt; parts = refl };
}
both (b ∷ bs) = after_both b bs (both bs)

-- the other way: through a run, and through words
passes_at : (hyphen : Bool) (b : ℕ) (bs rest : List ℕ) → (b == 45) ≡ hyphen → is_letter_or_digit b ≡ true → ends_kebab false bs ≡ ends_kebab false rest
    → (if hyphen then ends_kebab true bs else is_letter_or_digit b && ends_kebab false bs) ≡ ends_kebab false rest
passes_at true b bs rest e ok more = let is : b ≡ 45 = grind (arith, common_steps) in let impossible : is_letter_or_digit 45 ≡ true = rw is at ok in absurd (grind (arith))
passes_at false b bs rest e ok more = rw ok more

run_passes : (run rest : List ℕ) → list_all is_letter_or_digit run ≡ true → ends_kebab false (run ++ rest) ≡ ends_kebab false rest
run_passes [] rest fits = refl
run_passes (b ∷ run) rest fits = passes_at (b == 45) b (run ++ rest) rest refl (and_first _ _ fits) (run_passes run rest (and_second _ _ fits))

word_ends : (word rest : List ℕ) → IsWord word → ends_kebab false rest ≡ true → ends_kebab true (word ++ rest) ≡ true
word_ends word rest w h = rw w.parts (and_both _ _ w.letter (run_passes w.others rest w.rest ∙ h))

behind_ends : (words : List (List ℕ)) → AreWords words → ends_kebab false (behind words) ≡ true
behind_ends [] each = refl
behind_ends (word ∷ words) each = rw (joined-cons word words) (word_ends word (behind words) each.0 (behind_ends words each.1))

words_end : (words : List (List ℕ)) → 0 < length words → AreWords words → ends_kebab true (join_with_byte 45 words) ≡ true
words_end [] some each = absurd (omega arith)
words_end (word ∷ words) some each = behind_ends (word ∷ words) each

pub kebab_from : (bytes : List ℕ) → is_kebab_name bytes ≡ true → IsKebabName bytes
kebab_from bytes h = (both bytes).begins h

pub kebab_passes : (bytes : List ℕ) → IsKebabName bytes → is_kebab_name bytes ≡ true
kebab_passes bytes k = rw k.joined (words_end k.words k.some k.each)
