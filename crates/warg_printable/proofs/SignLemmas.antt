-- Texts of signs of ASCII, which are printed as they are.
use Rattle.std.proofs.Common.{◌≡◌, ◌≤◌, ℕ, zero, suc, ◌==◌, ◌&&◌, Bool, true, false, cond, List, [], ◌∷◌, refl, sym, subst, arith, chars, IsUtf8, nat_le}
use Rattle.std.proofs.lemmas.Bool.{leb-true}
use Rattle.std.proofs.lemmas.Str.{chars-IsAscii, encodes-chars}
use Rattle.std.specs.List.{list_all}
use Rattle.std.specs.Str.{IsAscii, NonePass}
use Rattle.warg_printable.specs.Characters.{backslash, is_hidden, is_sign}
use Rattle.warg_printable.specs.Json.{json_printable}
use Rattle.warg_printable.specs.Printable.{escaped, is_escaped, is_plain}
use Rattle.warg_printable.proofs.CharacterLemmas.{ascii_shown}
use Rattle.warg_printable.proofs.JsonLemmas.{json_same}
use Rattle.warg_printable.proofs.ShownLemmas.{escaped_same}

left : (a b : Bool) → (a && b) ≡ true → a ≡ true
left true b e = refl
left false b e = cc e

right : (a b : Bool) → (a && b) ≡ true → b ≡ true
right true b e = e
right false b e = cc e

sign_bounds : (c : ℕ) → is_sign c ≡ true → (32 ≤ c) × (c ≤ 126)
sign_bounds c h = (leb-true 32 c (left (nat_le 32 c) (nat_le c 126) h), leb-true c 126 (right (nat_le 32 c) (nat_le c 126) h))

signs_ascii : (bs : List ℕ) → list_all is_sign bs ≡ true → IsAscii bs
signs_ascii [] h i = omega arith
signs_ascii (c ∷ bs) h zero = let b = sign_bounds c (left (is_sign c) _ h) in let high : c ≤ 126 = b.1 in omega arith
signs_ascii (c ∷ bs) h (suc i) = signs_ascii bs (right (is_sign c) _ h) i

sign_shown : (c : ℕ) → is_sign c ≡ true → is_hidden c ≡ false
sign_shown c h = let b = sign_bounds c h in let high : c ≤ 126 = b.1 in ascii_shown c b.0 (omega arith)

signs_shown : (bs : List ℕ) → list_all is_sign bs ≡ true → NonePass is_hidden bs
signs_shown [] h = tt
signs_shown (c ∷ bs) h = (sign_shown c (left (is_sign c) _ h), signs_shown bs (right (is_sign c) _ h))

-- signs of ASCII in JSON stay
pub signs_stay_in_json : (text : List ℕ) → IsUtf8 text → list_all is_sign text ≡ true → json_printable text ≡ text
signs_stay_in_json text u h =
    json_same text u
    (chars text, encodes-chars text u, subst (NonePass is_hidden) (sym (chars-IsAscii text (signs_ascii text h))) (signs_shown text h))

plain_signs : (bs : List ℕ) → list_all is_plain bs ≡ true → list_all is_sign bs ≡ true
plain_signs [] h = refl
plain_signs (c ∷ bs) h =
    rw (left (is_sign c) _ (left (is_plain c) _ h), plain_signs bs (right (is_plain c) _ h)) refl

no_backslash : (b : Bool) → cond b false true ≡ true → b ≡ false
no_backslash true e = cc e
no_backslash false e = refl

plain_stays : (c : ℕ) → is_plain c ≡ true → is_escaped false c ≡ false
plain_stays c h = rw (sign_shown c (left (is_sign c) _ h), no_backslash (c == backslash) (right (is_sign c) _ h)) refl

plain_all : (bs : List ℕ) → list_all is_plain bs ≡ true → NonePass (is_escaped false) bs
plain_all [] h = tt
plain_all (c ∷ bs) h = (plain_stays c (left (is_plain c) _ h), plain_all bs (right (is_plain c) _ h))

-- signs of ASCII with no backslash stay
pub plain_text_stays : (text : List ℕ) → IsUtf8 text → list_all is_plain text ≡ true → escaped false text ≡ text
plain_text_stays text u h =
    escaped_same false text u
    (subst (NonePass (is_escaped false)) (sym (chars-IsAscii text (signs_ascii text (plain_signs text h)))) (plain_all text h))
