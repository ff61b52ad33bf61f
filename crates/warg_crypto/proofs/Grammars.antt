-- A text is read exactly if it is one of the grammar.
use Rattle.std.proofs.Common.{◌≡◌, ◌<◌, ◌≤◌, ◌==◌, ◌↔◌, Bool, ℕ, List, length, true, false, arith, [], ◌∷◌, ◌++◌, codes, Ok, Err, Result, refl, ap, ◌∙◌, get_or, not, subst, if◌then◌else◌}
use Rattle.std.specs.List.{before_first, after_first, position_or_len}
use Rattle.std.specs.Str.{bytes_eq}
use Rattle.std.proofs.lemmas.List.Sums.{split_at_first, passes_at_first, prefix_len-le-length}
use Rattle.std.proofs.lemmas.Slice.Eq.{bytes_eq-Decides}
use Rattle.base64.specs.Engines.{standard}
use Rattle.base64.specs.GeneralPurpose.{decode_of}
use Rattle.base64.specs.declared.decode.DecodeError.{DecodeError as NoBase64}
use Rattle.hex.specs.Hex.{decode_of as hex_decode_of}
use Rattle.hex.specs.declared.error.FromHexError.{FromHexError}
use Rattle.warg_crypto.specs.HashText.{hash_of, hash_of_bytes, hash_of_digits, is_colon, IsHashText}
use Rattle.warg_crypto.specs.Keys.{key_fault, public_key_of, signature_fault, signature_of, with_fault}
use Rattle.warg_crypto.specs.NamedBytesLaws.{no_colon-before_first, some_bytes, named_bytes_of-parts}
use Rattle.warg_crypto.specs.NamedBytes.{IsKeyText, IsName, NamedBytes, named_bytes_of, named_bytes_or_bad}
use Rattle.warg_crypto.specs.declared.hash.AnyHash.{AnyHash}
use Rattle.warg_crypto.specs.declared.hash.AnyHashError.{AnyHashError}
use Rattle.warg_crypto.specs.declared.hash.AnyHashError.TheVariants as fault
use Rattle.warg_crypto.specs.declared.hash.HashAlgorithm.{HashAlgorithm}
use Rattle.warg_crypto.specs.declared.hash.HashAlgorithm.TheVariants.{Sha256}
use Rattle.warg_crypto.specs.declared.signing.algorithm_bytes.NamedBytesError.{NamedBytesError}
use Rattle.warg_crypto.specs.declared.signing.algorithm_bytes.NamedBytesError.TheVariants as no_key

colon_is : (b : ℕ) → is_colon b ≡ true → b ≡ 58
colon_is b h = grind (arith)

-- a text with a colon is what stands before the first, a colon, and what stands after it
cut : (text : List ℕ) → position_or_len is_colon text < length text → text ≡ before_first is_colon text ++ 58 ∷ after_first is_colon text
cut text inside =
    let at = colon_is (get_or text (position_or_len is_colon text) 0) (passes_at_first is_colon text 0 inside) in
    split_at_first is_colon text 0 inside ∙ ap (λ (b : ℕ). before_first is_colon text ++ b ∷ after_first is_colon text) at

inside : (p n : ℕ) → p ≤ n → (p == n) ≡ false → p < n
inside p n le h = grind (arith)

colon_inside : (text : List ℕ) → (position_or_len is_colon text == length text) ≡ false → position_or_len is_colon text < length text
colon_inside text h = inside (position_or_len is_colon text) (length text) (prefix_len-le-length (λ b. not (is_colon b)) text) h

record Spelt (digits : List ℕ) (h : AnyHash) : Type 0 where
  count : length digits ≡ 64
  spell : hex_decode_of digits ≡ Ok h.bytes

sixty_four : (n : ℕ) → (n == 64) ≡ true → n ≡ 64
sixty_four n h = grind (arith)

abbrev bytes_held : Result AnyHash AnyHashError → List ℕ
bytes_held (Ok x) = x.bytes
bytes_held (Err e) = []

spelt_if : (digits bytes : List ℕ) (h : AnyHash) (fits : Bool) → (length digits == 64) ≡ fits → hex_decode_of digits ≡ Ok bytes
    → (if fits then Ok (record { algorithm = Sha256; bytes = bytes }) else Err fault.BadLength) ≡ Ok h → Spelt digits h
spelt_if digits bytes h true f d is = record { count = sixty_four (length digits) f; spell = d ∙ ap Ok (ap bytes_held is) }
spelt_if digits bytes h false f d is = cc

spelt : (digits : List ℕ) (r : Result (List ℕ) FromHexError) (h : AnyHash) → hex_decode_of digits ≡ r → hash_of_bytes (length digits) r ≡ Ok h → Spelt digits h
spelt digits (Err e) h r is = cc
spelt digits (Ok bytes) h r is = spelt_if digits bytes h (length digits == 64) refl r is

hash_cut : (text : List ℕ) (h : AnyHash) (missing named : Bool)
    → (position_or_len is_colon text == length text) ≡ missing
    → bytes_eq (before_first is_colon text) (codes "sha256") ≡ named
    → (if missing then Err fault.MissingAlgorithm else if named then hash_of_digits (after_first is_colon text) else Err fault.UnknownAlgorithm) ≡ Ok h
    → IsHashText text h
hash_cut text h true named m n is = cc
hash_cut text h false false m n is = cc
hash_cut text h false true m n is =
    let name : before_first is_colon text ≡ codes "sha256" = (bytes_eq-Decides (before_first is_colon text) (codes "sha256")).0 n in
    let s = spelt (after_first is_colon text) (hex_decode_of (after_first is_colon text)) h refl is in
    record {
      digits = after_first is_colon text;
      whole = cut text (colon_inside text m) ∙ ap (λ (l : List ℕ). l ++ 58 ∷ after_first is_colon text) name;
      count = s.count;
      spell = s.spell;
    }

digits_read : (a : HashAlgorithm) (digits bytes : List ℕ) → length digits ≡ 64 → hex_decode_of digits ≡ Ok bytes
    → hash_of_digits digits ≡ Ok (record { algorithm = a; bytes = bytes })
digits_read Sha256 digits bytes count spell = rw (spell, count) refl

hash_read : (digits : List ℕ) (h : AnyHash) → hash_of_digits digits ≡ Ok h → hash_of (codes "sha256:" ++ digits) ≡ Ok h
hash_read digits h e = grind (arith, e)

-- a text spells a hash exactly if the grammar says so
pub hash_of-IsHashText : (text : List ℕ) (h : AnyHash) → (hash_of text ≡ Ok h) ↔ IsHashText text h
hash_of-IsHashText text h = (
  λ e. hash_cut text h (position_or_len is_colon text == length text) (bytes_eq (before_first is_colon text) (codes "sha256")) refl refl e,
  λ g. ap hash_of g.whole ∙ hash_read g.digits h (digits_read h.algorithm g.digits h.bytes g.count g.spell),
)

abbrev says : NamedBytes → Result NamedBytes NamedBytesError
says t = Ok t

abbrev name_said : Result NamedBytes NamedBytesError → List ℕ
name_said (Ok x) = x.name
name_said (Err e) = []

abbrev bytes_said : Result NamedBytes NamedBytesError → List ℕ
bytes_said (Ok x) = x.bytes
bytes_said (Err e) = []

same_tag_parts : (name bytes : List ℕ) (t : NamedBytes) → says (record { name = name; bytes = bytes }) ≡ says t → (name ≡ t.name) × (bytes ≡ t.bytes)
same_tag_parts name bytes t e = (ap name_said e, ap bytes_said e)

tag_cut : (text : List ℕ) (t : NamedBytes) (missing empty : Bool) (decoded : Result (List ℕ) NoBase64)
    → (position_or_len is_colon text == length text) ≡ missing
    → (length (before_first is_colon text) == 0) ≡ empty
    → decode_of standard (after_first is_colon text) ≡ decoded
    → (if missing then Err no_key.MissingColon else if empty then Err no_key.EmptyAlgorithm else named_bytes_or_bad (before_first is_colon text) decoded) ≡ Ok t
    → IsKeyText text t
tag_cut text t true empty decoded m n d is = cc
tag_cut text t false true decoded m n d is = cc
tag_cut text t false false (Err e) m n d is = cc
tag_cut text t false false (Ok bytes) m n d is =
    let same = same_tag_parts (before_first is_colon text) bytes t is in
    record {
      named = subst IsName same.0 (record { nonempty = some_bytes (before_first is_colon text) (length (before_first is_colon text) == 0) refl n; no_colon = no_colon-before_first text });
      behind = after_first is_colon text;
      whole = cut text (colon_inside text m) ∙ ap (λ (l : List ℕ). l ++ 58 ∷ after_first is_colon text) same.0;
      spell = d ∙ ap Ok same.1;
    }

-- a text says a name and bytes exactly if the grammar says so
named_bytes_of-IsKeyText : (text : List ℕ) (t : NamedBytes) → (named_bytes_of text ≡ Ok t) ↔ IsKeyText text t
named_bytes_of-IsKeyText text t = (
  λ e. tag_cut text t (position_or_len is_colon text == length text) (length (before_first is_colon text) == 0) (decode_of standard (after_first is_colon text)) refl refl refl e,
  λ g. ap named_bytes_of g.whole ∙ named_bytes_of-parts t g.behind g.named g.spell,
)

abbrev tag_or : {E : Type 0} → NamedBytes → Result NamedBytes E → NamedBytes
tag_or t (Ok x) = x
tag_or t (Err e) = t

plain_ok : {E : Type 0} (f : NamedBytesError → E) (r : Result NamedBytes NamedBytesError) (t : NamedBytes) → with_fault f r ≡ Ok t → r ≡ Ok t
plain_ok f (Ok x) t e = ap says (ap (tag_or t) e)
plain_ok f (Err x) t e = cc

pub public_key_of-IsKeyText : (text : List ℕ) (t : NamedBytes) → (public_key_of text ≡ Ok t) ↔ IsKeyText text t
public_key_of-IsKeyText text t = (λ e. (named_bytes_of-IsKeyText text t).0 (plain_ok key_fault (named_bytes_of text) t e), λ g. ap (with_fault key_fault) ((named_bytes_of-IsKeyText text t).1 g))

pub signature_of-IsKeyText : (text : List ℕ) (t : NamedBytes) → (signature_of text ≡ Ok t) ↔ IsKeyText text t
signature_of-IsKeyText text t = (λ e. (named_bytes_of-IsKeyText text t).0 (plain_ok signature_fault (named_bytes_of text) t e), λ g. ap (with_fault signature_fault) ((named_bytes_of-IsKeyText text t).1 g))
