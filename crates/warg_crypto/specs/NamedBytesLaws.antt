-- The text of a name and bytes reads back: the name stands before the first colon.
use Rattle.std.proofs.Common.{◌≡◌, ◌≢◌, ◌<◌, ◌==◌, Bool, ℕ, List, length, take, false, arith, length-take, [], ◌∷◌, ◌++◌, Ok, Err, Result, refl, drop, ap, ◌∙◌, ◌+◌, length-append}
use Rattle.std.specs.List.{list_any, before_first, after_first, position_or_len}
use Rattle.std.proofs.lemmas.List.{get_or-take}
use Rattle.std.proofs.lemmas.List.Folds.{list_any_none}
use Rattle.std.proofs.lemmas.List.Sums.{fails_before_first}
use Rattle.base64.specs.GeneralPurpose.{IsBytes, encode_of, decode_of}
use Rattle.std.proofs.Math.Seq.{take-append_seam, drop-append-add}
use Rattle.base64.specs.declared.decode.DecodeError.{DecodeError}
use Rattle.base64.specs.Engines.{standard}
use Rattle.base64.proofs.EngineFacts.{decode_of-encode_of}
use Rattle.warg_crypto.specs.NamedBytes.{NamedBytes, IsName, named_bytes_of, named_bytes_text, named_bytes_of_parts}
use Rattle.warg_crypto.specs.HashText.{is_colon}
use Rattle.warg_crypto.specs.declared.signing.algorithm_bytes.NamedBytesError.TheVariants as fault
use Rattle.warg_crypto.specs.Keys.{key_fault, public_key_of, signature_fault, signature_of, with_fault}

-- no colon stands before the first colon
pub no_colon-before_first : (text : List ℕ) → list_any is_colon (before_first is_colon text) ≡ false
no_colon-before_first text =
    list_any_none is_colon (before_first is_colon text) (λ k d below.
    let inside : k < position_or_len is_colon text = omega (arith, length-take (position_or_len is_colon text) text) in
    rw (get_or-take (position_or_len is_colon text) text k d inside) (fails_before_first is_colon text k d inside))

-- a text that is not empty has a byte
pub some_bytes : (text : List ℕ) (empty : Bool) → empty ≡ (length text == 0) → empty ≡ false → 0 < length text
some_bytes text empty e h = grind (arith)

-- the first colon stands after the name
pub colon_after : (name rest : List ℕ) → list_any is_colon name ≡ false
    → position_or_len is_colon (name ++ 58 ∷ rest) ≡ length name
colon_after [] rest h = refl
colon_after (b ∷ name) rest h = grind (arith, colon_after name rest)

parts_read : (missing : Bool) (name front bytes : List ℕ) (decoded : Result (List ℕ) DecodeError) → missing ≡ false
    → front ≡ name → 0 < length name → decoded ≡ Ok bytes
    → named_bytes_of_parts missing front decoded ≡ Ok (record { name = name; bytes = bytes })
parts_read missing name front bytes decoded m f some d = rw (m, f, d) (grind (arith))

-- a text with a name and a colon behind it has neither of the first two faults
pub later_fault : (missing : Bool) (name : List ℕ) (decoded : Result (List ℕ) DecodeError) → missing ≡ false
    → 0 < length name
    → (named_bytes_of_parts missing name decoded ≢ Err fault.MissingColon) × (named_bytes_of_parts missing name decoded ≢ Err fault.EmptyAlgorithm)
later_fault missing name (Ok bytes) m some = (λ h. grind (arith), λ h. grind (arith))
later_fault missing name (Err e) m some = (λ h. grind (arith), λ h. grind (arith))

inside : (n len : ℕ) (text name : List ℕ) (p : ℕ) → p ≡ length name → length text ≡ length name + (n + 1)
    → (p == length text) ≡ false
inside n len text name p e l = grind (arith)

length_with : (name behind : List ℕ) → length (name ++ 58 ∷ behind) ≡ length name + (length behind + 1)
length_with name behind = omega (arith, length-append name (58 ∷ behind))

-- a name, a colon, and base64 that spells the bytes
pub named_bytes_of-parts : (t : NamedBytes) (behind : List ℕ) → IsName t.name → decode_of standard behind ≡ Ok t.bytes
    → named_bytes_of (t.name ++ 58 ∷ behind) ≡ Ok t
named_bytes_of-parts t behind own spell =
    let text = t.name ++ 58 ∷ behind in
    let at : position_or_len is_colon text ≡ length t.name = colon_after t.name behind own.no_colon in
    let front : before_first is_colon text ≡ t.name = ap (λ (n : ℕ). take n text) at ∙ take-append_seam t.name (58 ∷ behind) in
    let back : after_first is_colon text ≡ behind = ap (λ (n : ℕ). drop (n + 1) text) at ∙ drop-append-add t.name (58 ∷ behind) 1 in
    let decoded : decode_of standard (after_first is_colon text) ≡ Ok t.bytes = ap (decode_of standard) back ∙ spell in
    parts_read _ t.name _ t.bytes _ (inside (length behind) 0 text t.name _ at (length_with t.name behind)) front own.nonempty decoded

-- what is written of a name and bytes reads back
pub named_bytes_of-named_bytes_text : (t : NamedBytes) → IsName t.name → IsBytes t.bytes → named_bytes_of (named_bytes_text t) ≡ Ok t
named_bytes_of-named_bytes_text t own fits = named_bytes_of-parts t (encode_of standard t.bytes) own (decode_of-encode_of standard t.bytes refl fits)

-- what is written of a key reads back
pub public_key_of-named_bytes_text : (t : NamedBytes) → IsName t.name → IsBytes t.bytes → public_key_of (named_bytes_text t) ≡ Ok t
public_key_of-named_bytes_text t own fits = ap (with_fault key_fault) (named_bytes_of-named_bytes_text t own fits)

-- what is written of a signature reads back
pub signature_of-named_bytes_text : (t : NamedBytes) → IsName t.name → IsBytes t.bytes → signature_of (named_bytes_text t) ≡ Ok t
signature_of-named_bytes_text t own fits = ap (with_fault signature_fault) (named_bytes_of-named_bytes_text t own fits)
