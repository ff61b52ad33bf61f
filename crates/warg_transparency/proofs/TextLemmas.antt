-- What texts read as, step by step.
use Rattle.std.proofs.Common.{◌≡◌, ◌≢◌, ◌⊎◌, ℕ, ◌+◌, ◌*◌, ◌/◌, ◌%◌, ◌<◌, ◌≤◌, ◌==◌, true, false, ltb, leb, List, length, replicate, Result, Ok, Err, IfOk, inl, inr, refl, sym, ◌∙◌, ap, arith}
use Rattle.std.specs.Simd.{first_chunks}
use Rattle.std.proofs.lemmas.Bool.Decides.{Decides-eqb, nat_tests}
use Rattle.std.proofs.lemmas.List.{length-append, length-replicate}
use Rattle.base64.specs.declared.decode.DecodeError.{DecodeError}
use Rattle.base64.specs.Engines.{standard}
use Rattle.base64.specs.GeneralPurpose.{decode_of, encode_of}
use Rattle.base64.specs.Rfc4648.{encode_symbols, padding_len}
use Rattle.base64.proofs.RoundTrip.{length-encode_symbols}
use Rattle.sha2.specs.Sha256.{sha256}
use Rattle.warg_merkle.specs.MapProof.ShortForms.{path_in}
use Rattle.warg_transparency.specs.Texts.{hashes_in, log_proof_of, map_proof_of, read_decoded, with_text_fault}
use Rattle.warg_transparency.specs.declared.error.ProofTextError.{ProofTextError}
use Rattle.warg_transparency.specs.declared.error.ProofTextError.TheVariants as text

-- a text that is none of bytes
pub none_decoded : {X : Type 0} (read : List ℕ → Result X ProofTextError) (r : Result (List ℕ) DecodeError) → ((bytes : List ℕ) → r ≢ Ok bytes) → read_decoded read r ≡ Err text.BadBase64
none_decoded read (Ok bytes) none = absurd (none bytes refl)
none_decoded read (Err fault) none = refl

pub hashes_read : (bytes : List ℕ) → length bytes ≤ 2048 → length bytes % 32 ≡ 0 → hashes_in bytes ≡ Ok (first_chunks 32 (length bytes / 32) bytes)
hashes_read bytes few whole =
    let a : leb (length bytes) 2048 ≡ true = grind (arith, nat_tests) in
    let b : (length bytes % 32 == 0) ≡ true = (Decides-eqb (length bytes % 32) 0).1 whole in
    rw (a, b) refl

pub hashes_many : (bytes : List ℕ) → 2048 < length bytes → hashes_in bytes ≡ Err text.BadLength
hashes_many bytes many =
    let a : leb (length bytes) 2048 ≡ false = grind (arith, nat_tests) in
    rw a refl

pub hashes_part : (bytes : List ℕ) → length bytes ≤ 2048 → length bytes % 32 ≢ 0 → hashes_in bytes ≡ Err text.BadLength
hashes_part bytes few part =
    let a : leb (length bytes) 2048 ≡ true = grind (arith, nat_tests) in
    let b : (length bytes % 32 == 0) ≡ false = grind (arith, nat_tests) in
    rw (a, b) refl

pub log_too_long : (t : List ℕ) → 2732 < length t → log_proof_of t ≡ Err text.TooLong
unfolding log_proof_of
log_too_long t long =
    let a : ltb 2732 (length t) ≡ true = grind (arith, nat_tests) in
    rw a refl

pub log_read : (t : List ℕ) → length t ≤ 2732 → log_proof_of t ≡ read_decoded hashes_in (decode_of standard t)
unfolding log_proof_of
log_read t within =
    let a : ltb 2732 (length t) ≡ false = grind (arith, nat_tests) in
    rw a refl

pub map_too_long : (t : List ℕ) → 10968 < length t → map_proof_of t ≡ Err text.TooLong
unfolding map_proof_of
map_too_long t long =
    let a : ltb 10968 (length t) ≡ true = grind (arith, nat_tests) in
    rw a refl

pub map_read : (t : List ℕ) → length t ≤ 10968 → map_proof_of t ≡ read_decoded (λ bytes. with_text_fault (path_in sha256 bytes)) (decode_of standard t)
unfolding map_proof_of
map_read t within =
    let a : ltb 10968 (length t) ≡ false = grind (arith, nat_tests) in
    rw a refl

-- four symbols for three bytes
pub length-encode_of : (m : List ℕ) → length (encode_of standard m) ≤ 4 * ((length m + 2) / 3)
length-encode_of m =
    let table = standard.encode_table in
    let equals : ℕ = 61 in
    let padding : List ℕ = replicate (padding_len (length m)) equals in
    omega (arith, length-append (encode_symbols table m) padding, length-replicate (padding_len (length m)) equals, length-encode_symbols table m)

-- a text that was printed reads back
pub log_text_back : {S E : Type 0} (view : S → List ℕ) (r : Result S E) (bytes : List ℕ) → IfOk r (λ t. view t ≡ encode_of standard bytes) → IfOk r (λ t. decode_of standard (view t) ≡ Ok bytes)
    → length bytes % 32 ≡ 0 → length bytes ≤ 2048 → IfOk r (λ t. log_proof_of (view t) ≡ Ok (first_chunks 32 (length bytes / 32) bytes))
log_text_back view (Ok t) bytes is decoded whole few =
    let size : length (view t) ≤ 2732 = omega (arith, ap length is, length-encode_of bytes) in
    log_read (view t) size ∙ ap (read_decoded hashes_in) decoded ∙ hashes_read bytes few whole
log_text_back view (Err e) bytes is decoded whole few = tt

pub map_text_back : {S E : Type 0} (view : S → List ℕ) (r : Result S E) (bytes : List ℕ) (path : List (List ℕ)) → IfOk r (λ t. view t ≡ encode_of standard bytes) → IfOk r (λ t. decode_of standard (view t) ≡ Ok bytes)
    → length bytes ≤ 8224 → path_in sha256 bytes ≡ Ok path → IfOk r (λ t. map_proof_of (view t) ≡ Ok path)
map_text_back view (Ok t) bytes path is decoded few reads =
    let size : length (view t) ≤ 10968 = omega (arith, ap length is, length-encode_of bytes) in
    map_read (view t) size ∙ ap (read_decoded (λ b. with_text_fault (path_in sha256 b))) decoded ∙ ap with_text_fault reads
map_text_back view (Err e) bytes path is decoded few reads = tt

-- the error of a text that is not decoded
pub not_decoded : {X : Type 0} (read : List ℕ → Result X ProofTextError) (e : ProofTextError) (t : List ℕ) (want : Result X ProofTextError) → want ≡ read_decoded read (decode_of standard t)
    → (e ≡ text.OutOfMemory) ⊎ ((e ≡ text.BadBase64) × ((bytes : List ℕ) → decode_of standard t ≢ Ok bytes)) → (e ≡ text.OutOfMemory) ⊎ (want ≡ Err e)
not_decoded read e t want is (inl no_memory) = inl no_memory
not_decoded read e t want is (inr (bad, none)) = inr (is ∙ none_decoded read (decode_of standard t) none ∙ ap (λ f. Err f) (sym bad))
