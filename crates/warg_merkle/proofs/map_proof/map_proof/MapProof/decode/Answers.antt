use Rattle.std.proofs.Common.{◌≡◌, ◌↔◌, ◌*◌, ◌/◌, ℕ, List, Ok, length, take, drop, true, false, inr, refl, sym, ◌∙◌, ap, arith}
use Rattle.std.specs.Simd.{first_chunks}
use Rattle.sha2.specs.Sha256.{sha256}
use Rattle.warg_merkle.specs.MapProof.ShortForms.{others_in, others_count, short_form_len, path_of, IsCanonical, IsShort}
use Rattle.warg_merkle.proofs.MapProofLemmas.Canonical.{empty_sibling, of_short}
use Rattle.warg_merkle.proofs.MapProofLemmas.Forms.{short_form, refuse}
use Rattle.warg_merkle.proofs.map_proof.map_proof.MapProof.decode.Goals as goal

-- the parts are those of the bytes
same_parts : (bytes bits rest : List ℕ) (os : List (List ℕ)) → bits ≡ take 32 bytes → rest ≡ drop 32 bytes → os ≡ first_chunks 32 (length rest / 32) rest
    → IsCanonical sha256 256 0 bits os ↔ IsCanonical sha256 256 0 (take 32 bytes) (others_in bytes)
same_parts bytes bits rest os front back cut =
    let same : os ≡ others_in bytes = cut ∙ ap (λ (r : List ℕ). first_chunks 32 (length r / 32) r) back in
    rw (front, same) (λ p. p, λ p. p)

pub returns-then-not-is_short-clause-empty_sibling : goal.returns-then-not-is_short-clause-empty_sibling
returns-then-not-is_short-clause-empty_sibling c = λ e path.
    let (front, back, size) = c.in-Some.ensures.cases in
    let long : length c.in-Some.rest.now ≡ 32 * (length c.in-Some.rest.now / 32) = omega arith in
    refuse sha256 c.args.bytes.now c.in-Some.left_out.now c.in-Some.rest.now c.as_chunks.result.0.now (length c.in-Some.rest.now / 32) front back long c.as_chunks.ensures.front
    (λ canonical. let t : false ≡ true = c.if-not-is_short.ensures.1 canonical in cc) path

pub returns-then-not-is_short-clause-exact : goal.returns-then-not-is_short-clause-exact
returns-then-not-is_short-clause-exact c =
    let (front, back, size) = c.in-Some.ensures.cases in
    let bytes = c.args.bytes.now in
    let whole : length bytes ≡ short_form_len bytes = omega (arith, ap (others_count 256 0) front) in
    let parts = same_parts bytes c.in-Some.left_out.now c.in-Some.rest.now c.as_chunks.result.0.now front back c.as_chunks.ensures.front in
    inr (empty_sibling sha256 bytes whole (λ canonical. let t : false ≡ true = c.if-not-is_short.ensures.1 (parts.1 canonical) in cc))

pub returns-in_err-bytes-clause-out_of_memory : goal.returns-in_err-bytes-clause-out_of_memory
returns-in_err-bytes-clause-out_of_memory c = λ refused.
    let (front, back, size) = c.in-Some.ensures.cases in
    let bytes = c.args.bytes.now in
    let whole : length bytes ≡ short_form_len bytes = omega (arith, ap (others_count 256 0) front) in
    let parts = same_parts bytes c.in-Some.left_out.now c.in-Some.rest.now c.as_chunks.result.0.now front back c.as_chunks.ensures.front in
    let short : IsShort sha256 bytes = record { size = whole; canonical = parts.0 (c.if-not-is_short.ensures.0 refl) } in
    (path_of sha256 bytes, short_form sha256 bytes short)

pub returns-clause-ok : goal.returns-clause-ok
returns-clause-ok c =
    let (front, back, size) = c.in-Some.ensures.cases in
    let bytes = c.args.bytes.now in
    let whole : length bytes ≡ short_form_len bytes = omega (arith, ap (others_count 256 0) front) in
    let parts = same_parts bytes c.in-Some.left_out.now c.in-Some.rest.now c.as_chunks.result.0.now front back c.as_chunks.ensures.front in
    let short : IsShort sha256 bytes = record { size = whole; canonical = parts.0 (c.if-not-is_short.ensures.0 refl) } in
    rw c.in_ok-bytes.ensures.items (short_form sha256 bytes short)

pub returns-clause-exact : goal.returns-clause-exact
returns-clause-exact c =
    let (front, back, size) = c.in-Some.ensures.cases in
    let bytes = c.args.bytes.now in
    let whole : length bytes ≡ short_form_len bytes = omega (arith, ap (others_count 256 0) front) in
    let parts = same_parts bytes c.in-Some.left_out.now c.in-Some.rest.now c.as_chunks.result.0.now front back c.as_chunks.ensures.front in
    let short : IsShort sha256 bytes = record { size = whole; canonical = parts.0 (c.if-not-is_short.ensures.0 refl) } in
    of_short sha256 bytes short ∙ ap (λ b. Ok (path_of sha256 b)) (sym c.in_ok-bytes.ensures.items)
