-- Claims that are the same are one value.
use Rattle.std.proofs.Common.{◌≡◌, ℕ, ◌&&◌, Bool, true, false, List, refl, ap, ◌∙◌}
use Rattle.std.specs.Cmp.Lexicographic.{bytes_decides}
use Rattle.warg_crypto.specs.NamedBytes.{NamedBytes, same_named_bytes}
use Rattle.warg_claims.specs.Verified.Claims.{ClaimData, same_claim}

first : (x y : Bool) → (x && y) ≡ true → x ≡ true
first true y h = refl
first false y h = h

second : (x y : Bool) → (x && y) ≡ true → y ≡ true
second true y h = h
second false true h = refl
second false false h = h

pub same_named_bytes-one : (a b : NamedBytes) → same_named_bytes a b ≡ true → a ≡ b
same_named_bytes-one a b h =
    let name : a.name ≡ b.name = (bytes_decides a.name b.name).0 (first _ _ h) in
    let bytes : a.bytes ≡ b.bytes = (bytes_decides a.bytes b.bytes).0 (second _ _ h) in
    ap (λ n. record { name = n; bytes = a.bytes }) name ∙ ap (λ (l : List ℕ). record { name = b.name; bytes = l }) bytes

-- claims that are the same are one
pub same_claim-one : (a b : ClaimData) → same_claim a b ≡ true → a ≡ b
same_claim-one a b h =
    let rest = second _ _ h in
    let key : a.key ≡ b.key = same_named_bytes-one a.key b.key (first _ _ h) in
    let message : a.message ≡ b.message = (bytes_decides a.message b.message).0 (first _ _ rest) in
    let signature : a.signature ≡ b.signature = same_named_bytes-one a.signature b.signature (second _ _ rest) in
    ap (λ k. record { key = k; message = a.message; signature = a.signature }) key
    ∙ ap (λ (m : List ℕ). record { key = b.key; message = m; signature = a.signature }) message
    ∙ ap (λ s. record { key = b.key; message = b.message; signature = s }) signature
