-- That the test of a verifier is the relation of the standard.
use Rattle.std.specs.Prelude.{◌≡◌, ◌↔◌, ℕ, true, List}
use Rattle.warg_p256.specs.Ecdsa.{IsVerified}
use Rattle.warg_p256.specs.Verified.{is_verified}

-- the test `is_verified` is true exactly where the relation `IsVerified` holds
abbrev pub VerifiedExactly : Type 0
VerifiedExactly =
    (key message signature : List ℕ) →
    (is_verified key message signature ≡ true) ↔ IsVerified key message signature
