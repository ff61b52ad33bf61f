-- Signatures of ECDSA on the curve P-256.
pub use Rattle.warg_p256.specs.Ecdsa.{IsVerified}
pub use Rattle.warg_p256.specs.Laws.{VerifiedExactly}
pub use Rattle.warg_p256.specs.Scheme.{p256_belongs}
