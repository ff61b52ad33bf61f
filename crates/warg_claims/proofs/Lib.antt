pub mod ClaimLaws
pub mod ClaimWordLaws
pub mod HeldClaims
pub mod Places
pub mod VerifiedLemmas
