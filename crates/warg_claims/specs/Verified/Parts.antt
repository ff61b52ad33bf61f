-- The parts of a claim, where they stand.
use Rattle.warg_claims.specs.Verified.Claims.{ClaimData}
use Rattle.warg_claims.specs.declared.verified.parts.Parts.{Parts}

-- the claim of the parts
abbrev pub claim_in : Parts → ClaimData
claim_in p = record { key = p.key.now; message = p.message.now; signature = p.signature.now }
