-- A line, cut at its first two spaces.
use Rattle.std.proofs.Common.{◌≡◌, ◌<◌, ℕ, Bool, false, if◌then◌else◌, List, length, Result, Err, refl, arith}
use Rattle.std.specs.List.{before_first, after_first, position_or_len}
use Rattle.hex.specs.Hex.{decode_of}
use Rattle.warg_claims.specs.Verified.Claims.{ClaimData}
use Rattle.warg_claims.specs.Verified.Lines.{claim_of, claim_of_parts, has_no_space, is_space, printed_key_of, printed_signature_of}
use Rattle.warg_claims.specs.declared.verified.error.ClaimParseError.{ClaimParseError}
use Rattle.warg_claims.specs.declared.verified.error.ClaimParseError.TheVariants as fault

chosen : (x y : Bool) (r : Result ClaimData ClaimParseError) → x ≡ false → y ≡ false
    → (if x then Err fault.MissingPart else if y then Err fault.MissingPart else r) ≡ r
chosen x y r a b = rw (a, b) refl

a_space : (text : List ℕ) → position_or_len is_space text < length text → has_no_space text ≡ false
a_space text h = grind arith

-- the parts of a line with two spaces
pub cut-line : (line key rest message signature : List ℕ) → key ≡ before_first is_space line → rest ≡ after_first is_space line
    → position_or_len is_space line < length line → message ≡ before_first is_space rest → signature ≡ after_first is_space rest
    → position_or_len is_space rest < length rest
    → claim_of line ≡ claim_of_parts (printed_key_of key) (decode_of message) (printed_signature_of signature)
cut-line line key rest message signature k r here m s there =
    rw (m, s, k, r) (chosen _ _ _ (a_space line here) (a_space (after_first is_space line) (rw r at there)))
