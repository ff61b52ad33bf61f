-- The texts of proofs.
use Rattle.std.specs.Prelude.{◌==◌, ◌&&◌, ◌%◌, ◌/◌, ℕ, nat_le, nat_lt, if◌then◌else◌, List, length, Result, Ok, Err}
use Rattle.std.specs.List.{concat}
use Rattle.std.specs.Simd.{first_chunks}
use Rattle.base64.specs.declared.decode.DecodeError.{DecodeError}
use Rattle.base64.specs.Engines.{standard}
use Rattle.base64.specs.GeneralPurpose.{decode_of, encode_of}
use Rattle.sha2.specs.Sha256.{sha256}
use Rattle.warg_merkle.specs.MapProof.ShortForms.{path_in, short_form_of}
use Rattle.warg_merkle.specs.declared.map_proof.error.MapProofError.{MapProofError}
use Rattle.warg_merkle.specs.declared.map_proof.error.MapProofError.TheVariants.{TooShort, TooLong, EmptySibling, OutOfMemory}
use Rattle.warg_transparency.specs.declared.error.ProofTextError.{ProofTextError}
use Rattle.warg_transparency.specs.declared.error.ProofTextError.TheVariants as text

-- the text of a proof on a log: the base64 of its hashes in a row
abbrev pub log_proof_text : List (List ℕ) → List ℕ
log_proof_text hashes = encode_of standard (concat hashes)

-- the text of a proof on a map: the base64 of its short form
abbrev pub map_proof_text : List (List ℕ) → List ℕ
map_proof_text path = encode_of standard (short_form_of sha256 path)

-- what the bytes of a text read as, if it is one of bytes
abbrev pub read_decoded : {X : Type 0} → (List ℕ → Result X ProofTextError) → Result (List ℕ) DecodeError → Result X ProofTextError
read_decoded read (Ok bytes) = read bytes
read_decoded read (Err fault) = Err text.BadBase64

-- the hashes that stand in a row, at most 64
abbrev pub hashes_in : List ℕ → Result (List (List ℕ)) ProofTextError
hashes_in bytes = if nat_le (length bytes) 2048 && (length bytes % 32 == 0) then Ok (first_chunks 32 (length bytes / 32) bytes) else Err text.BadLength

-- the proof on a log that a text is of, or its first fault
unfoldable pub log_proof_of : List ℕ → Result (List (List ℕ)) ProofTextError
log_proof_of t = if nat_lt 2732 (length t) then Err text.TooLong else read_decoded hashes_in (decode_of standard t)

-- the fault of a text whose bytes have this one
abbrev pub text_fault_of : MapProofError → ProofTextError
text_fault_of TooShort = text.BadLength
text_fault_of TooLong = text.BadLength
text_fault_of EmptySibling = text.EmptySibling
text_fault_of OutOfMemory = text.OutOfMemory

-- a path, or the fault of a text whose bytes have this one
abbrev pub with_text_fault : Result (List (List ℕ)) MapProofError → Result (List (List ℕ)) ProofTextError
with_text_fault (Ok path) = Ok path
with_text_fault (Err fault) = Err (text_fault_of fault)

-- the proof on a map that a text is of, or its first fault
unfoldable pub map_proof_of : List ℕ → Result (List (List ℕ)) ProofTextError
map_proof_of t = if nat_lt 10968 (length t) then Err text.TooLong else read_decoded (λ bytes. with_text_fault (path_in sha256 bytes)) (decode_of standard t)
