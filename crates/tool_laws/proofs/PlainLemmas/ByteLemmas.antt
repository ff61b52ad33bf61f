-- Numbers that are bytes: those of lists put together, of what hex digits spell, and of digests.
use Rattle.std.proofs.Common.{◌≡◌, ℕ, zero, suc, ◌<◌, ◌%◌, ◌/◌, ◌^◌, List, [], ◌∷◌, ◌++◌, slice_index, Ok, arith}
use Rattle.std.specs.Int.{byte_at, byte_len, bytes_high_first, to_be_bytes, w32}
use Rattle.std.specs.List.{AllByRecursion, concat}
use Rattle.hex.specs.Hex.{IsBytes, decode_of}
use Rattle.hex.proofs.HexLemmas.{decode_of-ok}
use Rattle.sha2.specs.Sha256.{digest_bytes, final_hash, initial_hash_256, sha256}
use Rattle.warg_crypto.specs.HashText.{IsHashText, hash_of}
use Rattle.warg_crypto.proofs.Grammars.{hash_of-IsHashText}
use Rattle.warg_crypto.specs.declared.hash.AnyHash.{AnyHash}
use Rattle.tool_laws.specs.Plain.Plain.{AreBytes}

pub bytes_append : (a b : List ℕ) → AreBytes a → AreBytes b → AreBytes (a ++ b)
bytes_append [] b x y = y
bytes_append (c ∷ a) b x y = (x.0, bytes_append a b x.1 y)

pub bytes_concat : (parts : List (List ℕ)) → AllByRecursion AreBytes parts → AreBytes (concat parts)
bytes_concat [] h = tt
bytes_concat (part ∷ more) h = bytes_append part (concat more) h.0 (bytes_concat more h.1)

pub bytes_from : (bytes : List ℕ) → IsBytes bytes → AreBytes bytes
bytes_from [] h = tt
bytes_from (b ∷ bytes) h = (h 0, bytes_from bytes (λ k. h (suc k)))

-- what hex digits spell
pub decoded_bytes : (text bytes : List ℕ) → decode_of text ≡ Ok bytes → AreBytes bytes
decoded_bytes text bytes h = bytes_from bytes (decode_of-ok text bytes h).3

-- the bytes of a hash that a text spells
pub hash_bytes : (text : List ℕ) (h : AnyHash) → hash_of text ≡ Ok h → AreBytes h.bytes
hash_bytes text h said = let it : IsHashText text h = (hash_of-IsHashText text h).0 said in decoded_bytes it.digits h.bytes it.spell

-- ---- digests

rest_small : (n : ℕ) → n % 256 < 256
rest_small n = omega arith

byte_small : (i n : ℕ) → byte_at i n < 256
byte_small zero n = rest_small n
byte_small (suc i) n = rest_small (n / 256 ^ suc i)

word_bytes : (k n : ℕ) → AreBytes (bytes_high_first k n)
word_bytes zero n = tt
word_bytes (suc k) n = (byte_small k n, word_bytes k n)

digest : (words : List ℕ) (n : ℕ) → AreBytes (digest_bytes words n)
unfolding digest_bytes
digest words zero = tt
digest words (suc n) =
    bytes_append (digest_bytes words n) (to_be_bytes w32 (slice_index words n)) (digest words n)
    (word_bytes (byte_len w32) (slice_index words n))

-- a digest by SHA-256, whatever it is of
pub sha256_bytes : (message : List ℕ) → AreBytes (sha256 message)
unfolding sha256
sha256_bytes message = digest (final_hash initial_hash_256 message) 8
