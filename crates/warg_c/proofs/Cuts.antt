-- Three parts one behind the other are cut apart again.
use Rattle.std.proofs.Common.{◌≡◌, ◌≤◌, ◌+◌, ℕ, List, ◌++◌, length, take, drop, Result, Ok, Err, sym, ap, ◌∙◌, subst, arith}
use Rattle.std.specs.Prelude.{IfOk}
use Rattle.std.specs.Str.{IsUtf8}
use Rattle.std.proofs.lemmas.List.{append_assoc, length-append}
use Rattle.std.proofs.Math.Seq.{take-append_seam, drop-append_seam, take-length}
use Rattle.warg_crypto.specs.Keys.{public_key_of, signature_of}
use Rattle.warg_crypto.specs.NamedBytes.{named_bytes_text}
use Rattle.warg_log_records.specs.declared.signature_check.SignatureCheck.{SignatureCheck}
use Rattle.warg_c.specs.Questions.{Says, Spells, lengths_of}
use Rattle.warg_c.specs.declared.question.Asked.{Asked}

module _ (k m s : List ℕ) where
  abbrev whole : List ℕ
  whole = (k ++ m) ++ s

  first : take (length k) whole ≡ k
  first = ap (λ l. take (length k) l) (append_assoc k m s) ∙ take-append_seam k (m ++ s)

  behind : drop (length k) whole ≡ m ++ s
  behind = ap (λ l. drop (length k) l) (append_assoc k m s) ∙ drop-append_seam k (m ++ s)

  second : take (length m) (drop (length k) whole) ≡ m
  second = ap (λ l. take (length m) l) behind ∙ take-append_seam m s

  third : take (length s) (drop (length m) (drop (length k) whole)) ≡ s
  third = ap (λ l. take (length s) (drop (length m) l)) behind ∙ ap (λ l. take (length s) l) (drop-append_seam m s) ∙ take-length s

  all : (length k + length m) + length s ≤ length whole
  all = let e = length-append (k ++ m) s in let f = length-append k m in omega (arith, e, f)

  says : (q : SignatureCheck) → IsUtf8 k → public_key_of k ≡ Ok q.key → q.message.items ≡ m → IsUtf8 s → signature_of s ≡ Ok q.signature → Says (lengths_of k m s) whole q
  says q key_utf8 key message signature_utf8 signature = record {
    fits = all;
    key_utf8 = subst (λ l. IsUtf8 l) (sym first) key_utf8;
    key = ap (λ l. public_key_of l) first ∙ key;
    message = message ∙ sym second;
    signature_utf8 = subst (λ l. IsUtf8 l) (sym third) signature_utf8;
    signature = ap (λ l. signature_of l) third ∙ signature;
  }

-- three texts that say a question spell it
pub spelled : (q : SignatureCheck) (k m s bytes : List ℕ) (n : Asked) → bytes ≡ (k ++ m) ++ s → n ≡ lengths_of k m s → k ≡ named_bytes_text q.key → s ≡ named_bytes_text q.signature → IsUtf8 k → public_key_of k ≡ Ok q.key → q.message.items ≡ m → IsUtf8 s → signature_of s ≡ Ok q.signature → Spells n bytes q
spelled q k m s bytes n is_bytes is_n is_key is_signature key_utf8 key message signature_utf8 signature = record {
  text = is_bytes ∙ ap (λ l. (l ++ m) ++ s) is_key ∙ ap (λ l. (named_bytes_text q.key ++ l) ++ s) (sym message) ∙ ap (λ l. (named_bytes_text q.key ++ q.message.items) ++ l) is_signature;
  says = subst (λ l. Says n l q) (sym is_bytes) (subst (λ a. Says a ((k ++ m) ++ s) q) (sym is_n) (says k m s q key_utf8 key message signature_utf8 signature));
}

pub spelled-if : {V A : Type 0} (items : V → List ℕ) (lengths : V → Asked) (q : SignatureCheck) (k m s : List ℕ) (r : Result V A) → IfOk r (λ p. items p ≡ (k ++ m) ++ s) → IfOk r (λ p. lengths p ≡ lengths_of k m s)
    → k ≡ named_bytes_text q.key → s ≡ named_bytes_text q.signature → IsUtf8 k → public_key_of k ≡ Ok q.key → q.message.items ≡ m → IsUtf8 s → signature_of s ≡ Ok q.signature → IfOk r (λ p. Spells (lengths p) (items p) q)
spelled-if items lengths q k m s (Ok p) text is_n is_key is_signature key_utf8 key message signature_utf8 signature = spelled q k m s (items p) (lengths p) text is_n is_key is_signature key_utf8 key message signature_utf8 signature
spelled-if items lengths q k m s (Err e) text is_n is_key is_signature key_utf8 key message signature_utf8 signature = tt
