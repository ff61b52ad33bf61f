use Rattle.std.proofs.Common.{◌≡◌, ℕ, List, [], ◌∷◌, ◌++◌, append_assoc, ap, rules, sym, ◌∙◌}
use Rattle.std.proofs.Output.{has_written_styled_append, has_written_styled_of_eq}
use Rattle.hex.specs.Hex.{encode_lower}
use Rattle.warg_crypto.specs.NamedBytes.{NamedBytes}
use Rattle.warg_claims.specs.Verified.Claims.{ClaimData, claim_text, named_word}
use Rattle.warg_claims.proofs.verified.claim.ClaimDisplay.fmt.Goals as goal

joined : (key message signature : List ℕ)
    → key ++ ((32 ∷ []) ++ (message ++ ((32 ∷ []) ++ signature))) ≡ key ++ 32 ∷ message ++ 32 ∷ signature
joined key message signature = sym (append_assoc key (32 ∷ message) (32 ∷ signature))

named : (it : NamedBytes) (name bytes : List ℕ) → name ≡ it.name → bytes ≡ it.bytes
    → named_word (record { name = name; bytes = bytes }) ≡ named_word it
named it name bytes e f =
    ap (λ (l : List ℕ). named_word (record { name = l; bytes = bytes })) e
    ∙ ap (λ (l : List ℕ). named_word (record { name = it.name; bytes = l })) f

shown : (key signature : NamedBytes) (first last message items : List ℕ) (claim : ClaimData)
    → first ≡ named_word key → last ≡ named_word signature → message ≡ items
    → record { key = key; message = items; signature = signature } ≡ claim
    → first ++ ((32 ∷ []) ++ (encode_lower message ++ ((32 ∷ []) ++ last))) ≡ claim_text claim
shown key signature first last message items claim e f same view =
    joined first (encode_lower message) last
    ∙ ap (λ (l : List ℕ). l ++ 32 ∷ encode_lower message ++ 32 ∷ last) e
    ∙ ap (λ (l : List ℕ). named_word key ++ 32 ∷ encode_lower message ++ 32 ∷ l) f
    ∙ ap claim_text (ap (λ (l : List ℕ). record { key = key; message = l; signature = signature }) same ∙ view)

pub returns-clause-styled : goal.returns-clause-styled
returns-clause-styled g c = λ flush ok.
    let key = c.write_named.ensures.styled flush (search rules) in
    let space = c.write_str.ensures.styled key.flush (search rules) in
    let message = c.write_hex.ensures.styled space.flush (search rules) in
    let other = c.write_str-2.ensures.styled message.flush (search rules) in
    let signature = c.write_named-2.ensures.styled other.flush ok in
    has_written_styled_of_eq _ _ _ _ _
    (shown c.self.inside.key c.self.inside.signature _ _ _ _ c.args.self.now
    (named c.self.inside.key _ _ c.algorithm.ensures.value c.bytes.ensures.value)
    (named c.self.inside.signature _ _ c.algorithm-2.ensures.value c.bytes-2.ensures.value)
    c.as_slice.ensures.value c.self.view_is)
    (has_written_styled_append _ _ _ _ _ _ key
    (has_written_styled_append _ _ _ _ _ _ space
    (has_written_styled_append _ _ _ _ _ _ message (has_written_styled_append _ _ _ _ _ _ other signature))))
