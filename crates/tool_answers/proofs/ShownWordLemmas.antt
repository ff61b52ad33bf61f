-- Words that are put together one by one, and the lines of releases.
use Rattle.std.proofs.Common.{◌≡◌, ◌<◌, ◌+◌, ℕ, suc, List, [], ◌∷◌, ◌++◌, codes, length, map, take, slice_index_or, refl, sym, ap, subst, ◌∙◌, append_assoc, append-nil, arith}
use Rattle.std.proofs.Math.Seq.{take-suc}
use Rattle.std.proofs.lemmas.List.{map-append}
use Rattle.warg_protocol.specs.Package.{ReleaseView}
use Rattle.tool_answers.specs.ShownWords.{AreReleaseLines, IsReleaseLine, after_commas, after_spaces, record_line}

-- ---- words

after_spaces-append : (texts : List (List ℕ)) (text : List ℕ) → after_spaces (texts ++ text ∷ []) ≡ after_spaces texts ++ (codes " " ++ text)
after_spaces-append [] text = append-nil (codes " " ++ text)
after_spaces-append (first ∷ more) text =
    ap (λ rest. (codes " " ++ first) ++ rest) (after_spaces-append more text)
    ∙ sym (append_assoc (codes " " ++ first) (after_spaces more) (codes " " ++ text))

after_commas-append : (texts : List (List ℕ)) (text : List ℕ) → after_commas (texts ++ text ∷ []) ≡ after_commas texts ++ (codes ", " ++ text)
after_commas-append [] text = append-nil (codes ", " ++ text)
after_commas-append (first ∷ more) text =
    ap (λ rest. (codes ", " ++ first) ++ rest) (after_commas-append more text)
    ∙ sym (append_assoc (codes ", " ++ first) (after_commas more) (codes ", " ++ text))

module _ {X : Type 0} (text_of : X → List ℕ) (xs : List X) (n : ℕ) where
  taken_texts : (x : X) → n < length xs → x ≡ slice_index_or xs n x
      → map text_of (take (n + 1) xs) ≡ map text_of (take n xs) ++ text_of x ∷ []
  taken_texts x low is =
      let e : n + 1 ≡ suc n = omega arith in
      rw e (ap (map text_of) (take-suc xs n x low) ∙ map-append text_of (take n xs) (slice_index_or xs n x ∷ [])
      ∙ ap (λ it. map text_of (take n xs) ++ text_of it ∷ []) (sym is))

  -- one text more, behind a space and behind a comma
  pub after_spaces_more : (x : X) (old text word new : List ℕ) → n < length xs → x ≡ slice_index_or xs n x
      → text ≡ old ++ after_spaces (map text_of (take n xs)) → new ≡ text ++ (codes " " ++ word) → word ≡ text_of x
      → new ≡ old ++ after_spaces (map text_of (take (n + 1) xs))
  after_spaces_more x old text word new low is so_far more said =
      let begun = after_spaces (map text_of (take n xs)) in
      more ∙ ap (λ t. t ++ (codes " " ++ word)) so_far ∙ append_assoc old begun (codes " " ++ word)
      ∙ ap (λ w. old ++ (begun ++ (codes " " ++ w))) said
      ∙ sym (ap (λ texts. old ++ after_spaces texts) (taken_texts x low is)
      ∙ ap (λ t. old ++ t) (after_spaces-append (map text_of (take n xs)) (text_of x)))

  pub after_commas_more : (x : X) (old text word new : List ℕ) → n < length xs → x ≡ slice_index_or xs n x
      → text ≡ old ++ after_commas (map text_of (take n xs)) → new ≡ text ++ (codes ", " ++ word) → word ≡ text_of x
      → new ≡ old ++ after_commas (map text_of (take (n + 1) xs))
  after_commas_more x old text word new low is so_far more said =
      let begun = after_commas (map text_of (take n xs)) in
      more ∙ ap (λ t. t ++ (codes ", " ++ word)) so_far ∙ append_assoc old begun (codes ", " ++ word)
      ∙ ap (λ w. old ++ (begun ++ (codes ", " ++ w))) said
      ∙ sym (ap (λ texts. old ++ after_commas texts) (taken_texts x low is)
      ∙ ap (λ t. old ++ t) (after_commas-append (map text_of (take n xs)) (text_of x)))

-- a time, a signer and entries, put together one by one
pub record_joined : (old time id entries signed new key_id : List ℕ) → signed ≡ old ++ (time ++ (codes " " ++ key_id)) → key_id ≡ id
    → new ≡ signed ++ entries → new ≡ old ++ record_line time id entries
record_joined old time id entries signed new key_id begun same ended =
    ended ∙ ap (λ t. t ++ entries) begun ∙ append_assoc old (time ++ (codes " " ++ key_id)) entries
    ∙ ap (λ t. old ++ t) (append_assoc time (codes " " ++ key_id) entries) ∙ ap (λ k. old ++ record_line time k entries) same

-- ---- releases

-- the lines so far, before those of the releases that are left, are those of all
abbrev pub AreFirstLines : List ReleaseView → List ReleaseView → List ℕ → Type 0
AreFirstLines left all text = (rest : List ℕ) → AreReleaseLines left rest → AreReleaseLines all (text ++ rest)

pub release_more : (left later all : List ReleaseView) (release : ReleaseView) (text line new : List ℕ) → left ≡ release ∷ later
    → IsReleaseLine release line → new ≡ text ++ line → AreFirstLines left all text → AreFirstLines later all new
release_more left later all release text line new parts is more so_far rest are =
    rw (more, append_assoc text line rest) (so_far (line ++ rest) (rw parts (line, rest, is, refl, are)))

pub release_end : (left all : List ReleaseView) (text : List ℕ) → left ≡ [] → AreFirstLines left all text → AreReleaseLines all text
release_end left all text none so_far = subst (AreReleaseLines all) (append-nil text) (so_far [] (rw none refl))
