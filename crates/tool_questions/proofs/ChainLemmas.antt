-- The links of chains: their places, and their lines.
use Rattle.std.proofs.Common.{◌≡◌, ◌<◌, ◌≤◌, ◌+◌, ℕ, zero, suc, List, [], ◌∷◌, ◌++◌, length, reverse, take, refl, sym, subst, arith, append_assoc, append-nil, Option, Some, None}
use Rattle.std.specs.List.{AllByRecursion, slice_get}
use Rattle.std.specs.Option.{ForSome}
use Rattle.std.proofs.lemmas.List.{reverse-append, reverse-reverse}
use Rattle.std.proofs.lemmas.Option.{none-some}
use Rattle.warg_protocol.specs.Logs.{Effects, EnvelopeData, IsChainAnswer, IsGrantChain}
use Rattle.warg_replay.specs.AuditedLog.Chains.{Entry, IsChainBack, entries_from, entries_of, entry_at, first_entries}
use Rattle.warg_replay.specs.declared.audited_log.link.Link.{Link}
use Rattle.tool_answers.specs.ShownWords.{RecordWords}
use Rattle.tool_answers.specs.Texts.{AreLinkLines, IsLinkLine, receiver}
use Rattle.tool_questions.specs.Questions.{AreWithin}

-- ---- lists

module _ {X : Type 0} (P : X → Type 0) where
  all_joined : (xs ys : List X) → AllByRecursion P xs → AllByRecursion P ys → AllByRecursion P (xs ++ ys)
  all_joined [] ys a b = b
  all_joined (x ∷ xs) ys a b = (a.0, all_joined xs ys a.1 b)

  all_taken : (n : ℕ) (xs : List X) → AllByRecursion P xs → AllByRecursion P (take n xs)
  all_taken zero xs a = tt
  all_taken (suc n) [] a = tt
  all_taken (suc n) (x ∷ xs) a = (a.0, all_taken n xs a.1)

  at_place : (xs : List X) (n : ℕ) (x : X) → AllByRecursion P xs → slice_get xs n ≡ Some x → P x
  at_place [] n x a e = absurd (none-some x e)
  at_place (y ∷ xs) zero x a e = let same : y ≡ x = cc in subst P same a.0
  at_place (y ∷ xs) (suc n) x a e = at_place xs n x a.1 e

within_joined : (count : ℕ) (xs ys : List Link) → AreWithin count xs → AreWithin count ys → AreWithin count (xs ++ ys)
within_joined count [] ys a b = b
within_joined count (x ∷ xs) ys a b = (a.0, within_joined count xs ys a.1 b)

within_reversed : (count : ℕ) (links : List Link) → AreWithin count links → AreWithin count (reverse links)
within_reversed count [] a = tt
within_reversed count (link ∷ more) a =
    subst (AreWithin count) (sym (reverse-append (link ∷ []) more))
    (within_joined count (reverse more) (link ∷ []) (within_reversed count more a.1) (a.0, tt))

-- ---- places

module _ {P : Type 0} (f : Effects P) where
  -- the entry is of one of so many records
  abbrev IsWithin : ℕ → Entry P → Type 0
  IsWithin count e = e.place.record_index < count

  of_record : (count r : ℕ) (e : EnvelopeData) (n : ℕ) → r < count → AllByRecursion (IsWithin count) (first_entries f r e n)
  of_record count r e zero low = tt
  of_record count r e (suc n) low = all_joined (IsWithin count) (first_entries f r e n) (entry_at f r e n ∷ []) (of_record count r e n low) (low, tt)

  of_records : (count r : ℕ) (es : List EnvelopeData) → r + length es ≤ count → AllByRecursion (IsWithin count) (entries_from f r es)
  of_records count r [] fits = tt
  of_records count r (e ∷ es) fits =
      let low : r < count = omega arith in
      let rest : suc r + length es ≤ count = omega arith in
      all_joined (IsWithin count) (first_entries f r e (f.entries e)) (entries_from f (suc r) es) (of_record count r e (f.entries e) low)
      (of_records count (suc r) es rest)

  chain_within : (count : ℕ) (h : List (Entry P)) (k : List ℕ) (p : P) (links : List Link) → AllByRecursion (IsWithin count) h
      → IsChainBack h k p links → AreWithin count links
  chain_within count h k p [] all chain = absurd chain
  chain_within count h k p (link ∷ []) all chain =
      let low = at_place (IsWithin count) h chain.0 chain.1 all chain.2.at in
      (subst (λ (l : Link). l.record_index < count) chain.3 low, tt)
  chain_within count h k p (link ∷ next ∷ more) all chain =
      let low = at_place (IsWithin count) h chain.0 chain.1 all chain.2.at in (
        subst (λ (l : Link). l.record_index < count) chain.3 low,
        chain_within count (take chain.0 h) chain.1.signer p (next ∷ more) (all_taken (IsWithin count) chain.0 h all) chain.5,
      )

  -- the links of a chain in a log are of its records
  links_within : (es : List EnvelopeData) (k : List ℕ) (p : P) (links : List Link) → IsGrantChain f es k p links → AreWithin (length es) links
  links_within es k p links chain =
      let all : 0 + length es ≤ length es = omega arith in
      let back = chain_within (length es) (entries_of f es) k p (reverse links) (of_records (length es) 0 es all) chain in
      subst (AreWithin (length es)) (reverse-reverse links) (within_reversed (length es) (reverse links) back)

  pub answer_within : (es : List EnvelopeData) (k : List ℕ) (p : P) (chain : Option (List Link)) → IsChainAnswer f es k p chain
      → ForSome chain (AreWithin (length es))
  answer_within es k p None h = λ links e. absurd (none-some links e)
  answer_within es k p (Some links) h = λ other e.
      let same : links ≡ other = cc in
      subst (AreWithin (length es)) same (links_within es k p links h.1)

-- ---- lines

module _ (Says : List ℕ → RecordWords → Type 0) (es : List EnvelopeData) (key : List ℕ) where
  -- the lines so far, before those of the links that are left, are those of all
  abbrev pub AreFirstLinks : List Link → List Link → List ℕ → Type 0
  AreFirstLinks left all text = (rest : List ℕ) → AreLinkLines Says es key left rest → AreLinkLines Says es key all (text ++ rest)

  pub link_begin : (all : List Link) (text : List ℕ) → text ≡ [] → AreFirstLinks all all text
  link_begin all text none rest are = rw none are

  pub link_more : (left later all : List Link) (link : Link) (to text line new : List ℕ) → left ≡ link ∷ later → to ≡ receiver es key later
      → IsLinkLine Says es link to line → new ≡ text ++ line → AreFirstLinks left all text → AreFirstLinks later all new
  link_more left later all link to text line new parts given is more so_far rest are =
      let own = subst (λ (t : List ℕ). IsLinkLine Says es link t line) given is in
      rw (more, append_assoc text line rest) (so_far (line ++ rest) (rw parts (line, rest, own, refl, are)))

  pub link_end : (left all : List Link) (text : List ℕ) → length left ≡ 0 → AreFirstLinks left all text → AreLinkLines Says es key all text
  link_end [] all text none so_far = subst (AreLinkLines Says es key all) (append-nil text) (so_far [] refl)
  link_end (link ∷ left) all text none so_far = absurd (omega arith)
