-- What is read of an object that was written from pairs: at each name the same value.
use Rattle.std.specs.Prelude.{ℕ, ◌≡◌, List, [], ◌∷◌, map, Bool, true, false, ◌||◌, if◌then◌else◌, cond, ⊤, Option, Some, None, Result, Ok, refl}
use Rattle.std.specs.declared.cmp.Ordering.{Ordering}
use Rattle.std.specs.declared.cmp.Ordering.TheVariants.{Less, Equal, Greater}
use Rattle.std.specs.Cmp.Lexicographic.{slice_cmp}
use Rattle.std.specs.List.{list_any}
use Rattle.std.specs.Ordering.{nat_cmp, is_eq, match_ordering}
use Rattle.std.specs.Str.{bytes_eq}
use Rattle.std.proofs.Common.{sym, ap, ◌∙◌, subst, true≢false}
use Rattle.std.proofs.lemmas.Map.Text.{is_eq-slice_cmp}
use Rattle.std.proofs.lemmas.Slice.Eq.{bytes_eq-Decides}
use Rattle.serde_json.specs.Data.{Data, Members, no_members, member, put}
use Rattle.warg_crypto.specs.declared.json.error.JsonError.{JsonError}
use Rattle.warg_crypto.specs.Json.Pairs.{IsUniquePairs, names_of, pairs_in, pairs_json, pairs_of, pairs_onto, value_at}
use Rattle.warg_crypto.specs.Json.JsonLaws.{ok_same, bind_ok}

or_first : (a b : Bool) → (a || b) ≡ false → a ≡ false
or_first true b h = h
or_first false b h = refl

or_second : (a b : Bool) → (a || b) ≡ false → b ≡ false
or_second true b h = cc h
or_second false b h = h

same_name : (k l : List ℕ) → slice_cmp nat_cmp k l ≡ Equal → k ≡ l
same_name k l e = (bytes_eq-Decides k l).0 (sym (is_eq-slice_cmp k l) ∙ ap is_eq e)

other_name : (k l : List ℕ) → is_eq (slice_cmp nat_cmp k l) ≡ false → k ≡ l → ⊥
other_name k l e same = true≢false (sym ((bytes_eq-Decides k l).1 same) ∙ sym (is_eq-slice_cmp k l) ∙ e)

swapped : {A : Type 0} (q k l : List ℕ) (x y : A) (o : Option A) → (k ≡ l → ⊥)
    → (if bytes_eq q l then Some y else if bytes_eq q k then Some x else o) ≡ (if bytes_eq q k then Some x else if bytes_eq q l then Some y else o)
swapped {A} q k l x y o apart = by (bytes_eq q k) (bytes_eq q l) refl refl
  where
    by : (a b : Bool) → bytes_eq q k ≡ a → bytes_eq q l ≡ b
        → (if b then Some y else if a then Some x else o) ≡ (if a then Some x else if b then Some y else o)
    by true true s t = absurd (apart (sym ((bytes_eq-Decides q k).0 s) ∙ (bytes_eq-Decides q l).0 t))
    by true false s t = refl
    by false true s t = refl
    by false false s t = refl

covered : {A : Type 0} (q l : List ℕ) (x y : A) (o : Option A)
    → (if bytes_eq q l then Some x else o) ≡ (if bytes_eq q l then Some x else if bytes_eq q l then Some y else o)
covered {A} q l x y o = by (bytes_eq q l)
  where
    by : (b : Bool) → (if b then Some x else o) ≡ (if b then Some x else if b then Some y else o)
    by true = refl
    by false = refl

module _ {K A : Type 0} (name_of : K → List ℕ) where
  -- what the pairs have at the name q, where the last counts, and before them o
  abbrev pub latest : List ℕ → List (K × A) → Option A → Option A
  latest q [] o = o
  latest q (e ∷ es) o = latest q es (if bytes_eq q (name_of e.0) then Some e.1 else o)

  value_at-same : (es : List (K × A)) (q r : List ℕ) → q ≡ r → value_at name_of q es ≡ value_at name_of r es
  value_at-same es q r e = ap (λ (n : List ℕ). value_at name_of n es) e

  latest-absent : (q : List ℕ) (es : List (K × A)) (o : Option A) → value_at name_of q es ≡ None → latest q es o ≡ o
  latest-absent q [] o h = refl
  latest-absent q (e ∷ es) o h = by (λ n. latest-absent q es o n) (bytes_eq q (name_of e.0)) h
    where
      by : (value_at name_of q es ≡ None → latest q es o ≡ o) → (b : Bool) → cond b (Some e.1) (value_at name_of q es) ≡ None
          → latest q es (if b then Some e.1 else o) ≡ o
      by again true n = cc n
      by again false n = again n

  -- where no two pairs have one name, the last with a name is the first with it
  pub latest-unique : (q : List ℕ) (es : List (K × A)) → IsUniquePairs name_of es → latest q es None ≡ value_at name_of q es
  latest-unique q [] h = refl
  latest-unique q (e ∷ es) h = by (latest-unique q es h.1) (bytes_eq q (name_of e.0)) refl
    where
      by : latest q es None ≡ value_at name_of q es → (b : Bool) → bytes_eq q (name_of e.0) ≡ b
          → latest q es (if b then Some e.1 else None) ≡ cond b (Some e.1) (value_at name_of q es)
      by again true t = latest-absent q es (Some e.1) (value_at-same es q (name_of e.0) ((bytes_eq-Decides q (name_of e.0)).0 t) ∙ h.0)
      by again false t = again

module _ {K A : Type 0} (named : List ℕ → Result K JsonError) (name_of : K → List ℕ) (reads : Data → Result A JsonError) (test : K × A → Bool) where
  -- the pairs that are read of members: at each name they have what f says, and none passes the test
  pub record Reads (ms : Members) (f : List ℕ → Option A) : Type 0 where
    pub pairs : List (K × A)
    pub is : pairs_of named reads ms ≡ Ok pairs
    pub names : map (λ e. name_of e.0) pairs ≡ names_of ms
    pub at : (q : List ℕ) → value_at name_of q pairs ≡ f q
    pub none_pass : list_any test pairs ≡ false

  -- a name that reads back, under which a value may stand
  pub record NameBack (name : List ℕ) (k : K) : Type 0 where
    pub is : named name ≡ Ok k
    pub back : name_of k ≡ name

  reads-member : (name : List ℕ) (k : K) (d : Data) (x : A) (more : Members) (f : List ℕ → Option A) → NameBack name k
      → reads d ≡ Ok x → test (k, x) ≡ false → Reads more f
      → Reads (member name d more) (λ q. if bytes_eq q name then Some x else f q)
  reads-member name k d x more f own is fails r = record {
    pairs = (k, x) ∷ r.pairs;
    is = rw (own.is, is, r.is) refl;
    names = λ i. own.back i ∷ r.names i;
    at = λ q. (λ i. cond (bytes_eq q (own.back i)) (Some x) (r.at q i));
    none_pass = rw fails r.none_pass;
  }

  reads-same : (ms : Members) (f g : List ℕ → Option A) → ((q : List ℕ) → f q ≡ g q) → Reads ms f → Reads ms g
  reads-same ms f g h r = record { pairs = r.pairs; is = r.is; names = r.names; at = λ q. r.at q ∙ h q; none_pass = r.none_pass }

  -- the first member's name and value, and what was read of the others
  record Parts (l : List ℕ) (e : Data) (ms : Members) (f : List ℕ → Option A) : Type 0 where
    key : K
    own : NameBack l key
    first : A
    first_is : reads e ≡ Ok first
    fails : test (key, first) ≡ false
    g : List ℕ → Option A
    rest : Reads ms g
    at : (q : List ℕ) → f q ≡ (if bytes_eq q l then Some first else g q)

  head_same : (a b : List ℕ) (ns ms : List (List ℕ)) → (a ∷ ns) ≡ (b ∷ ms) → a ≡ b
  head_same a b ns ms e = cc

  tail_same : (a b : List ℕ) (ns ms : List (List ℕ)) → (a ∷ ns) ≡ (b ∷ ms) → ns ≡ ms
  tail_same a b ns ms e = cc

  parts-of : (l : List ℕ) (e : Data) (ms : Members) (f : List ℕ → Option A) → Reads (member l e ms) f → Parts l e ms f
  parts-of l e ms f r =
      let n = bind_ok (named l) _ r.pairs r.is in
      let a = bind_ok (reads e) _ r.pairs n.2 in
      let b = bind_ok (pairs_of named reads ms) _ r.pairs a.2 in
      let whole : ((n.0, a.0) ∷ b.0) ≡ r.pairs = ok_same _ _ b.2 in
      let names : map (λ e. name_of e.0) ((n.0, a.0) ∷ b.0) ≡ (l ∷ names_of ms) = ap (λ (ps : List (K × A)). map (λ e. name_of e.0) ps) whole ∙ r.names in
      let back : name_of n.0 ≡ l = head_same _ _ _ _ names in
      let none : list_any test ((n.0, a.0) ∷ b.0) ≡ false = ap (λ (ps : List (K × A)). list_any test ps) whole ∙ r.none_pass in
      record {
        key = n.0;
        own = record { is = n.1; back = back };
        first = a.0;
        first_is = a.1;
        fails = or_first _ _ none;
        g = λ q. value_at name_of q b.0;
        rest = record { pairs = b.0; is = b.1; names = tail_same _ _ _ _ names; at = λ q. refl; none_pass = or_second _ _ none };
        at = λ q. sym (r.at q) ∙ sym (ap (λ (ps : List (K × A)). value_at name_of q ps) whole) ∙ (λ i. cond (bytes_eq q (back i)) (Some a.0) (value_at name_of q b.0));
      }

  put-at : (o : Ordering) (name : List ℕ) (k : K) (d : Data) (x : A) (l : List ℕ) (e : Data) (ms : Members) (f : List ℕ → Option A) → slice_cmp nat_cmp name l ≡ o
      → NameBack name k → reads d ≡ Ok x → test (k, x) ≡ false → Reads (member l e ms) f
      → ((h : List ℕ → Option A) → Reads ms h → Reads (put name d ms) (λ q. if bytes_eq q name then Some x else h q))
      → Reads (match_ordering o (member name d (member l e ms)) (member l d ms) (member l e (put name d ms))) (λ q. if bytes_eq q name then Some x else f q)
  put-at Less name k d x l e ms f c own is fails r again = reads-member name k d x (member l e ms) f own is fails r
  put-at Equal name k d x l e ms f c own is fails r again =
      let p = parts-of l e ms f r in
      let same : name ≡ l = same_name name l c in
      subst (λ (m : List ℕ). Reads (member l d ms) (λ q. if bytes_eq q m then Some x else f q)) (sym same)
      (reads-same (member l d ms) (λ q. if bytes_eq q l then Some x else p.g q) (λ q. if bytes_eq q l then Some x else f q)
      (λ q. covered q l x p.first (p.g q) ∙ ap (λ (o : Option A). if bytes_eq q l then Some x else o) (sym (p.at q)))
      (reads-member l k d x ms p.g (subst (λ (m : List ℕ). NameBack m k) same own) is fails p.rest))
  put-at Greater name k d x l e ms f c own is fails r again =
      let p = parts-of l e ms f r in
      reads-same (member l e (put name d ms)) (λ q. if bytes_eq q l then Some p.first else if bytes_eq q name then Some x else p.g q) (λ q. if bytes_eq q name then Some x else f q)
      (λ q. swapped q name l x p.first (p.g q) (other_name name l (ap is_eq c)) ∙ ap (λ (o : Option A). if bytes_eq q name then Some x else o) (sym (p.at q)))
      (reads-member l p.key e p.first (put name d ms) (λ q. if bytes_eq q name then Some x else p.g q) p.own p.first_is p.fails (again p.g p.rest))

  -- after a put, the value that was put is read at its name
  pub reads-put : (name : List ℕ) (k : K) (d : Data) (x : A) (ms : Members) (f : List ℕ → Option A) → NameBack name k
      → reads d ≡ Ok x → test (k, x) ≡ false → Reads ms f
      → Reads (put name d ms) (λ q. if bytes_eq q name then Some x else f q)
  reads-put name k d x no_members f own is fails r = reads-member name k d x no_members f own is fails r
  reads-put name k d x (member l e ms) f own is fails r = put-at _ name k d x l e ms f refl own is fails r (λ h s. reads-put name k d x ms h own is fails s)

  -- of no members nothing is read
  pub reads-none : Reads no_members (λ q. None)
  reads-none = record { pairs = []; is = refl; names = refl; at = λ q. refl; none_pass = refl }

  module _ (writes : A → Result Data JsonError) where
    -- what is written of the one pair is read as the other, which fails the test
    pub record IsReadAs (e f : K × A) : Type 0 where
      pub name : NameBack (name_of e.0) f.0
      pub value : (d : Data) → writes e.1 ≡ Ok d → reads d ≡ Ok f.1
      pub fails : test f ≡ false

    -- so it is of the pairs of the two lists, one by one
    abbrev pub AreReadAs : List (K × A) → List (K × A) → Type 0
    AreReadAs [] [] = ⊤
    AreReadAs (e ∷ es) (f ∷ fs) = IsReadAs e f × AreReadAs es fs
    AreReadAs [] (f ∷ fs) = ⊥
    AreReadAs (e ∷ es) [] = ⊥

    reads-onto : (ms out : Members) (es fs : List (K × A)) (f : List ℕ → Option A) → Reads ms f → AreReadAs es fs
        → pairs_onto name_of writes ms es ≡ Ok out
        → Reads out (λ q. latest name_of q fs (f q))
    reads-onto ms out [] [] f r read is = subst (λ (m : Members). Reads m f) (ok_same ms out is) r
    reads-onto ms out [] (g ∷ fs) f r read is = absurd read
    reads-onto ms out (e ∷ es) [] f r read is = absurd read
    reads-onto ms out (e ∷ es) (g ∷ fs) f r read is =
        let w = bind_ok (writes e.1) _ out is in
        reads-onto (put (name_of e.0) w.0 ms) out es fs (λ q. if bytes_eq q (name_of g.0) then Some g.1 else f q)
        (reads-same (put (name_of e.0) w.0 ms) (λ q. if bytes_eq q (name_of e.0) then Some g.1 else f q) (λ q. if bytes_eq q (name_of g.0) then Some g.1 else f q)
        (λ q. ap (λ (n : List ℕ). if bytes_eq q n then Some g.1 else f q) (sym read.0.name.back))
        (reads-put (name_of e.0) g.0 w.0 g.1 ms f read.0.name (read.0.value w.0 w.1) read.0.fails r)) read.1 w.2

    -- what was written of pairs is read, and at each name it has what the pairs have
    pub reads-written : (out : Members) (es fs : List (K × A)) → AreReadAs es fs → IsUniquePairs name_of fs
        → pairs_onto name_of writes no_members es ≡ Ok out
        → Reads out (λ q. value_at name_of q fs)
    reads-written out es fs read unique is =
        reads-same out (λ q. latest name_of q fs None) (λ q. value_at name_of q fs) (λ q. latest-unique name_of q fs unique) (reads-onto no_members out es fs (λ q. None) reads-none read is)

    -- the same of the whole object
    pub record ReadsPairs (d : Data) (fs : List (K × A)) : Type 0 where
      pub pairs : List (K × A)
      pub is : pairs_in named reads d ≡ Ok pairs
      pub at : (q : List ℕ) → value_at name_of q pairs ≡ value_at name_of q fs
      pub none_pass : list_any test pairs ≡ false

    -- an object that was written of pairs is read, and at each name it has what the pairs have
    pub pairs_read_back : (es fs : List (K × A)) (d : Data) → AreReadAs es fs → IsUniquePairs name_of fs
        → pairs_json name_of writes es ≡ Ok d → ReadsPairs d fs
    pairs_read_back es fs d read unique is =
        let w = bind_ok (pairs_onto name_of writes no_members es) _ d is in
        let r = reads-written w.0 es fs read unique w.1 in
        record { pairs = r.pairs; is = subst (λ (x : Data). pairs_in named reads x ≡ Ok r.pairs) (ok_same _ _ w.2) r.is; at = r.at; none_pass = r.none_pass }
