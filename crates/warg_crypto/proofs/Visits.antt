-- Where a visit of several pieces stops.
use Rattle.std.proofs.Common.{ℕ, List, [], ◌++◌, Result, Ok, Err, OnErr, sym, ap, ◌∙◌, subst, append_assoc, append-nil}
use Rattle.warg_crypto.specs.Visits.{Stops}

pub on_err : {A E : Type 0} {P : Type 0} (r : Result A E) → P → OnErr r P
on_err (Ok x) p = tt
on_err (Err e) p = p

pub on_err-map : {A E : Type 0} {P Q : Type 0} (r : Result A E) → (P → Q) → OnErr r P → OnErr r Q
on_err-map (Ok x) f p = tt
on_err-map (Err e) f p = f p

module _ {V : Type 0} (seen refuses : V → List ℕ → Type 0) where
  -- the one piece is refused
  pub stops_at_once : {A E : Type 0} (old new : V) (bytes : List ℕ) (r : Result A E)
      → ((m : List ℕ) → seen old m → OnErr r (seen new m)) → OnErr r (refuses old bytes) → OnErr r (Stops seen refuses old new bytes)
  stops_at_once old new bytes (Ok x) same refused = tt
  stops_at_once old new bytes (Err e) same refused = record {
    front = [];
    piece = bytes;
    rest = [];
    whole = sym (append-nil bytes);
    saw = λ m h. subst (seen new) (sym (append-nil m)) (same m h);
    place = old;
    reached = λ m h. subst (seen old) (sym (append-nil m)) h;
    refused = refused;
  }

  -- it stops in the first of two parts
  pub stops_first : (old new : V) (a b : List ℕ) → Stops seen refuses old new a → Stops seen refuses old new (a ++ b)
  stops_first old new a b s = record {
    front = s.front;
    piece = s.piece;
    rest = s.rest ++ b;
    whole = ap (λ l. l ++ b) s.whole ∙ append_assoc s.front (s.piece ++ s.rest) b ∙ ap (λ l. s.front ++ l) (append_assoc s.piece s.rest b);
    saw = s.saw;
    place = s.place;
    reached = s.reached;
    refused = s.refused;
  }

  -- it stops in the second of two parts
  pub stops_second : (old mid new : V) (a b : List ℕ) → ((m : List ℕ) → seen old m → seen mid (m ++ a))
      → Stops seen refuses mid new b → Stops seen refuses old new (a ++ b)
  stops_second old mid new a b first s = record {
    front = a ++ s.front;
    piece = s.piece;
    rest = s.rest;
    whole = ap (λ l. a ++ l) s.whole ∙ sym (append_assoc a s.front (s.piece ++ s.rest));
    saw = λ m h. subst (seen new) (append_assoc m a s.front) (s.saw (m ++ a) (first m h));
    place = s.place;
    reached = λ m h. subst (seen s.place) (append_assoc m a s.front) (s.reached (m ++ a) (first m h));
    refused = s.refused;
  }
