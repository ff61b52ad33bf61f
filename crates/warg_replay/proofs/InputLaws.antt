-- Inputs that are read as items: the first that can't come next.
use Rattle.std.proofs.Common.{◌≡◌, List, [], ◌∷◌, ◌++◌, Option, Some, None, Result, Ok, Err, refl, sym, ap, ◌∙◌, subst, append_assoc}
use Rattle.std.specs.List.{cons_option}
use Rattle.std.specs.Option.{option_map}
use Rattle.std.proofs.lemmas.List.{append-nil}
use Rattle.std.proofs.lemmas.List.Elements.{filter_map-append}
use Rattle.warg_log_records.specs.Walks.{AllLawful, IsStepwise}
use Rattle.warg_replay.specs.Inputs.{Unlawful, ok, read_all, cause_of, after_read}

none_inside : {A B : Type 0} (f : A → B) (o : Option A) → option_map f o ≡ None → o ≡ None
none_inside f None h = refl
none_inside f (Some x) h = cc

module _ {V X C S F : Type 0} (offence : V → X → Option C) (after : V → X → V) (start : V) (view : List X → V) (Good : List X → Type 0) (s : IsStepwise after offence start view Good) (read : S → Result X F) where
  read_one : (xs : List X) (r : Result X F) → Good xs → cause_of offence (view xs) r ≡ None → Good (xs ++ cons_option (ok r) []) × (view (xs ++ cons_option (ok r) []) ≡ after_read after (view xs) r)
  read_one xs (Ok x) good h = s.more xs x good (none_inside Unlawful (offence (view xs) x) h)
  read_one xs (Err f) good h = cc

  module _ (xs : List X) (good : Good xs) where
    read_push : (ss : List S) (t : S) → xs ++ read_all read (ss ++ t ∷ []) ≡ (xs ++ read_all read ss) ++ cons_option (ok (read t)) []
    read_push ss t = ap (λ l. xs ++ l) (filter_map-append (λ u. ok (read u)) ss (t ∷ [])) ∙ sym (append_assoc xs (read_all read ss) (cons_option (ok (read t)) []))

    -- inputs after the items are walked as the items are
    pub strings-stepwise : IsStepwise (λ v t. after_read after v (read t)) (λ v t. cause_of offence v (read t)) (view xs) (λ ss. view (xs ++ read_all read ss)) (λ ss. Good (xs ++ read_all read ss))
    strings-stepwise = record {
      none = ap view (append-nil xs);
      good = subst Good (sym (append-nil xs)) good;
      more = λ ss t h none.
          let step = read_one (xs ++ read_all read ss) (read t) h none in
          (subst Good (sym (read_push ss t)) step.0, ap view (read_push ss t) ∙ step.1);
    }

    read_cons : (v : V) (r : Result X F) (ys : List X) → cause_of offence v r ≡ None → AllLawful after offence (after_read after v r) ys → AllLawful after offence v (cons_option (ok r) ys)
    read_cons v (Ok x) ys h rest = (none_inside Unlawful (offence v x) h, rest)
    read_cons v (Err f) ys h rest = cc

    -- inputs of which none can't come next are lawful items
    pub strings-lawful : (v : V) (ss : List S) → AllLawful (λ v t. after_read after v (read t)) (λ v t. cause_of offence v (read t)) v ss → AllLawful after offence v (read_all read ss)
    strings-lawful v [] h = tt
    strings-lawful v (t ∷ ss) h = read_cons v (read t) (read_all read ss) h.0 (strings-lawful (after_read after v (read t)) ss h.1)
