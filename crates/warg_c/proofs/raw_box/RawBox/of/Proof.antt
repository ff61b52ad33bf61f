-- What `into_raw_with_allocator` leaves of the box is what the parts own.
use mir.Syntax.{Fn, Args, Dict, a_type, dcons, dnil}
use mir.MapTy.{inst_fn}
use mir.Raw.{raw as bare}
use base.Logic.{never, fst∗}
use contract.BorrowLft.{◌⊑◌}
use denote.Param.{bounded}
use denote.RattleType.{RattleType}
use denote.RawPtr.{Ptr, RawPtr, block_ptr, null_ptr, ptr_val, in_a_block}
use denote.Struct.Tuple.{Tuple}
use denote.Triple.Call.{calls_at}
use denote.Triple.Clauses.{Ended}
use denote.Triple.Spec.{triple_of}
use denote.Triple.Table.{framed}
use Rattle.std.specs.Box.Ownership.{box_owns}
use Rattle.std.proofs.alloc.Calls.{token, handle_tells, Goes-blank}
use Rattle.std.proofs.BoxSteps.Form.{τ, R, P}
use Rattle.warg_c.proofs.Steps.{◌≡◌, refl, ap, ◌∙◌, List, [], ◌∷◌, ◌++◌, Val, vstruct, of_list, id⊢, ftrue, fsep, flft, WpFn, sem, tables, fact, Item, ‵, raw, prop, ◌⊛◌, some, later, ◌$◌, ◌∵◌, !, qed, done, move, drop, use1, split, split3, join, fsplit, fjoin, fpick, feq_l, pick, await, rewrite, regoal, suffices, enter, of_opd, stop, fld, no_more, and_then, returns, whole, sub, agg, alloc_all, pass_all, free_all, look_at, get, get_in, sets, lands_as, no, plain, heard, nothing, only, says, Stays, stay_dropped, walk_of, ends_at, proved_at, Bx, B, word, box_typed, box_in}
use Rattle.warg_c.proofs.Words.{is_words}
use Rattle.std.specs.contracts.boxed.Box.into_raw_with_allocator as g
use Rattle.std.proofs.boxed.Box.into_raw_with_allocator.Met.{met}
use Rattle.warg_c.specs.contracts.raw_box.RawBox as RawBox
use Rattle.warg_c.specs.contracts.raw_box.RawBox.of as f
use Rattle.warg_c.proofs.raw_box.RawBox.of.Statement.{statement}
use Rattle.warg_c.proofs.raw_box.RawBox.of.Code as code

module _ (E : Bx) (glue : Dict) where
  -- what a call passes: the types, and how the value and the allocator are let go
  abbrev args : Args
  args = bounded (a_type ∷ a_type ∷ []) (E.row, (E.al.row, tt)) (dcons E.al.d (dcons E.al.drops (dcons glue dnil)))

  abbrev F : Fn
  F = inst_fn args code.function

  abbrev ended : Ended
  ended = f.ended E.row E.al.row E.al.g E.al.d E.al.drops glue

  abbrev stayed : Stays ended.signature.params ended.kept
  stayed = (stay_dropped (plain (λ _. B E)) no, tt)

  abbrev To : RattleType
  To = RawBox.the_row (R E) (P E) E.al.g

pub of_spec : {M : Type 1} → statement M
of_spec 𝓤 𝓛 𝓜 𝓡 wired X Z LX LZ gh d dd dx allocator md glue =
    let E : Bx = record { row = X; laws = LX; al = record { row = Z; laws = LZ; g = gh; d = d; drops = dd } } in
    let 𝓣 = tables 𝓤 𝓛.H 𝓜 𝓡 𝓡.env in
    let c = f.clauses X Z gh d dd dx 𝓛 𝓜.mem 𝓡.returns in let W = walk_of 𝓛 (ended E dx) (stayed E dx) c in
    let G = triple_of 𝓛 (g.signature X Z gh d dd dx) (g.spec X Z gh d dd dx 𝓛 𝓜.mem 𝓡.returns) in
    proved_at 𝓛 (ended E dx) (stayed E dx) c 𝓜 𝓡 (Goes-blank 𝓛 2 (plain (λ _. B E)) no (λ κs x w. tt), tt) (f.Key.name (args E dx)) (F E dx) (code.unfolded 𝓤 𝓛.H 𝓜 𝓡 wired (X, (Z, tt)) d dd dx) (λ y _.
    let κs = y.0.0 in let qs = y.0.1 in let box = y.0.3.0 in let a = box.alloc in
    let LogPointer = λ (p : Ptr). box_owns (token E.al a) (R E) p box.value in
    let tokens : Item 𝓤 = ‵ (flft κs.0 qs.0) ⊛ ‵ (flft κs.1.0 qs.1.0) ⊛ ‵ ftrue in
    let outlive : Item 𝓤 = raw (fact 𝓤 (κs.0 ⊑ X.lives)) ⊛ raw (fact 𝓤 (κs.1.0 ⊑ Z.lives)) ⊛ ‵ ftrue in
    qed 𝓛 ((tokens ⊛ ‵ (fsep ((B E).own_val box y.0.4.0) ftrue)) ∷ outlive ∷ []) ∵ split ! $ move ! (1 ∷ []) $ fsplit ! $
    is_words E ! box y.0.4.0 (λ b o hv e ws fits.
    let w = word E hv b o in
    let z : G.Ghost = ((κs, qs, tt, (box, tt), (w ∷ [], tt)), tt) in
    regoal ! (λ (vs : List Val). prop (WpFn 𝓤 𝓛.H 𝓣.C 𝓣.Λ (F E dx) (vs ++ []) (W.post y))) ws refl $
    enter ! _ _ _ _ _ $ alloc_all ! (λ ls. pass_all ! refl (box_typed E hv b o fits, tt) $
    sets ! (of_opd ! (get ! refl)) refl (box_typed E hv b o fits) $
    fjoin ! $ move ! (1 ∷ 0 ∷ []) $ join ! $ join ! $ use1 𝓛 (raw (G.pre z)) (id⊢ 𝓤 _) $
    calls_at ! (framed 𝓤 𝓛.H 𝓜 𝓣) G (met 𝓤 𝓛 𝓜 𝓡 (code.calls-std_alloc::boxed::Box::into_raw_with_allocator 𝓡.env wired) X Z LX LZ gh d dd dx allocator md glue) z
    (and_then ! (get ! refl) (no_more !)) (λ u.
    use1 𝓛 (later (some (λ (r : Ptr × Z.Denot). (tokens ⊛ ‵ ((Tuple (RawPtr ∷ P E ∷ [])).own_val r (u ∷ []))) ⊛ some (λ (_ : (Unit {0} × (Unit {0} × Unit {0})) × Unit {0}). ‵ (fsep (fsep ftrue (fsep ftrue ftrue)) ftrue) ⊛ (raw (fact 𝓤 (r.1 ≡ a)) ⊛ ‵ (LogPointer r.0)))))) (id⊢ 𝓤 _) $
    await ! tt $ pick ! (λ r. split ! $ move ! (1 ∷ []) $ pick ! (λ _. split3 ! $ drop ! $ heard ! (r.1 ≡ a) (λ same.
    in_a_block ! r.0 LogPointer (fst∗ 𝓤 (never 𝓤) (sem 𝓛 (token E.al a (bare (τ E)) null_ptr))) (λ b' o' e'.
    -- [the block; the tokens with the pair]
    move ! (1 ∷ []) $ split ! $ move ! (1 ∷ []) $ fpick ! (λ vss. fsplit ! $ feq_l ! (λ is_pair. fsplit ! $ feq_l ! (λ is_ptr. fsplit ! $
    rewrite ! 0 (λ (s : Z.Denot). ‵ (Z.own_val s vss.1.0)) same refl $
    handle_tells E.al ! a vss.1.0 (λ hw is_alloc held.
    let made : (To E dx).Denot = record { ptr = block_ptr b' o'; alloc = a; value = box.value } in
    let w' = word E hw b' o' in
    lands_as ! (ap only (is_pair ∙ (λ i. vstruct (of_list ((is_ptr ∙ ap (λ (p : Ptr). ptr_val p ∷ []) e') i ++ (is_alloc i ++ []))) ∷ []))) refl (box_typed E hw b' o' held) $
    sets ! (of_opd ! (get_in ! (fld ! refl (stop !)) (sub ! 0 refl (whole !)))) refl (tt, tt) $
    sets ! (of_opd ! (get_in ! (fld ! refl (stop !)) (sub ! 1 refl (whole !)))) refl held $
    sets ! (of_opd ! (get ! refl)) refl held $
    sets ! (agg ! (and_then ! (get ! refl) (and_then ! (get ! refl) (no_more !)))) refl (box_typed E hw b' o' held) $
    returns ! (look_at ! 0 refl) $ free_all ! refl $
    -- [the allocator; nothing; the tokens; the block]
    move ! (3 ∷ []) $ fsplit ! $ box_in E ! (record { ptr = block_ptr b' o'; alloc = a; value = box.value }) b' o' box.value refl refl $
    use1 𝓛 (‵ ((To E dx).own_val made (w' ∷ []))) (id⊢ 𝓤 _) $ move ! (1 ∷ []) $ drop ! $
    suffices ! _ (ends_at 𝓛 (ended E dx) (stayed E dx) c y w' made ((tt, (tt, tt)), tt) (tt, tt)) $ says ! refl $
    nothing ! $ nothing ! $ fjoin ! $ join ! $ move ! (1 ∷ 0 ∷ []) $ join ! $ done !))))))))))))
