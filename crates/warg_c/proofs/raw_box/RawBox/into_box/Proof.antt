-- What the parts own is what `from_raw` asks for.
use mir.Syntax.{Fn, Body}
use mir.MapTy.{inst_fn}
use mir.Val.{has_ty, WT}
use lib.Dec.{T}
use contract.BorrowLft.{◌⊑◌}
use denote.Triple.Table.{framed}
use denote.RattleType.{RattleType}
use denote.RawPtr.{block_ptr}
use denote.Triple.Call.{calls_at_last}
use denote.Triple.Clauses.{Ended}
use denote.Triple.Spec.{triple_of}
use Rattle.std.proofs.alloc.Calls.{Goes-blank}
use Rattle.std.proofs.VecSteps.Shapes.{after}
use Rattle.std.proofs.BoxSteps.Form.{R, P, args, box_ty}
use Rattle.warg_c.proofs.Steps.{◌≡◌, refl, sym, subst, ap, List, [], ◌∷◌, ◌++◌, Val, vptr, id⊢, ftrue, fsep, flft, WpFn, tables, fact, Item, ‵, raw, prop, ◌⊛◌, some, later, at_ret, ◌$◌, ◌∵◌, !, qed, done, move, drop, use1, split, split3, join, fsplit, fjoin, feq_i, pick, await, rewrite, regoal, suffices, group, enter, of_opd, stop, fld, no_more, and_then, first, blocks, exec, returns, whole, sub, alloc_all, pass_all, free_all, look_at, get, get_in, sets, lands_last, env, no, plain, heard, nothing, only, says, Stays, stay_dropped, walk_of, ends_at, proved_at, Bx, D, B, word, box_typed, box_out}
use Rattle.warg_c.proofs.Words.{is_words}
use Rattle.std.specs.contracts.boxed.Box.from_raw as g
use Rattle.std.proofs.boxed.Box.from_raw.Met.{met}
use Rattle.warg_c.specs.contracts.raw_box.RawBox as RawBox
use Rattle.warg_c.specs.contracts.raw_box.RawBox.into_box as f
use Rattle.warg_c.proofs.raw_box.RawBox.into_box.Statement.{statement}
use Rattle.warg_c.proofs.raw_box.RawBox.into_box.Code as code

-- the code behind the call
abbrev rest : Body
rest = after 1 (after 1 (after 1 code.function.body))

module _ (E : Bx) where
  abbrev F : Fn
  F = inst_fn (args E) code.function

  abbrev ended : Ended
  ended = f.ended E.row E.al.row E.al.g E.al.d E.al.drops

  abbrev From : RattleType
  From = RawBox.the_row (R E) (P E) E.al.g

  abbrev stayed : Stays ended.signature.params ended.kept
  stayed = (stay_dropped (plain (λ _. From)) no, tt)

pub into_box_spec : {M : Type 1} → statement M
into_box_spec 𝓤 𝓛 𝓜 𝓡 wired X Z LX LZ gh d dd allocator md =
    let E : Bx = record { row = X; laws = LX; al = record { row = Z; laws = LZ; g = gh; d = d; drops = dd } } in
    let 𝓣 = tables 𝓤 𝓛.H 𝓜 𝓡 𝓡.env in
    let c = f.clauses X Z gh d dd 𝓛 𝓜.mem 𝓡.returns in let W = walk_of 𝓛 (ended E) (stayed E) c in
    let G = triple_of 𝓛 (g.signature X Z gh d dd) (g.spec X Z gh d dd 𝓛 𝓜.mem 𝓡.returns) in
    proved_at 𝓛 (ended E) (stayed E) c 𝓜 𝓡 (Goes-blank 𝓛 2 (plain (λ _. From E)) no (λ κs x w. tt), tt) (f.Key.name (args E)) (F E) (code.unfolded 𝓤 𝓛.H 𝓜 𝓡 wired (X, (Z, tt)) d dd) (λ y _.
    let κs = y.0.0 in let qs = y.0.1 in let parts = y.0.3.0 in let a = parts.alloc in
    let box : D E = record { ptr = parts.ptr; alloc = a; value = parts.value } in
    let tokens : Item 𝓤 = ‵ (flft κs.0 qs.0) ⊛ ‵ (flft κs.1.0 qs.1.0) ⊛ ‵ ftrue in
    let outlive : Item 𝓤 = raw (fact 𝓤 (κs.0 ⊑ X.lives)) ⊛ raw (fact 𝓤 (κs.1.0 ⊑ Z.lives)) ⊛ ‵ ftrue in
    qed 𝓛 ((tokens ⊛ ‵ (fsep ((B E).own_val box y.0.4.0) ftrue)) ∷ outlive ∷ []) ∵ split ! $ move ! (1 ∷ []) $ fsplit ! $
    box_out E ! box y.0.4.0 (λ b o hv e ws fits. fjoin ! $
    let w = word E hv b o in
    let z : G.Ghost = ((κs, qs, tt, (a, (block_ptr b o, tt)), (hv ∷ [], (vptr b o ∷ [], tt))), box.value) in
    regoal ! (λ (vs : List Val). prop (WpFn 𝓤 𝓛.H 𝓣.C 𝓣.Λ (F E) (vs ++ []) (W.post y))) ws refl $
    enter ! _ _ _ _ _ $ alloc_all ! (λ ls. pass_all ! refl (box_typed E hv b o fits, tt) $
    sets ! (of_opd ! (get_in ! (fld ! refl (stop !)) (sub ! 0 refl (whole !)))) refl (tt, tt) $
    sets ! (of_opd ! (get_in ! (fld ! refl (stop !)) (sub ! 1 refl (whole !)))) refl fits $
    first ! $ blocks ! $ sets ! (of_opd ! (get ! refl)) refl fits $
    -- [the block; the allocator; nothing; the tokens; what outlives what]
    move ! (4 ∷ []) $ split3 ! $ move ! (0 ∷ 1 ∷ 3 ∷ []) $ group ! 3 $ move ! (1 ∷ []) $ drop ! $
    -- [what `from_raw` requires; the allocator; nothing; the tokens]
    move ! (2 ∷ []) $ feq_i ! (List Val) (vptr b o ∷ []) (vptr b o ∷ []) refl $ fjoin ! $ move ! (2 ∷ 0 ∷ []) $ fjoin ! $ move ! (2 ∷ 0 ∷ []) $ join ! $ join ! $
    use1 𝓛 (raw (G.pre z)) (id⊢ 𝓤 _) $
    calls_at_last ! (framed 𝓤 𝓛.H 𝓜 𝓣) G (met 𝓤 𝓛 𝓜 𝓡 (code.calls-std_alloc::boxed::Box::from_raw 𝓡.env wired) X Z LX LZ gh d dd allocator md) z
    (and_then ! (get ! refl) (and_then ! (get ! refl) (no_more !))) (λ u.
    use1 𝓛 (later (some (λ (r : D E). (tokens ⊛ ‵ ((B E).own_val r (u ∷ []))) ⊛ some (λ (_ : Unit {0} × (Unit {0} × Unit {0})). ‵ (fsep ftrue (fsep ftrue ftrue)) ⊛ (raw (fact 𝓤 (r.value ≡ box.value)) ⊛ raw (fact 𝓤 (r.alloc ≡ a))))))) (id⊢ 𝓤 _) $
    await ! tt $ pick ! (λ r. split ! $ move ! (1 ∷ []) $ pick ! (λ _. split3 ! $ drop ! $ heard ! (r.value ≡ box.value) (λ same. drop ! $ split ! $ move ! (1 ∷ []) $
    is_words E ! r (u ∷ []) (λ b' o' hw e' wu held.
    let typed : T (has_ty (box_ty E) u) × WT u = subst (λ (v : Val). T (has_ty (box_ty E) v) × WT v) (sym (ap only wu)) (box_typed E hw b' o' held) in
    rewrite ! 0 (λ (us : List Val). ‵ ((B E).own_val r us)) (sym wu) refl $
    lands_last ! refl typed $ exec ! 𝓣.C 𝓣.Λ (env (F E).locals ls) rest (at_ret (env (F E).locals ls) (W.post y)) $
    sets ! (of_opd ! (get ! refl)) refl typed $ returns ! (look_at ! 0 refl) $ free_all ! refl $
    suffices ! _ (ends_at 𝓛 (ended E) (stayed E) c y u r ((tt, (tt, tt)), tt) (tt, tt)) $ says ! same $
    nothing ! $ nothing ! $ fjoin ! $ join ! $ move ! (1 ∷ 0 ∷ []) $ join ! $ done !))))))))
