-- The parts' words go into the handle, and with them what the parts own.
use Rattle.warg_c.proofs.Steps.{refl, List, [], ◌∷◌, ◌++◌, Val, id⊢, ftrue, fsep, WpFn, tables, ‵, raw, prop, ◌⊛◌, ◌$◌, ◌∵◌, !, qed, done, move, drop, use1, split, join, fsplit, fjoin, regoal, suffices, enter, of_opd, stop, fld, no_more, and_then, returns, whole, sub, agg, alloc_all, pass_all, free_all, look_at, get, get_in, sets, yes, type_at, nothing, says, Stays, stay_dropped, walk_of, ends_at, Goes-dropped, proved_at, D, B, word, box_typed}
use Rattle.std.specs.Prelude.{Some}
use Rattle.warg_c.proofs.RegistryAsBox.{E, FromParts}
use Rattle.warg_c.proofs.Words.{is_words}
use Rattle.warg_c.specs.contracts.registry_pointer.RegistryPointer.of_parts as f
use Rattle.warg_c.proofs.registry_pointer.RegistryPointer.of_parts.Statement.{statement}
use Rattle.warg_c.proofs.registry_pointer.RegistryPointer.of_parts.Code as code
use base.Logic.{emp}

abbrev stayed : Stays f.ended.signature.params f.ended.kept
stayed = (stay_dropped FromParts yes, tt)

pub of_parts_spec : {M : Type 1} → statement M
of_parts_spec 𝓤 𝓛 𝓜 𝓡 wired =
    let c = f.clauses 𝓛 𝓜.mem 𝓡.returns in let W = walk_of 𝓛 f.ended stayed c in let 𝓣 = tables 𝓤 𝓛.H 𝓜 𝓡 𝓡.env in
    proved_at 𝓛 f.ended stayed c 𝓜 𝓡 (Goes-dropped 𝓛 0 FromParts yes (λ κs x w. refl), tt) f.Key.name code.function (code.unfolded 𝓤 𝓛.H 𝓜 𝓡 wired) (λ y _.
    let parts = y.0.3.0 in
    let box : D E = record { ptr = parts.ptr; alloc = parts.alloc; value = parts.value } in
    let To = type_at f.signature.result tt in
    let made : To.Denot = record { at = box.ptr; alloc = box.alloc; kept = Some box.value } in
    qed 𝓛 ((‵ ftrue ⊛ ‵ (fsep ((B E).own_val box y.0.4.0) ftrue)) ∷ raw (emp 𝓤) ∷ []) ∵ split ! $ drop ! $ fsplit ! $
    is_words E ! box y.0.4.0 (λ b o hv e ws fits.
    let w = word E hv b o in
    regoal ! (λ (vs : List Val). prop (WpFn 𝓤 𝓛.H 𝓣.C 𝓣.Λ code.function (vs ++ []) (W.post y))) ws refl $
    use1 𝓛 (‵ (To.own_val made (w ∷ []))) (id⊢ 𝓤 _) $ move ! (1 ∷ 2 ∷ []) $ drop ! $ drop ! $
    enter ! _ _ _ _ _ $ alloc_all ! (λ ls. pass_all ! refl (box_typed E hv b o fits, tt) $
    sets ! (of_opd ! (get_in ! (fld ! refl (stop !)) (sub ! 0 refl (whole !)))) refl (tt, tt) $
    sets ! (of_opd ! (get_in ! (fld ! refl (stop !)) (sub ! 1 refl (whole !)))) refl fits $
    sets ! (of_opd ! (get ! refl)) refl (tt, tt) $
    sets ! (agg ! (and_then ! (get ! refl) (and_then ! (get ! refl) (no_more !)))) refl (box_typed E hv b o fits) $
    returns ! (look_at ! 0 refl) $ free_all ! refl $
    suffices ! _ (ends_at 𝓛 f.ended stayed c y w made (tt, tt) (tt, tt)) $ says ! refl $
    nothing ! $ nothing ! $ fjoin ! $ join ! $ nothing ! $ join ! $ done !)))
