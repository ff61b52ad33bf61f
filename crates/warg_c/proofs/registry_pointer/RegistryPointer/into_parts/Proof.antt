-- The handle's words go into the parts, and with them what a handle that holds something owns.
use Rattle.warg_c.proofs.Steps.{◌≡◌, refl, sym, List, [], ◌∷◌, ◌++◌, Val, id⊢, ftrue, fsep, WpFn, tables, fact, ‵, raw, prop, ◌⊛◌, ◌$◌, ◌∵◌, !, qed, done, move, drop, use1, split, join, fsplit, fjoin, rewrite, regoal, suffices, enter, of_opd, stop, fld, no_more, and_then, returns, whole, sub, agg, alloc_all, pass_all, free_all, look_at, get, get_in, sets, yes, type_at, heard, nothing, says, Stays, stay_dropped, walk_of, ends_at, Goes-dropped, proved_at, D, B, word, box_typed}
use Rattle.std.specs.Prelude.{true, Option, Some, None, is_some}
use Rattle.std.proofs.lemmas.Bool.{false≢true}
use Rattle.warg_c.specs.KeptRegistry.{RegistryValue}
use Rattle.warg_c.proofs.RegistryAsBox.{E, FromOwned}
use Rattle.warg_c.proofs.Words.{is_words}
use Rattle.warg_c.specs.contracts.registry_pointer.RegistryPointer as RegistryPointer
use Rattle.warg_c.specs.contracts.registry_pointer.RegistryPointer.into_parts as f
use Rattle.warg_c.proofs.registry_pointer.RegistryPointer.into_parts.Statement.{statement}
use Rattle.warg_c.proofs.registry_pointer.RegistryPointer.into_parts.Code as code

abbrev stayed : Stays f.ended.signature.params f.ended.kept
stayed = (stay_dropped FromOwned yes, tt)

held : (m : Option RegistryValue) → is_some m ≡ true → (x : RegistryValue) × (m ≡ Some x)
held (Some x) _ = (x, refl)
held None h = absurd (false≢true h)

pub into_parts_spec : {M : Type 1} → statement M
into_parts_spec 𝓤 𝓛 𝓜 𝓡 wired =
    let c = f.clauses 𝓛 𝓜.mem 𝓡.returns in let W = walk_of 𝓛 f.ended stayed c in let 𝓣 = tables 𝓤 𝓛.H 𝓜 𝓡 𝓡.env in
    proved_at 𝓛 f.ended stayed c 𝓜 𝓡 (Goes-dropped 𝓛 0 FromOwned yes (λ κs x w. refl), tt) f.Key.name code.function (code.unfolded 𝓤 𝓛.H 𝓜 𝓡 wired) (λ y _.
    let h = y.0.3.0 in
    let To = type_at f.signature.result tt in
    qed 𝓛 ((‵ ftrue ⊛ ‵ (fsep (RegistryPointer.the_row.own_val h y.0.4.0) ftrue)) ∷ raw (fact 𝓤 (is_some h.kept ≡ true)) ∷ []) ∵
    move ! (1 ∷ []) $ heard ! (is_some h.kept ≡ true) (λ some.
    let x = (held h.kept some).0 in let is = (held h.kept some).1 in
    let box : D E = record { ptr = h.at; alloc = h.alloc; value = x } in
    let made : To.Denot = record { ptr = h.at; alloc = h.alloc; value = x } in
    split ! $ drop ! $ fsplit ! $
    rewrite ! 0 (λ (m : Option RegistryValue). ‵ (RegistryPointer.the_row.own_val (record h { kept = m }) y.0.4.0)) is refl $
    use1 𝓛 (‵ ((B E).own_val box y.0.4.0)) (id⊢ 𝓤 _) $
    is_words E ! box y.0.4.0 (λ b o hv e ws fits.
    let w = word E hv b o in
    regoal ! (λ (vs : List Val). prop (WpFn 𝓤 𝓛.H 𝓣.C 𝓣.Λ code.function (vs ++ []) (W.post y))) ws refl $
    use1 𝓛 (‵ (To.own_val made (w ∷ []))) (id⊢ 𝓤 _) $ move ! (1 ∷ []) $ drop ! $
    enter ! _ _ _ _ _ $ alloc_all ! (λ ls. pass_all ! refl (box_typed E hv b o fits, tt) $
    sets ! (of_opd ! (get_in ! (fld ! refl (stop !)) (sub ! 0 refl (whole !)))) refl (tt, tt) $
    sets ! (of_opd ! (get_in ! (fld ! refl (stop !)) (sub ! 1 refl (whole !)))) refl fits $
    sets ! (of_opd ! (get ! refl)) refl (tt, tt) $
    sets ! (agg ! (and_then ! (get ! refl) (and_then ! (get ! refl) (no_more !)))) refl (box_typed E hv b o fits) $
    returns ! (look_at ! 0 refl) $ free_all ! refl $
    suffices ! _ (ends_at 𝓛 f.ended stayed c y w made (tt, tt) (tt, tt)) $ says ! (sym is) $
    nothing ! $ nothing ! $ fjoin ! $ join ! $ nothing ! $ join ! $ done !))))
