use Rattle.std.specs.Prelude.{◌≡◌, ℕ, ◌<◌, true, get_or}
use Rattle.std.specs.Option.{option_eq}
use Rattle.indexmap.specs.IndexMap.{keys, get}
use Rattle.warg_maps.proofs.map.traits.NameMapPartialEq.eq.Given as goal

-- the maps agree at each key that came before
abbrev pub invariant-loop-place : goal.invariant-loop-place
invariant-loop-place g l =
    let agree = λ (k : g.row.K.Denot). option_eq g.V.PartialEq.eq (get g.K.PartialEq.eq l.self k) (get g.K.PartialEq.eq l.other k) ≡ true in
    (i : ℕ) → i < l.place → (d : g.row.K.Denot) → agree (get_or (keys l.self) i d)
