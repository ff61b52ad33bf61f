use Rattle.std.proofs.Common.{sym, ap, ◌∙◌, is_some, not, Some}
use Rattle.std.specs.List.{position_or_len}
use Rattle.std.proofs.Common.{◌≡◌, slice_get}
use Rattle.std.specs.Map.{keys_of}
use Rattle.std_collections.proofs.SetLists.{not-not}
use Rattle.std_collections.proofs.SetKeys.{contains_seen, updates_seen}
use Rattle.indexmap.specs.IndexSet.{insert_key}
use Rattle.indexmap.proofs.SetLemmas.{inserted_at, keys_insert_entry}
use Rattle.warg_maps.proofs.set.NameSet.insert_full.Goals as goal

pub returns-in-Err-clause-absent : goal.returns-in-Err-clause-absent
returns-in-Err-clause-absent g c = sym (contains_seen c.self.inside.map.entries (ap (λ s. s.keys) c.self.view_is) (g.T.PartialEq.eq c.args.value)) ∙ ap is_some c.in-Err.ensures.absent

pub returns-clause-added : goal.returns-clause-added
returns-clause-added g c =
    not-not _ _ c.is_none.ensures ∙ ap (λ o. not (is_some o)) c.in-Ok.ensures.old
    ∙ ap not (contains_seen c.self.inside.map.entries (ap (λ s. s.keys) c.self.view_is) (g.T.PartialEq.eq c.args.value))

pub returns-clause-updates : goal.returns-clause-updates
returns-clause-updates g c =
    let eq = g.T.PartialEq.eq in
    updates_seen c.self.inside.map.entries (ap (λ s. s.keys) c.self.view_is) _ eq (eq c.args.value) (Some tt) c.in-Ok.ensures.updates

pub returns-clause-keys : goal.returns-clause-keys
returns-clause-keys g c =
    let put = ap keys_of c.in-Ok.ensures.entries ∙ keys_insert_entry g.T.PartialEq.eq c.self.inside.map.entries c.args.value tt in
    put ∙ ap (λ s. insert_key g.T.PartialEq.eq s.keys c.args.value) c.self.view_is

pub returns-clause-stored : goal.returns-clause-stored
returns-clause-stored g c =
    let eq = g.T.PartialEq.eq in
    let es = c.self.inside.map.entries in
    let there = inserted_at eq g.met.T.Eq.laws.refl es c.args.value tt in
    let place : c.in-Ok.put.0 ≡ position_or_len (eq c.args.value) (keys_of es) = c.in-Ok.ensures.index in
    (there.0, (λ j. slice_get (keys_of (c.in-Ok.ensures.entries j)) (place j)) ∙ there.1, there.2)
