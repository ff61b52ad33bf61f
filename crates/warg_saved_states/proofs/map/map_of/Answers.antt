use Rattle.std.proofs.Common.{◌≡◌, List, ℕ, Ok, string_bytes, subst}
use Rattle.serde_json.specs.View.{members_view, view}
use Rattle.warg_saved_states.proofs.Reading.{one_more}
use Rattle.warg_saved_states.proofs.map.map_of.Goals as goal

pub members-preserved : goal.members-preserved
members-preserved g c =
    let name = string_bytes c.in-Some.name.now in
    let named = subst (λ (text : List ℕ). g.K.SavedName.key_named text ≡ Ok (g.K.SavedName.plain c.in_ok-key.key)) c.as_str.ensures.value c.in_ok-key.ensures in
    one_more g.K.SavedName.plain g.V.SavedValue.plain g.K.SavedName.name_of g.K.SavedName.key_named g.V.SavedValue.reads
    g.K.PartialEq.eq g.met.K.SavedName.one_key g.met.K.SavedName.back
    c.members.map.entries c.insert.new.self.entries c.in_ok-key.key c.in_ok-value.value name (view c.in-Some.value.now) (members_view c.next.new.self) (members_view c.args.object.now.entries)
    c.requires named c.in_ok-value.ensures c.in_ok-insert.ensures.entries
    (rw c.in-Some.ensures.steps at c.members.invariant)
