use Rattle.std.proofs.Common.{◌≡◌, refl, sym, ap, ◌∙◌, rules, string_bytes}
use Rattle.serde_json.specs.Data.{no_members, put}
use Rattle.warg_crypto.specs.Json.Pairs.{pairs_onto, plain_pairs}
use Rattle.warg_saved_states.proofs.MapsBack.{are_back}
use Rattle.warg_saved_states.proofs.TextLaws.{put_value}
use Rattle.warg_saved_states.proofs.write_map.by_name.Goals as goal

pub entries-init : goal.entries-init
entries-init g c = record { written = (no_members, rw c.new-named.ensures.empty tt, search rules); back = search rules }

pub entries-preserved : goal.entries-preserved
entries-preserved g c =
    let plain = g.V.SavedValue.plain in
    let writes = g.V.SavedValue.writes in
    let name_of = g.K.SavedName.name_of in
    let i = c.entries.invariant.written in
    let own = c.in_ok-can_save.ensures.ok in
    let name : string_bytes c.in_ok-name.name ≡ name_of (g.K.SavedName.plain c.in-Some.key.now) = search rules in
    let step : pairs_onto name_of writes i.0 (plain_pairs g.K.SavedName.plain plain c.entries.key-iterator)
    ≡ pairs_onto name_of writes (put (name_of (g.K.SavedName.plain c.in-Some.key.now)) own.0 i.0) (plain_pairs g.K.SavedName.plain plain c.next.new.self) =
    rw (c.in-Some.ensures.steps, own.1) refl in
    record {
      written = (
        put (string_bytes c.in_ok-name.name) own.0 i.0,
        rw c.in_ok-insert.ensures.entries (put_value plain writes c.entries.named.entries c.in_ok-name.name c.in-Some.value own.0 i.0 own.1 i.1),
        ap (λ n. pairs_onto name_of writes (put n own.0 i.0) (plain_pairs g.K.SavedName.plain plain c.next.new.self)) name ∙ sym step ∙ i.2,
      );
      back = λ rest. c.entries.invariant.back (rw c.in-Some.ensures.steps (c.in_ok-can_save.ensures.back, rest));
    }

pub returns-clause-back : goal.returns-clause-back
returns-clause-back g c =
    are_back g.K.SavedName.plain g.V.SavedValue.plain g.K.SavedName.name_of g.K.SavedName.key_named g.V.SavedValue.writes g.V.SavedValue.reads
    g.K.SavedName.versions g.V.SavedValue.versions g.K.PartialEq.eq g.met.K.SavedName.read g.met.K.SavedName.same_key
    c.args.map.now.entries c.iter-key-items.ensures.unique (c.entries.invariant.back (rw c.in-None.ensures.steps.0 tt))
