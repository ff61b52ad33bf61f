use Rattle.std.proofs.Common.{◌≡◌}
use Rattle.serde_json.specs.Data.{Members, no_members}
use Rattle.warg_crypto.specs.Json.Pairs.{pairs_onto, plain_pairs}
use Rattle.warg_saved_states.specs.Texts.{AreMembers}
use Rattle.warg_saved_states.proofs.MapsBack.{AreValuesBack}
use Rattle.warg_saved_states.proofs.write_map.by_name.Given as goal

-- the values so far are the members onto which the rest is put, and all read back where the rest does
abbrev pub invariant-entries : goal.invariant-entries
invariant-entries g l = record {
  written : (ms : Members) × AreMembers g.V.SavedValue.plain g.V.SavedValue.writes l.named.entries ms
      × (pairs_onto g.K.SavedName.name_of g.V.SavedValue.writes ms (plain_pairs g.K.SavedName.plain g.V.SavedValue.plain l.key-iterator)
      ≡ pairs_onto g.K.SavedName.name_of g.V.SavedValue.writes no_members (plain_pairs g.K.SavedName.plain g.V.SavedValue.plain l.fn.map.entries));
  back : AreValuesBack g.K.SavedName.plain g.V.SavedValue.plain g.K.SavedName.name_of g.K.SavedName.key_named g.V.SavedValue.writes g.V.SavedValue.reads g.K.SavedName.versions g.V.SavedValue.versions l.key-iterator
      → AreValuesBack g.K.SavedName.plain g.V.SavedValue.plain g.K.SavedName.name_of g.K.SavedName.key_named g.V.SavedValue.writes g.V.SavedValue.reads g.K.SavedName.versions g.V.SavedValue.versions l.fn.map.entries;
}
