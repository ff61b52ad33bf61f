use Rattle.std.proofs.Common.{List, ℕ, subst, codes}
use Rattle.serde_json.specs.View.{members_view}
use Rattle.warg_crypto.specs.Json.Json.{ReturnsOrNoMemory}
use Rattle.warg_crypto.specs.Json.JsonTexts.{key_in, key_json}
use Rattle.warg_crypto.specs.NamedBytes.{NamedBytes}
use Rattle.warg_saved_states.specs.Backs.{AreBack}
use Rattle.warg_saved_states.specs.Maps.{put_pairs}
use Rattle.warg_saved_states.specs.MapNames.{text_name, text_named}
use Rattle.warg_saved_states.proofs.MapsBack.{no_versions, on_ok_then}
use Rattle.warg_saved_states.proofs.Optional.{same_pairs}
use Rattle.warg_saved_states.proofs.members.put_keys.Goals as goal

pub returns-clause-written : goal.returns-clause-written
returns-clause-written c =
    subst (λ (es : List (List ℕ × NamedBytes)). ReturnsOrNoMemory (λ _. members_view c.put_map.new.members.entries) c.put_map.result
    (put_pairs text_name key_json (codes "keys") es (members_view c.args.members.now.entries)))
    (same_pairs c.args.keys.now.entries) c.put_map.ensures.written

pub returns-clause-back : goal.returns-clause-back
returns-clause-back c =
    on_ok_then c.put_map.result
    (λ back. subst (λ (es : List (List ℕ × NamedBytes)). AreBack text_name text_named key_json key_in es) (same_pairs c.args.keys.now.entries) (back (no_versions _)))
    c.put_map.ensures.back
