use Rattle.std.proofs.Common.{◌≡◌, ◌<◌, length, None, Some}
use Rattle.json.specs.Json.{members, value}
use Rattle.serde_json.specs.Data.{no_members}
use Rattle.serde_json.specs.Read.{converted, of_members}
use Rattle.warg_crypto.specs.Json.Json.{Returns}
use Rattle.warg_crypto.specs.Json.Pairs.{pairs_of, plain_pairs}
use Rattle.warg_saved_states.specs.Found.{AreFound}
use Rattle.warg_saved_states.proofs.FoundMembers.{gone_through}
use Rattle.warg_saved_states.proofs.found.next_any_members.Goals as goal

pub returns : goal.returns
returns g c =
    let found = c.in_ok-found.ensures in
    gone_through c.map_of_found.result (λ ms. AreFound (λ b. g.V.SavedValue.plain b.value) g.V.SavedValue.reads c.in_ok-found.found.entries ms)
    (λ ms. converted (λ js. of_members js no_members) (members (value c.args.depth) (length c.args.reader.now) c.args.reader.now) ≡ Some (ms, c.next_found.new.reader))
    (λ r ms. Returns (λ m. plain_pairs g.K.SavedName.plain g.V.SavedValue.plain m.entries) r (pairs_of g.K.SavedName.key_named g.V.SavedValue.reads ms))
    (length c.next_found.new.reader < length c.args.reader.now)
    (converted (λ js. of_members js no_members) (members (value c.args.depth) (length c.args.reader.now) c.args.reader.now) ≡ None)
    found.0 found.1 found.2 found.3 c.map_of_found.ensures.ok c.map_of_found.ensures.err
