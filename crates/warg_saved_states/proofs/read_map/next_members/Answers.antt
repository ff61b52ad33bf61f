use Rattle.std.proofs.Common.{◌≡◌, [], length, map, Some, None, Ok, true, sym, ap, ◌∙◌, refl, arith, rules}
use Rattle.std.specs.Option.{option_map}
use Rattle.json.specs.Json.{read_key, value}
use Rattle.json.proofs.Grammar.{read_key-shorter}
use Rattle.serde_json.specs.Data.{no_members}
use Rattle.warg_crypto.specs.Json.Pairs.{plain_pairs}
use Rattle.warg_saved_states.specs.Ascending.{ascends}
use Rattle.warg_saved_states.proofs.NextMembers.{read_one_more}
use Rattle.warg_saved_states.proofs.TextReading.{members_over}
use Rattle.warg_saved_states.proofs.read_map.next_members.Goals as goal

pub members-init : goal.members-init
members-init g c =
    let none : c.new-map.result.entries ≡ [] = search rules in
    record {
      turns = length c.args.reader.now;
      enough = omega arith;
      shorter = omega arith;
      ms = no_members;
      text = refl;
      pairs = ap (λ es. Ok (plain_pairs g.K.SavedName.plain g.V.SavedValue.plain es)) (sym none);
      names = ap (map (λ e. g.K.SavedName.name_of (g.K.SavedName.plain e.0))) none;
      rise = λ name up. tt;
    }

pub members-preserved : goal.members-preserved
members-preserved g c =
    let l = c.members in
    let name = c.in-Some.name.now in
    let named : read_key l.reader ≡ Some (Some name, c.next_key.new.self) = grind arith in
    let up : ascends (option_map (λ s. s.now) l.last) name ≡ true = grind arith in
    let entry = c.in_ok-put_next.ensures.read in
    read_one_more g.K.SavedName.plain g.V.SavedValue.plain g.K.SavedName.name_of g.K.SavedName.key_named g.V.SavedValue.reads
    g.K.PartialEq.eq g.met.K.SavedName.one_key g.met.K.SavedName.back (value c.args.depth) c.args.reader.now
    l.reader c.next_key.new.self c.put_next.new.reader (option_map (λ s. s.now) l.last) l.map.entries c.put_next.new.map.entries name entry.0
    entry.1 entry.2
    up named (read_key-shorter l.reader (Some name) c.next_key.new.self named) entry.3 c.in_ok-put_next.ensures.shorter entry.4 entry.5 entry.6 l.invariant

pub returns-clause-read : goal.returns-clause-read
returns-clause-read g c =
    let l = c.members in
    let over : read_key l.reader ≡ Some (None, c.next_key.new.self) = grind arith in
    (l.invariant.ms, l.invariant.text ∙ members_over (value c.args.depth) l.invariant.ms l.invariant.turns l.reader c.next_key.new.self l.invariant.enough over, l.invariant.pairs)
