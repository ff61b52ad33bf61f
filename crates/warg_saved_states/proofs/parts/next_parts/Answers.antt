use Rattle.std.proofs.Common.{◌≡◌, [], Some, None, Ok, true, false, ap, sym, ◌∙◌, arith, rules}
use Rattle.std.specs.Option.{option_map}
use Rattle.std.specs.Str.{bytes_eq}
use Rattle.json.specs.Json.{read_key, value}
use Rattle.json.proofs.Grammar.{read_key-shorter}
use Rattle.serde_json.specs.View.{members_view}
use Rattle.warg_crypto.specs.Json.Pairs.{pairs_or_none, plain_pairs}
use Rattle.warg_saved_states.specs.Asked.{texts}
use Rattle.warg_saved_states.proofs.AskedMembers.{ask_begin}
use Rattle.warg_saved_states.proofs.OneMember.{member_begin}
use Rattle.warg_saved_states.proofs.PartsRead.{parts_end, parts_first, parts_other, parts_second, parts_third}
use Rattle.warg_saved_states.proofs.parts.next_parts.Goals as goal

pub members-init : goal.members-init
members-init g c =
    let no_firsts : c.new-firsts.result.entries ≡ [] = search rules in
    let no_seconds : c.new-seconds.result.entries ≡ [] = search rules in
    let no_thirds : c.new-thirds.result.entries ≡ [] = search rules in
    record {
      asked = ask_begin (texts c.args.asked.now) c.args.levels (value c.args.depth) c.args.reader.now (members_view c.new-found.result.entries) (ap members_view c.new-found.ensures.empty);
      first = member_begin (λ m. plain_pairs g.J.SavedName.plain g.U.SavedValue.plain m.entries) (pairs_or_none g.J.SavedName.key_named g.U.SavedValue.reads) c.args.first.now (value c.args.depth) c.args.reader.now
          (Ok c.new-firsts.result) (ap (λ es. Ok (plain_pairs g.J.SavedName.plain g.U.SavedValue.plain es)) (sym no_firsts));
      second = member_begin (λ m. plain_pairs g.K.SavedName.plain g.V.SavedValue.plain m.entries) (pairs_or_none g.K.SavedName.key_named g.V.SavedValue.reads) c.args.second.now (value c.args.depth) c.args.reader.now
          (Ok c.new-seconds.result) (ap (λ es. Ok (plain_pairs g.K.SavedName.plain g.V.SavedValue.plain es)) (sym no_seconds));
      third = member_begin (λ m. plain_pairs g.L.SavedName.plain g.W.SavedValue.plain m.entries) (pairs_or_none g.L.SavedName.key_named g.W.SavedValue.reads) c.args.third.now (value c.args.depth) c.args.reader.now
          (Ok c.new-thirds.result) (ap (λ es. Ok (plain_pairs g.L.SavedName.plain g.W.SavedValue.plain es)) (sym no_thirds));
    }

pub members-smaller-then-eq : goal.members-smaller-then-eq
members-smaller-then-eq g c =
    let l = c.members in
    let k = c.in-Some.name.now in
    let s = c.next_name.new.reader in
    let named : read_key l.reader ≡ Some (Some k, s) = c.in_ok-name.ensures ∙ ap (λ n. Some (option_map (λ t. t.now) n, s)) c.in-Some.is in
    omega (arith, read_key-shorter l.reader (Some k) s named, c.in_ok-firsts.ensures.1)

pub members-preserved-then-eq : goal.members-preserved-then-eq
members-preserved-then-eq g c =
    let l = c.members in
    let k = c.in-Some.name.now in
    let s = c.next_name.new.reader in
    let named : read_key l.reader ≡ Some (Some k, s) = c.in_ok-name.ensures ∙ ap (λ n. Some (option_map (λ t. t.now) n, s)) c.in-Some.is in
    let less = read_key-shorter l.reader (Some k) s named in
    let apart = c.are_apart.ensures (grind arith) in
    let own : bytes_eq k c.args.first.now ≡ true = grind arith in
    let entry = c.in_ok-firsts.ensures in
    parts_first (λ m. plain_pairs g.J.SavedName.plain g.U.SavedValue.plain m.entries) (pairs_or_none g.J.SavedName.key_named g.U.SavedValue.reads) (λ m. plain_pairs g.K.SavedName.plain g.V.SavedValue.plain m.entries) (pairs_or_none g.K.SavedName.key_named g.V.SavedValue.reads) (λ m. plain_pairs g.L.SavedName.plain g.W.SavedValue.plain m.entries) (pairs_or_none g.L.SavedName.key_named g.W.SavedValue.reads)
    (texts c.args.asked.now) c.args.levels c.args.first.now c.args.second.now c.args.third.now (value c.args.depth) c.args.reader.now
    apart l.reader s c.take_map.new.reader (members_view l.found.entries) (members_view c.take_map.new.found.entries) k entry.0 named less entry.2 entry.1
    l.firsts c.in_ok-firsts.firsts l.seconds l.thirds own entry.4 entry.5 entry.3 l.invariant

pub members-smaller-then-eq-2 : goal.members-smaller-then-eq-2
members-smaller-then-eq-2 g c =
    let l = c.members in
    let k = c.in-Some.name.now in
    let s = c.next_name.new.reader in
    let named : read_key l.reader ≡ Some (Some k, s) = c.in_ok-name.ensures ∙ ap (λ n. Some (option_map (λ t. t.now) n, s)) c.in-Some.is in
    omega (arith, read_key-shorter l.reader (Some k) s named, c.in_ok-seconds.ensures.1)

pub members-preserved-then-eq-2 : goal.members-preserved-then-eq-2
members-preserved-then-eq-2 g c =
    let l = c.members in
    let k = c.in-Some.name.now in
    let s = c.next_name.new.reader in
    let named : read_key l.reader ≡ Some (Some k, s) = c.in_ok-name.ensures ∙ ap (λ n. Some (option_map (λ t. t.now) n, s)) c.in-Some.is in
    let less = read_key-shorter l.reader (Some k) s named in
    let apart = c.are_apart.ensures (grind arith) in
    let own : bytes_eq k c.args.second.now ≡ true = grind arith in
    let entry = c.in_ok-seconds.ensures in
    parts_second (λ m. plain_pairs g.J.SavedName.plain g.U.SavedValue.plain m.entries) (pairs_or_none g.J.SavedName.key_named g.U.SavedValue.reads) (λ m. plain_pairs g.K.SavedName.plain g.V.SavedValue.plain m.entries) (pairs_or_none g.K.SavedName.key_named g.V.SavedValue.reads) (λ m. plain_pairs g.L.SavedName.plain g.W.SavedValue.plain m.entries) (pairs_or_none g.L.SavedName.key_named g.W.SavedValue.reads)
    (texts c.args.asked.now) c.args.levels c.args.first.now c.args.second.now c.args.third.now (value c.args.depth) c.args.reader.now
    apart l.reader s c.take_map-then-eq-2.new.reader (members_view l.found.entries) (members_view c.take_map-then-eq-2.new.found.entries) k entry.0 named less entry.2 entry.1
    l.firsts l.seconds c.in_ok-seconds.seconds l.thirds own entry.4 entry.5 entry.3 l.invariant

pub members-smaller-then-eq-3 : goal.members-smaller-then-eq-3
members-smaller-then-eq-3 g c =
    let l = c.members in
    let k = c.in-Some.name.now in
    let s = c.next_name.new.reader in
    let named : read_key l.reader ≡ Some (Some k, s) = c.in_ok-name.ensures ∙ ap (λ n. Some (option_map (λ t. t.now) n, s)) c.in-Some.is in
    omega (arith, read_key-shorter l.reader (Some k) s named, c.in_ok-thirds.ensures.1)

pub members-preserved-then-eq-3 : goal.members-preserved-then-eq-3
members-preserved-then-eq-3 g c =
    let l = c.members in
    let k = c.in-Some.name.now in
    let s = c.next_name.new.reader in
    let named : read_key l.reader ≡ Some (Some k, s) = c.in_ok-name.ensures ∙ ap (λ n. Some (option_map (λ t. t.now) n, s)) c.in-Some.is in
    let less = read_key-shorter l.reader (Some k) s named in
    let apart = c.are_apart.ensures (grind arith) in
    let own : bytes_eq k c.args.third.now ≡ true = grind arith in
    let entry = c.in_ok-thirds.ensures in
    parts_third (λ m. plain_pairs g.J.SavedName.plain g.U.SavedValue.plain m.entries) (pairs_or_none g.J.SavedName.key_named g.U.SavedValue.reads) (λ m. plain_pairs g.K.SavedName.plain g.V.SavedValue.plain m.entries) (pairs_or_none g.K.SavedName.key_named g.V.SavedValue.reads) (λ m. plain_pairs g.L.SavedName.plain g.W.SavedValue.plain m.entries) (pairs_or_none g.L.SavedName.key_named g.W.SavedValue.reads)
    (texts c.args.asked.now) c.args.levels c.args.first.now c.args.second.now c.args.third.now (value c.args.depth) c.args.reader.now
    apart l.reader s c.take_map-then-eq-3.new.reader (members_view l.found.entries) (members_view c.take_map-then-eq-3.new.found.entries) k entry.0 named less entry.2 entry.1
    l.firsts l.seconds l.thirds c.in_ok-thirds.thirds own entry.4 entry.5 entry.3 l.invariant

pub members-smaller : goal.members-smaller
members-smaller g c =
    let l = c.members in
    let k = c.in-Some.name.now in
    let s = c.next_name.new.reader in
    let named : read_key l.reader ≡ Some (Some k, s) = c.in_ok-name.ensures ∙ ap (λ n. Some (option_map (λ t. t.now) n, s)) c.in-Some.is in
    omega (arith, read_key-shorter l.reader (Some k) s named, c.in-Ok.ensures.shorter)

pub members-preserved : goal.members-preserved
members-preserved g c =
    let l = c.members in
    let k = c.in-Some.name.now in
    let s = c.next_name.new.reader in
    let named : read_key l.reader ≡ Some (Some k, s) = c.in_ok-name.ensures ∙ ap (λ n. Some (option_map (λ t. t.now) n, s)) c.in-Some.is in
    let less = read_key-shorter l.reader (Some k) s named in
    let apart = c.are_apart.ensures (grind arith) in
    let not_first : bytes_eq k c.args.first.now ≡ false = grind arith in
    let not_second : bytes_eq k c.args.second.now ≡ false = grind arith in
    let not_third : bytes_eq k c.args.third.now ≡ false = grind arith in
    let done = c.in-Ok.ensures in
    parts_other (λ m. plain_pairs g.J.SavedName.plain g.U.SavedValue.plain m.entries) (pairs_or_none g.J.SavedName.key_named g.U.SavedValue.reads) (λ m. plain_pairs g.K.SavedName.plain g.V.SavedValue.plain m.entries) (pairs_or_none g.K.SavedName.key_named g.V.SavedValue.reads) (λ m. plain_pairs g.L.SavedName.plain g.W.SavedValue.plain m.entries) (pairs_or_none g.L.SavedName.key_named g.W.SavedValue.reads)
    (texts c.args.asked.now) c.args.levels c.args.first.now c.args.second.now c.args.third.now (value c.args.depth) c.args.reader.now
    apart l.reader s c.take_next.new.reader (members_view l.found.entries) (members_view c.take_next.new.found.entries) k done.ok.0 named less done.ok.1 done.shorter
    l.firsts l.seconds l.thirds not_first not_second not_third done.ok.2 l.invariant

pub returns : goal.returns
returns g c =
    let l = c.members in
    parts_end (λ m. plain_pairs g.J.SavedName.plain g.U.SavedValue.plain m.entries) (pairs_or_none g.J.SavedName.key_named g.U.SavedValue.reads) (λ m. plain_pairs g.K.SavedName.plain g.V.SavedValue.plain m.entries) (pairs_or_none g.K.SavedName.key_named g.V.SavedValue.reads) (λ m. plain_pairs g.L.SavedName.plain g.W.SavedValue.plain m.entries) (pairs_or_none g.L.SavedName.key_named g.W.SavedValue.reads)
    (texts c.args.asked.now) c.args.levels c.args.first.now c.args.second.now c.args.third.now (value c.args.depth) c.args.reader.now
    l.reader c.next_name.new.reader (members_view l.found.entries) l.firsts l.seconds l.thirds (grind arith) l.invariant
