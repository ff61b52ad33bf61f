use Rattle.std.proofs.Common.{◌≡◌, ◌∷◌, [], ◌++◌, length, reverse, zip, OnOk}
use mathlib.Core.Path.{sym, ap, subst, ◌∙◌}
use native.Mathlib.Omega.{arith}
use Rattle.std.proofs.lemmas.List.{length_push, reverse-append}
use Rattle.std.specs.Option.{option_to_list}
use Rattle.std_collections.proofs.Zip.{zip_push}
use Rattle.indexmap.specs.IndexMap.{insert_all, insert_entry}
use Rattle.warg_maps.proofs.map.NameMap.insert_backwards.Goals as goal

pub loop-keys-preserved : goal.loop-keys-preserved
loop-keys-preserved g c =
    let eq = g.K.PartialEq.eq in
    let inv = c.loop-keys.invariant in
    let k = c.unwrap-key.result in
    let v = c.unwrap-value.result in
    let ks = c.pop.new.self.items in
    let vs = c.pop-in-loop-keys.new.self.items in
    let last_key : c.loop-keys.keys.items ≡ ks ++ k ∷ [] = c.pop.ensures.items ∙ ap (λ r. ks ++ option_to_list r) c.unwrap-key.ensures in
    let last_value : c.loop-keys.values.items ≡ vs ++ v ∷ [] = c.pop-in-loop-keys.ensures.items ∙ ap (λ r. vs ++ option_to_list r) c.unwrap-value.ensures in
    let pair = zip_push _ ks _ vs k v inv.1 last_key last_value in
    let turned : reverse (zip c.loop-keys.keys.items c.loop-keys.values.items) ≡ (k, v) ∷ reverse (zip ks vs) = ap reverse pair.1 ∙ reverse-append (zip ks vs) ((k, v) ∷ []) in
    let went : c.insert.new.self.entries ≡ insert_entry eq c.loop-keys.self.entries k v = subst (λ r. OnOk r (c.insert.new.self.entries ≡ insert_entry eq c.loop-keys.self.entries k v)) c.unwrap.ensures c.insert.ensures.entries in (
      ap (λ es. insert_all eq es (reverse (zip ks vs))) went ∙ ap (insert_all eq c.loop-keys.self.entries) (sym turned) ∙ inv.0,
      pair.0,
      omega (arith, inv.2, ap length last_key, length_push ks k, c.insert.ensures.spare),
      omega (arith, inv.3, ap length last_key, length_push ks k, c.insert.ensures.spare),
      c.insert.ensures.hasher ∙ inv.4,
      c.pop.ensures.capacity ∙ inv.5,
      c.pop-in-loop-keys.ensures.capacity ∙ inv.6,
    )

pub loop-keys-preserved-in-loop-keys : goal.loop-keys-preserved-in-loop-keys
loop-keys-preserved-in-loop-keys g c =
    let eq = g.K.PartialEq.eq in
    let inv = c.loop-keys.invariant in
    let k = c.unwrap-key.result in
    let v = c.unwrap-value.result in
    let ks = c.pop.new.self.items in
    let vs = c.pop-in-loop-keys.new.self.items in
    let last_key : c.loop-keys.keys.items ≡ ks ++ k ∷ [] = c.pop.ensures.items ∙ ap (λ r. ks ++ option_to_list r) c.unwrap-key.ensures in
    let last_value : c.loop-keys.values.items ≡ vs ++ v ∷ [] = c.pop-in-loop-keys.ensures.items ∙ ap (λ r. vs ++ option_to_list r) c.unwrap-value.ensures in
    let pair = zip_push _ ks _ vs k v inv.1 last_key last_value in
    let turned : reverse (zip c.loop-keys.keys.items c.loop-keys.values.items) ≡ (k, v) ∷ reverse (zip ks vs) = ap reverse pair.1 ∙ reverse-append (zip ks vs) ((k, v) ∷ []) in
    let went : c.insert.new.self.entries ≡ insert_entry eq c.loop-keys.self.entries k v = subst (λ r. OnOk r (c.insert.new.self.entries ≡ insert_entry eq c.loop-keys.self.entries k v)) c.unwrap.ensures c.insert.ensures.entries in (
      ap (λ es. insert_all eq es (reverse (zip ks vs))) went ∙ ap (insert_all eq c.loop-keys.self.entries) (sym turned) ∙ inv.0,
      pair.0,
      omega (arith, inv.2, ap length last_key, length_push ks k, c.insert.ensures.spare),
      omega (arith, inv.3, ap length last_key, length_push ks k, c.insert.ensures.spare),
      c.insert.ensures.hasher ∙ inv.4,
      c.pop.ensures.capacity ∙ inv.5,
      c.pop-in-loop-keys.ensures.capacity ∙ inv.6,
    )
