use Rattle.std.proofs.Common.{◌≡◌, List, ℕ, rules, not, is_some, sym, ap, ◌∙◌}
use Rattle.std.proofs.lemmas.Map.Entries.{lookup-filter-keys}
use Rattle.std.proofs.lemmas.Slice.Eq.{bytes_eq-Decides}
use Rattle.std.specs.List.{filter}
use Rattle.std.specs.Map.{lookup}
use Rattle.std.specs.Str.{bytes_eq}
use Rattle.indexmap.proofs.CallerLemmas.{filter-RetainsPairs}
use Rattle.warg_permissions.proofs.KeyMapsLemmas.MapLaws.{unless_there}
use Rattle.warg_permissions.proofs.key_maps.map_changes.keep_others.Goals as goal

pub returns-clause-values : goal.returns-clause-values
returns-clause-values g c = λ k.
    let changes = c.args.changes.now.entries in
    let known = λ (j : List ℕ). is_some (lookup (bytes_eq j) changes) in
    let kept : c.retain.new.self.entries ≡ filter (λ e. not (known e.0)) c.args.map.now.entries =
    filter-RetainsPairs _ _ _ (λ j v b w f call. search rules) _ _ c.retain.ensures.filtered in
    ap (lookup (bytes_eq k)) kept
    ∙ lookup-filter-keys (bytes_eq k) (λ j. not (known j)) (not (known k)) (λ j same. ap (λ i. not (known i)) (sym ((bytes_eq-Decides k j).0 same))) c.args.map.now.entries
    ∙ unless_there (known k) (lookup (bytes_eq k) c.args.map.now.entries)
