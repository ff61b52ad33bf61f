use Rattle.std.proofs.Common.{◌≡◌}
use Rattle.std.specs.List.{list_any}
use Rattle.std.specs.Map.{keys_of}
use Rattle.warg_crypto.specs.Json.Pairs.{plain_pairs}
use Rattle.warg_saved_states.specs.Fit.{is_unknown}
use Rattle.warg_saved_states.proofs.fit.has_unknown.Given as goal

abbrev pub invariant-rights : goal.invariant-rights
invariant-rights g l = list_any (is_unknown l.fn.keys.entries) (keys_of (plain_pairs (λ id. id) g.V.SavedValue.plain l.id-iterator))
    ≡ list_any (is_unknown l.fn.keys.entries) (keys_of (plain_pairs (λ id. id) g.V.SavedValue.plain l.fn.rights.entries))
