use Rattle.std.proofs.Common.{◌≡◌, ◌∷◌, ◌++◌, map}
use Rattle.json.specs.Token.{begin_array}
use Rattle.json.specs.Tree.{items_tokens}
use Rattle.serde_json.specs.Data.{string}
use Rattle.serde_json.specs.View.{items_of}
use Rattle.serde_json.specs.Written.{items_outline}
use Rattle.warg_saved_states.proofs.permissions.write_permissions.Given as goal

-- what is written, and then the names that are left, is the whole list
abbrev pub invariant-permissions : goal.invariant-permissions
invariant-permissions g l = record {
  before : l.out.before ≡ l.fn.out.before;
  tokens : l.out.tokens ++ items_tokens (items_outline (items_of (map (λ p. string (g.P.LogPermission.text_of p)) l.permission-iterator)))
      ≡ l.fn.out.tokens ++ begin_array ∷ items_tokens (items_outline (items_of (map (λ p. string (g.P.LogPermission.text_of p)) l.fn.set.keys)));
}
