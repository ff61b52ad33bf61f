use Rattle.std.proofs.Common.{◌≡◌, [], ◌∷◌, ◌++◌}
use Rattle.json.specs.Token.{begin_object}
use Rattle.json.specs.Tree.{members_tokens}
use Rattle.serde_json.specs.Data.{Members}
use Rattle.serde_json.specs.Written.{members_outline}
use Rattle.warg_saved_states.specs.Texts.{AreMembers}
use Rattle.warg_saved_states.proofs.write_map.joined.Given as goal

-- nothing stood before, and what is written, and then the members that are left, is the whole
abbrev pub invariant-members : goal.invariant-members
invariant-members g l = record {
  before : l.out.before ≡ [];
  tokens : (all : Members) → AreMembers g.V.SavedValue.plain g.V.SavedValue.writes l.fn.named.entries all
      → (ms : Members) × AreMembers g.V.SavedValue.plain g.V.SavedValue.writes l.name-iterator ms
      × (l.out.tokens ++ members_tokens (members_outline ms) ≡ begin_object ∷ members_tokens (members_outline all));
}
