use Rattle.std.proofs.Common.{ℕ, List, [], ◌∷◌, ◌∙◌, ap, sym, subst}
use Rattle.warg_crypto.specs.Json.Pairs.{plain_pairs}
use Rattle.warg_crypto.specs.NamedBytes.{NamedBytes}
use Rattle.warg_saved_states.specs.Fit.{RefusesCaseOrNoMemory, begun_case, empty_case, first_case, keys_case, rights_case, version_case}
use Rattle.warg_saved_states.proofs.Cases.{refuses_later}
use Rattle.warg_saved_states.proofs.Optional.{same_pairs}
use Rattle.warg_log.specs.SavedMembers.{head_version}
use Rattle.warg_log.proofs.saved_parts.SavedParts.check.Goals as goal

pub returns : goal.returns
returns g c =
    let rights = plain_pairs (λ id. id) (λ set. set) c.args.self.now.rights.entries in
    let maps = subst (λ (keys : List (List ℕ × NamedBytes)). RefusesCaseOrNoMemory (first_case (c.args.before ∷ keys_case keys ∷ c.args.after
    ∷ rights_case rights keys ∷ version_case (head_version c.args.self.now.head) ∷ [])) c.check_maps.result)
    (sym (same_pairs c.args.keys.now.entries)) c.check_maps.ensures in
    refuses_later _ _ _ _ (ap (begun_case c.args.self.now.algorithm) (sym c.head_version.ensures) ∙ c.in_ok-check_begun.ensures)
    (refuses_later _ _ _ _ (ap (empty_case c.args.self.now.algorithm) (sym c.are_empty.ensures) ∙ c.in_ok-check_empty.ensures) maps)
