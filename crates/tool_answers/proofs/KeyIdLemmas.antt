-- The ids of keys that are listed each once.
use Rattle.std.proofs.Common.{◌≡◌, ℕ, ◌||◌, List, [], ◌∷◌, map, refl, ap, ◌∙◌}
use Rattle.std.specs.Cmp.Lexicographic.{nat_list_eq_equiv}
use Rattle.std.specs.List.{IsDistinct, list_any}
use Rattle.std.specs.Map.{lookup, keys_of}
use Rattle.std.specs.Option.{is_some}
use Rattle.std.specs.Prelude.{Option}
use Rattle.std.specs.Str.{bytes_eq}
use Rattle.std.proofs.lemmas.Map.Made.{is_some-lookup}
use Rattle.warg_crypto.specs.NamedBytes.{NamedBytes}
use Rattle.warg_protocol.specs.Logs.{KeyData}
use Rattle.tool_answers.specs.KeyIds.{AreIdsOf}

-- an id is found from either side
found_either : {P : Type 0} (id : List ℕ) (ks : List (KeyData P))
    → list_any (λ it. bytes_eq it id) (map (λ k. k.id) ks) ≡ list_any (bytes_eq id) (keys_of (map (λ k. (k.id, k.key)) ks))
found_either id [] = refl
found_either id (k ∷ ks) = ap (λ b. b || list_any (λ it. bytes_eq it id) (map (λ k. k.id) ks)) (nat_list_eq_equiv.symm k.id id)
    ∙ ap (λ b. bytes_eq id k.id || b) (found_either id ks)

-- the ids of keys are those that are told, if the keys are
pub ids_of_keys : {P : Type 0} (key : List ℕ → Option NamedBytes) (ks : List (KeyData P))
    → ((id : List ℕ) → lookup (bytes_eq id) (map (λ k. (k.id, k.key)) ks) ≡ key id)
    → IsDistinct bytes_eq (map (λ k. k.id) ks) → AreIdsOf (λ id. is_some (key id)) (map (λ k. k.id) ks)
ids_of_keys key ks known once = record {
  all = λ id. found_either id ks ∙ (let told = is_some-lookup (bytes_eq id) (map (λ k. (k.id, k.key)) ks) in cc told) ∙ ap is_some (known id);
  once = once;
}
