use Rattle.std.proofs.Common.{◌≡◌, ℕ, List, length, Some, None, inl, inr}
use Rattle.std.specs.List.{All}
use Rattle.sha2.specs.Sha256.{sha256}
use Rattle.sha2.proofs.Facts256.{length-sha256}
use Rattle.warg_merkle.specs.Trees.{HaveCollision}
use Rattle.warg_merkle.specs.SparseMap.Maps.{sides_up, path_inputs, Leads}
use Rattle.warg_merkle.proofs.SparseMapLemmas.Owning.{one_value}
use Rattle.warg_merkle.proofs.sparse_map.laws.one_value.Goals as goal

not_both : (value key root : List ℕ) (path other_path : List (List ℕ)) → All (λ p. length p ≡ 32) path → All (λ p. length p ≡ 32) other_path → Leads sha256 (Some value) key path root → Leads sha256 None key other_path root → HaveCollision sha256 (path_inputs sha256 (Some value) key path) (path_inputs sha256 None key other_path)
not_both value key root path other_path hp hq a b = elim (one_value sha256 length-sha256 (sides_up 256 key) path other_path (Some value) None root hp hq a b) [
  | inl (same, paths) ↦ cc
  | inr found ↦ found
]

pub returns : goal.returns
returns c = record {
  one = λ value other key root path other_path hp hq a b. one_value sha256 length-sha256 (sides_up 256 key) path other_path value other root hp hq a b;
  absence = not_both;
}
