use Rattle.std.proofs.Common.{◌≡◌, ◌≤◌, ◌^◌, ℕ, List, length, take, subst, arith}
use Rattle.sha2.specs.Sha256.{sha256}
use Rattle.warg_merkle.specs.Trees.{tree_hash}
use Rattle.warg_merkle.specs.Extensions.{consistency_proof, IsConsistent, OwnPathsExtend}
use Rattle.warg_registry.specs.declared.checkpoint.Checkpoint.{Checkpoint}
use Rattle.warg_transparency.specs.Views.{GoesOn, IsLogOf}
use Rattle.warg_transparency.proofs.laws.split_view.Goals as goal

own_goes_on : OwnPathsExtend sha256 → (old new : Checkpoint) (entries : List (List ℕ)) → old.log_length ≤ new.log_length → new.log_length ≤ 2 ^ 63 → IsLogOf new entries
    → tree_hash sha256 (take old.log_length entries) ≡ old.log_root.bytes → GoesOn old new (consistency_proof sha256 old.log_length entries)
own_goes_on own old new entries inside few is front =
    let size = is.size in
    let proof = consistency_proof sha256 old.log_length entries in
    let a : IsConsistent sha256 old.log_length (length entries) proof (tree_hash sha256 (take old.log_length entries)) (tree_hash sha256 entries) = own old.log_length entries (omega arith) (omega arith) in
    let b : IsConsistent sha256 old.log_length new.log_length proof (tree_hash sha256 (take old.log_length entries)) (tree_hash sha256 entries) = subst (λ n. IsConsistent sha256 old.log_length n proof (tree_hash sha256 (take old.log_length entries)) (tree_hash sha256 entries)) is.size a in
    let d : IsConsistent sha256 old.log_length new.log_length proof old.log_root.bytes (tree_hash sha256 entries) = subst (λ h. IsConsistent sha256 old.log_length new.log_length proof h (tree_hash sha256 entries)) front b in
    subst (λ h. IsConsistent sha256 old.log_length new.log_length proof old.log_root.bytes h) is.root d

pub returns-clause-own : goal.returns-clause-own
returns-clause-own c = λ old new entries inside few is refused front. refused (own_goes_on c.consistency_paths.ensures.own old new entries inside few is front)

pub returns-clause-all : goal.returns-clause-all
returns-clause-all c = λ old new inside few refused entries is front. refused _ (own_goes_on c.consistency_paths.ensures.own old new entries inside few is front)
