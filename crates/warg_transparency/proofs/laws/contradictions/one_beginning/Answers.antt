use Rattle.std.proofs.Common.{◌≡◌, ℕ, List, inl, inr, sym, subst}
use Rattle.sha2.specs.Sha256.{sha256}
use Rattle.warg_merkle.specs.Trees.{HaveCollision}
use Rattle.warg_merkle.specs.Extensions.{climb_inputs_from, extension_sides, with_start, IsConsistent}
use Rattle.warg_registry.specs.declared.checkpoint.Checkpoint.{Checkpoint}
use Rattle.warg_transparency.specs.Contradictions.{beginning_inputs, ShowsBeginning}
use Rattle.warg_transparency.proofs.RegistryLemmas.{one_hash}
use Rattle.warg_transparency.proofs.laws.contradictions.one_beginning.Goals as goal

-- what is shown of the other log, at the length of the first
at_length : (n : ℕ) (new other : Checkpoint) (proof : List (List ℕ)) → other.log_length ≡ n → ShowsBeginning new other proof → IsConsistent sha256 n new.log_length proof other.log_root.bytes new.log_root.bytes
at_length n new other proof same shown = subst (λ m. IsConsistent sha256 m new.log_length proof other.log_root.bytes new.log_root.bytes) same shown.goes_on

found_at : (n : ℕ) (new other : Checkpoint) (inputs proof : List (List ℕ)) → n ≡ other.log_length → HaveCollision sha256 inputs (climb_inputs_from sha256 (extension_sides n new.log_length) (with_start sha256 n other.log_root.bytes proof)) → HaveCollision sha256 inputs (beginning_inputs new other proof)
found_at n new other inputs proof same found = subst (λ m. HaveCollision sha256 inputs (climb_inputs_from sha256 (extension_sides m new.log_length) (with_start sha256 m other.log_root.bytes proof))) same found

pub returns : goal.returns
returns c = λ new old other proof other_proof same left right.
    elim (c.one_beginning.ensures old.log_length new.log_length proof other_proof old.log_root.bytes other.log_root.bytes new.log_root.bytes left.root.len right.root.len left.hashes right.hashes left.goes_on (at_length old.log_length new other other_proof (sym same) right)) [
      | inl roots ↦ inl (one_hash old.log_root other.log_root roots)
      | inr found ↦ inr (found_at old.log_length new other (beginning_inputs new old proof) other_proof same found)
    ]
