use Rattle.std.proofs.Common.{ℕ, List, Ok, length, ◌∙◌, ap, arith, subst}
use Rattle.sha2.specs.Sha256.{sha256}
use Rattle.warg_merkle.specs.MapProof.ShortForms.{path_in, IsShortForm}
use Rattle.warg_merkle.proofs.MapProofLemmas.Canonical.{of_short}
use Rattle.warg_merkle.proofs.MapProofLemmas.Forms.{short_form, short_few}
use Rattle.warg_merkle.proofs.MapProofLemmas.ShortFormOf.{is_form_of}
use Rattle.warg_merkle.proofs.map_proof.map_proof.MapProof.as_bytes.Goals as goal

pub returns-clause-form : goal.returns-clause-form
returns-clause-form c =
    let P : List (List ℕ) → Type 0 = λ path. IsShortForm sha256 path c.self.inside.bytes.items in
    rw c.as_slice-bytes.ensures.value (subst P c.self.view_is (short_form sha256 c.self.inside.bytes.items c.self.invariant))

pub returns-clause-reads_back : goal.returns-clause-reads_back
returns-clause-reads_back c = ap (path_in sha256) c.as_slice-bytes.ensures.value ∙ of_short sha256 c.self.inside.bytes.items c.self.invariant ∙ ap (λ path. Ok path) c.self.view_is

pub returns-clause-few : goal.returns-clause-few
returns-clause-few c =
    let size = c.self.invariant.size in
    omega (arith, ap length c.as_slice-bytes.ensures.value, short_few c.self.inside.bytes.items)

pub returns-clause-value : goal.returns-clause-value
returns-clause-value c = is_form_of sha256 c.args.self.now c.as_slice-bytes.result.now c.byte_range.ensures (returns-clause-form c)
