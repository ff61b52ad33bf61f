use Rattle.sha2.specs.Sha256.{sha256}
use Rattle.warg_merkle.proofs.MapProofLemmas.Forms.{one_path, one_form}
use Rattle.warg_merkle.proofs.MapProofLemmas.ShortFormOf.{form_of}
use Rattle.warg_merkle.proofs.map_proof.laws.short_forms.Goals as goal

pub returns : goal.returns
returns c = record { one_path = one_path sha256; one_form = one_form sha256; own = form_of sha256 }
