use Rattle.std.proofs.Common.{Ok, string_bytes, refl, ◌∙◌, ap}
use Rattle.warg_transparency.proofs.TextLemmas.{map_text_back}
use Rattle.warg_transparency.proofs.map_proof.MapProof.to_text.Goals as goal

pub returns-clause-reads_back : goal.returns-clause-reads_back
returns-clause-reads_back c = map_text_back string_bytes c.encode.result c.as_bytes.result.now c.args.self.now c.encode.ensures.text (c.encode.ensures.round_trip refl) c.as_bytes.ensures.few (c.as_bytes.ensures.reads_back ∙ ap (λ path. Ok path) c.self.view_is)
