use Rattle.warg_registry.specs.PrefixEncodings.{map_leaf_encoding_of}
use Rattle.warg_transparency.proofs.laws.contradictions.head_or_none.Goals as goal

pub returns : goal.returns
returns c = λ root log_id leaf proof other_proof head none.
    c.one_value.ensures.absence (map_leaf_encoding_of leaf) log_id.hash.bytes root.bytes proof other_proof head.siblings none.siblings head.leads none.leads
