use Rattle.std.proofs.Common.{◌≡◌, ap, subst, sym, ◌∙◌}
use Rattle.std.specs.Prelude.{Ok}
use Rattle.warg_crypto.specs.Json.JsonLaws.{ok_same}
use Rattle.warg_crypto.proofs.json.laws.what_reads_back_is_equal.Goals as goal

pub returns : goal.returns
returns g c = λ x y d back is.
    let same : back.again ≡ g.T.JsonValue.plain y = ok_same _ _ (sym back.is ∙ is) in
    g.met.T.JsonValue.equivalent_equal g.met.T.Eq.laws x y (subst (g.T.JsonValue.equivalent (g.T.JsonValue.plain x)) same back.equal)
