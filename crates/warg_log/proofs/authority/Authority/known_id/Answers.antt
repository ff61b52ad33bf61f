use Rattle.std.proofs.Common.{◌∙◌, ap, sym}
use Rattle.std.specs.HashMap.{keys}
use Rattle.std.specs.Str.{bytes_eq}
use Rattle.std.proofs.lemmas.List.Quantifiers.{position-Some}
use Rattle.std.proofs.lemmas.Slice.Eq.{bytes_eq-Decides}
use lib.ListN.{get_or}
use Rattle.warg_log.proofs.authority.Authority.known_id.Goals as goal

pub returns-in-Some : goal.returns-in-Some
returns-in-Some g c =
    let known = c.index-as_slice-place.result in
    let at = position-Some (bytes_eq c.args.key_id.now) (keys c.self.inside.maps.keys) c.in-Some.place known (sym c.in-Some.ensures.index) in
    let same = (bytes_eq-Decides c.args.key_id.now _).0 at.1 in
    c.index-as_slice-place.is
    ∙ ap (λ ids. get_or ids c.in-Some.place known) (c.as_slice.ensures ∙ c.keys.ensures.rest)
    ∙ sym same
