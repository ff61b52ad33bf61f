use Rattle.std.proofs.Common.{rules, sym, ap, ◌≡◌, ◌∙◌, ◌∷◌, codes, length}
use Rattle.hex.specs.Hex.{encode_lower}
use Rattle.warg_transparency.proofs.Encodings.{tagged}
use Rattle.warg_transparency.proofs.encode.put_hash.Goals as goal

pub returns : goal.returns
returns c =
    let tag : c.copy_from_slice.new.self ≡ 71 ∷ codes "sha256:" = search rules in
    let digits : c.encode_to_slice.new.output ≡ encode_lower c.args.hash.now.bytes = search rules in
    let len : length c.args.hash.now.bytes ≡ 32 = ap length (sym c.bytes.ensures.value) ∙ c.bytes.ensures.len in
    record { written = rw (tag, digits) (tagged c.args.hash.now.bytes len); is_hash = record { len = len; fits = c.bytes.ensures.are_bytes } }
