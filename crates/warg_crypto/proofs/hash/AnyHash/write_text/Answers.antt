use Rattle.std.proofs.Common.{rules, refl, ◌≡◌, codes, nat_lt}
use Rattle.std.specs.Str.{IsAscii}
use Rattle.std.proofs.lemmas.Bool.{ltb-true}
use Rattle.std.proofs.lemmas.List.Sums.{AllPass-from_list_all}
use Rattle.std.proofs.lemmas.Str.{IsUtf8-from_ascii, IsAscii-append}
use Rattle.std.proofs.lemmas.Str.Ascii.{IsAscii-from_all}
use Rattle.hex.specs.Hex.{encode_lower, lower_digits}
use Rattle.hex.proofs.HexLemmas.{IsAscii-encode_with}
use Rattle.warg_crypto.specs.HashTextLaws.{IsAscii-lower_digits}
use Rattle.warg_crypto.proofs.hash.AnyHash.write_text.Goals as goal

IsAscii-name : IsAscii (codes "sha256:")
IsAscii-name = IsAscii-from_all (codes "sha256:") (λ k d below. ltb-true _ _ (AllPass-from_list_all (λ b. nat_lt b 128) (codes "sha256:") refl k d below))

pub from_utf8_unchecked-requires : goal.from_utf8_unchecked-requires
from_utf8_unchecked-requires c =
    let name : c.copy_from_slice.new.self ≡ codes "sha256:" = search rules in
    let digits : c.encode_to_slice.new.output ≡ encode_lower c.args.self.now.bytes = search rules in
    rw (name, digits) (IsUtf8-from_ascii _ (IsAscii-append (codes "sha256:") (encode_lower c.args.self.now.bytes) IsAscii-name (IsAscii-encode_with lower_digits c.args.self.now.bytes IsAscii-lower_digits)))
