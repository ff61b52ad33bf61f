use Rattle.std.proofs.Common.{◌≡◌, Ok, refl, rules}
use Rattle.base64.specs.GeneralPurpose.{IsBytes}
use Rattle.warg_crypto.specs.NamedBytes.{IsName, NamedBytes, named_bytes_text}
use Rattle.warg_crypto.specs.Keys.{signature_of}
use Rattle.warg_crypto.specs.NamedBytesLaws.{named_bytes_of-named_bytes_text}
use Rattle.warg_envelope.proofs.laws.signature_reads_back.Goals as goal

read_again : (t : NamedBytes) → IsName t.name → IsBytes t.bytes → signature_of (named_bytes_text t) ≡ Ok t
read_again t own fits = rw (named_bytes_of-named_bytes_text t own fits) refl

pub returns : goal.returns
returns g c =
    let bytes : IsBytes c.signature-signature.result.now.bytes = search (rules, c.byte_range.ensures) in
    let name : IsName c.signature-signature.result.now.name = search rules in
    rw (← c.signature-signature.ensures) (read_again c.signature-signature.result.now name bytes)
