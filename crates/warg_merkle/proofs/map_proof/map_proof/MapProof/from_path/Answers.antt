use Rattle.std.proofs.Common.{◌≡◌, ◌++◌, refl, ◌∙◌, ap, arith}
use Rattle.std.specs.List.{concat}
use Rattle.sha2.specs.Sha256.{sha256}
use Rattle.sha2.proofs.Facts256.{length-sha256}
use Rattle.warg_merkle.proofs.Sound.{each_long}
use Rattle.warg_merkle.specs.MapProof.ShortForms.{others_of, path_of, AreParts}
use Rattle.warg_merkle.proofs.MapProofLemmas.Forms.{full, full_parts, form_short, form_path, say_all}
use Rattle.warg_merkle.proofs.map_proof.map_proof.MapProof.from_path.Goals as goal

pub invariant_of-result : goal.invariant_of-result
invariant_of-result c =
    let path = c.args.path.now in
    let bits = c.bits_of-left_out.result in
    let front : c.in_ok-bytes.bytes.items ≡ bits = c.in_ok-bytes.ensures.items ∙ c.as_slice.ensures in
    let bytes : c.push_others.new.bytes.items ≡ bits ++ concat (others_of 0 bits path) = c.in_ok-push_others.ensures ∙ ap (λ b. b ++ concat (others_of 0 bits path)) front in
    let are : AreParts sha256 bits (others_of 0 bits path) = full_parts sha256 path bits (others_of 0 bits path) c.requires (omega arith) (each_long path c.told-path) (say_all sha256 path bits c.requires c.bits_of-left_out.ensures) refl in
    rw bytes (form_short sha256 length-sha256 bits (others_of 0 bits path) are)

pub returns : goal.returns
returns c =
    let path = c.args.path.now in
    let bits = c.bits_of-left_out.result in
    let front : c.in_ok-bytes.bytes.items ≡ bits = c.in_ok-bytes.ensures.items ∙ c.as_slice.ensures in
    let bytes : c.push_others.new.bytes.items ≡ bits ++ concat (others_of 0 bits path) = c.in_ok-push_others.ensures ∙ ap (λ b. b ++ concat (others_of 0 bits path)) front in
    let said = say_all sha256 path bits c.requires c.bits_of-left_out.ensures in
    let are : AreParts sha256 bits (others_of 0 bits path) = full_parts sha256 path bits (others_of 0 bits path) c.requires (omega arith) (each_long path c.told-path) said refl in
    ap (path_of sha256) bytes ∙ form_path sha256 bits (others_of 0 bits path) are ∙ full sha256 path bits (others_of 0 bits path) c.requires said refl
