use Rattle.std.proofs.Common.{◌≡◌, [], ◌∷◌, ◌++◌, ◌∙◌, ap, arith, rules}
use Rattle.std.specs.Prelude.{FitsSigned, ℕ}
use Rattle.std.specs.Int.{w32, w64}
use Rattle.std.proofs.lemmas.Int.{to_z-of_z}
use Rattle.warg_protobuf.specs.Writing.{as_number, number_field, in_order, bytes_of}
use Rattle.warg_protobuf.proofs.WrittenFields.{part_then, part_last}
use Rattle.warg_protobuf.proofs.timestamp.TimestampPairCodec.write.Goals as goal

pub returns-clause-spelled : goal.returns-clause-spelled
returns-clause-spelled c =
    let v = c.args.self.now in
    let old = c.args.out.now.items in
    let mid = c.push_number.new.out.items in
    let new = c.push_number-2.new.out.items in
    let long : FitsSigned w64 v.seconds = search rules in
    let short : FitsSigned w32 v.nanos = search rules in
    let seconds : c.as_number.result ≡ as_number v.seconds = grind (arith, to_z-of_z, c.as_number.ensures) in
    let nanos : c.as_number-2.result ≡ as_number v.nanos = grind (arith, to_z-of_z, c.as_number-2.ensures, c.from.ensures) in
    let first : mid ≡ old ++ bytes_of (number_field 1 (as_number v.seconds)) = c.in_ok-push_number.ensures ∙ ap (λ (n : ℕ). old ++ bytes_of (number_field 1 n)) seconds in
    let second : new ≡ mid ++ bytes_of (number_field 2 (as_number v.nanos)) = c.in_ok-push_number-2.ensures ∙ ap (λ (n : ℕ). mid ++ bytes_of (number_field 2 n)) nanos in
    part_then old mid new (number_field 1 (as_number v.seconds)) (in_order (number_field 2 (as_number v.nanos) ∷ [])) first (part_last mid new (number_field 2 (as_number v.nanos)) second)
