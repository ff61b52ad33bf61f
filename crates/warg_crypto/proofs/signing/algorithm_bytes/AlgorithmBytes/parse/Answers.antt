use Rattle.std.proofs.Common.{rules, ◌≡◌, ◌<◌, ◌==◌, ℕ, List, false, length, subst}
use Rattle.std.specs.List.{after_first, before_first, position_or_len}
use Rattle.base64.specs.Engines.{standard}
use Rattle.base64.specs.GeneralPurpose.{decode_of}
use Rattle.warg_crypto.specs.HashText.{is_colon}
use Rattle.warg_crypto.specs.NamedBytesLaws.{later_fault, no_colon-before_first, some_bytes}
use Rattle.warg_crypto.proofs.signing.algorithm_bytes.AlgorithmBytes.parse.Goals as goal

pub invariant_of-result : goal.invariant_of-result
invariant_of-result c =
    let nonempty : 0 < length c.in-Some.name.now = some_bytes _ _ c.is_empty.ensures c.if-is_empty.false in
    let front : c.in-Some.name.now ≡ before_first is_colon c.args.text.now = search rules in
    rw (c.in-Ok-from_str.ensures.ok) (record { nonempty = nonempty; no_colon = rw front (no_colon-before_first c.args.text.now) })

pub returns-in-Err-OutOfMemory-clause-memory : goal.returns-in-Err-OutOfMemory-clause-memory
returns-in-Err-OutOfMemory-clause-memory c = λ _.
    let nonempty : 0 < length c.in-Some.name.now = some_bytes _ _ c.is_empty.ensures c.if-is_empty.false in
    let front : c.in-Some.name.now ≡ before_first is_colon c.args.text.now = search rules in
    let colon : (position_or_len is_colon c.args.text.now == length c.args.text.now) ≡ false = search rules in
    later_fault _ _ (decode_of standard (after_first is_colon c.args.text.now)) colon (subst (λ (l : List ℕ). 0 < length l) front nonempty)
