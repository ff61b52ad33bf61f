use Rattle.std.proofs.Common.{rules, arith, ◌≡◌, Bool, IsTrue, false, not}
use Rattle.warg_crypto.specs.NamedBytesLaws.{some_bytes}
use Rattle.warg_crypto.proofs.signing.algorithm_bytes.is_algorithm_name.Goals as goal

false_of_not : (b : Bool) → IsTrue (not b) → b ≡ false
false_of_not b h = grind arith

not_of_false : (b : Bool) → b ≡ false → IsTrue (not b)
not_of_false b h = grind arith

pub returns-then-not-is_empty : goal.returns-then-not-is_empty
returns-then-not-is_empty c =
    let some : c.is_empty.result ≡ false = search rules in (
      λ h. record { nonempty = some_bytes c.args.text.now _ c.is_empty.ensures some; no_colon = search (rules, false_of_not _ h) },
      λ own. not_of_false _ (search (rules, own.no_colon)),
    )
