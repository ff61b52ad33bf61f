use Rattle.std.proofs.Common.{sym, ◌∙◌}
use Rattle.std.specs.Bool.{one_answer}
use Rattle.warg_p256.proofs.FieldElements.{number_below}
use Rattle.warg_p256.proofs.Tests.{is_verified_decides, is_key_decides}
use Rattle.warg_p256.proofs.known_keys.KnownKeys.are_verified_anew.Goals as goal

pub returns-in_default : goal.returns-in_default
returns-in_default c = one_answer _ _ (λ f. absurd (cc), λ g. absurd (c.in_default.ensures.none g.x g.y g.key_is)) (is_verified_decides _ _ _)

pub returns-then-not-verify_by : goal.returns-then-not-verify_by
returns-then-not-verify_by c =
    sym c.if-not-verify_by.true ∙ one_answer _ _ (c.verify_by.ensures c.args.key.now c.in-Some.ensures.some) (is_verified_decides _ _ _)

pub keep-requires : goal.keep-requires
keep-requires c =
    let p = c.in-Some.point in
    (is_key_decides c.args.key.now _ _ (number_below p.x.words) (number_below p.y.words)).1 c.in-Some.ensures.some

pub returns : goal.returns
returns c =
    sym c.if-not-verify_by.false ∙ one_answer _ _ (c.verify_by.ensures c.args.key.now c.in-Some.ensures.some) (is_verified_decides _ _ _)
