use Rattle.std.proofs.Common.{ℕ, ◌*◌, ◌%◌, ◌^◌, arith}
use Rattle.warg_modular.specs.Value.{value}
use Rattle.warg_modular.proofs.Rounds.{low_zero, low_word, low_gone}
use Rattle.warg_modular.proofs.montgomery.round.Goals as goal

pub returns : goal.returns
returns c =
    let t = c.args.t in
    let p = c.args.p in
    let m : ℕ = (t.l0 * c.args.inverse) % 2 ^ 64 in
    let none = low_word c.row.result.0 (value c.row.result.1) t p m (omega arith) c.row.ensures (low_zero t.l0 c.args.inverse p.l0 c.requires) in
    record { factor = m; fits = omega arith; total = low_gone _ _ _ none c.row.ensures }
