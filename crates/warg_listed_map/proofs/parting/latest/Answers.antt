use Rattle.std.proofs.Common.{◌+◌, take, [], sym, subst, arith}
use Rattle.warg_listed_map.specs.ListedMaps.{IsLatest}
use Rattle.warg_listed_map.specs.declared.entry.Entry.{Entry}
use Rattle.warg_listed_map.proofs.PartingLemmas.{later, not_later}
use Rattle.warg_listed_map.proofs.parting.latest.Goals.{then-best-entry, else-best-entry}
use Rattle.warg_listed_map.proofs.parting.latest.Goals as goal

pub loop-i-preserved : goal.loop-i-preserved
loop-i-preserved c =
    let es = c.args.entries.now in
    let i = c.loop-i.i in
    let P : Entry → Type 0 = λ e. IsLatest (take (i + 1) es) e in
    let none : Entry = record { key = []; leaf = []; place = 0 } in (
      omega arith,
      elim c.if-best-entry.branch [
        | then-best-entry w ↦ subst P (sym w.best-is) (later es i c.loop-i.best (omega arith) c.loop-i.invariant.1 none w.if-best-entry.true)
        | else-best-entry w ↦ subst P (sym w.best-is) (not_later es i c.loop-i.best (omega arith) c.loop-i.invariant.1 none (omega (arith, w.if-best-entry.false)))
      ],
    )
