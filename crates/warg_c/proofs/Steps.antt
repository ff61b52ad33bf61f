-- What the walks of a box's parts use.
pub use mathlib.Core.Path.{◌≡◌, refl, sym, subst, ap, ◌∙◌}
pub use mathlib.Core.List.{List, [], ◌∷◌, ◌++◌}
pub use seplogic.Ra.Ura.{Ura}
pub use mir.Val.{Val, vptr, vstruct, of_list}
pub use base.Logic.{id⊢}
pub use base.Fml.{Fml, ftrue, fsep, flft}
pub use prog.Wp.{WpFn}
pub use types.Logic.{Logic, sem}
pub use types.Kit.{Goal, Seq, Item, ‵, raw, prop, ◌⊛◌, some, later, at_ret, ◌$◌, ◌∵◌, !, qed, done, move, keep, drop, use1, split, split3, join, fsplit, fjoin, fpick, feq_i, feq_l, pick, await, rewrite, regoal, suffices, group}
pub use types.Part.{whole, sub, agg}
pub use types.Run.{enter, of_opd, stop, fld, no_more, and_then, first, blocks, exec, returns}
pub use types.ByLocal.{alloc_all, pass_all, free_all, look_at, get, get_in, sets, lands_as, lands_last, env}
pub use contract.Monad.{fact}
pub use contract.Running.{tables}
pub use denote.Exit.{yes, no}
pub use denote.Signature.{plain, type_at}
pub use denote.Steps.{heard, nothing, only}
pub use denote.Triple.Walked.{says, Stays, stay_dropped, walk_of, ends_at, Goes-dropped}
pub use Rattle.std.proofs.raw_atomic.Walks.{proved_at}
pub use Rattle.std.proofs.BoxSteps.Form.{Bx, D, B, word, box_typed}
pub use Rattle.std.proofs.BoxSteps.Steps.{box_out, box_in}
pub use Rattle.std.proofs.alloc.Calls.{Fits}
