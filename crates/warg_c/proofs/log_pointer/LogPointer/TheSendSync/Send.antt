use mir.Raw.{raw}
use base.Fraction.{full_share}
use base.Shift.{Keyless}
use denote.Exit.{Exit, unchanged, leaves, hidden, under}
use denote.Memory.{lone}
use denote.RattleType.{RattleType}
use denote.RawPtr.{Ptr, block_ptr, null_ptr, lies_at}
use denote.Struct.Struct.{exits_of}
use denote.Struct.Owning.{shape, fields, to}
use denote.Param.Send.{IsSend, AllSend, Quiet, owning_send, struct_send, part_keyless, sendable}
use Rattle.std.specs.Prelude.{Option, Some, None}
use Rattle.std.specs.Global.{Global}
use Rattle.std.proofs.Crossing as heap
use Rattle.std.proofs.alloc.Global.TheSendSync as handle
use Rattle.warg_c.specs.Kept.{kept_owns}
use Rattle.warg_c.specs.contracts.any_log.AnyLog as Inner
use Rattle.warg_c.proofs.any_log.AnyLog.TheSendSync.{the_send as inner}
use Rattle.warg_c.specs.contracts.log_pointer.LogPointer.{the_row, the_type}

quiet : {D X : Type 0} (to : D → X) (e : Exit X) → Quiet e → Quiet (hidden (under to e))
quiet to unchanged q = λ x w. tt
quiet to (leaves L l S s r₀) q = λ d. q (to d)

lies : (R : RattleType) → IsSend R → (p : Ptr) (x : R.Denot) → Keyless (lies_at R full_share p x)
lies R s (block_ptr b o) x = part_keyless R s full_share x b o
lies R s null_ptr x = tt

crosses : (a : Global) (p : Ptr) (m : Option (Inner.the_row).Denot) → Keyless (kept_owns a p m)
crosses a p None = tt
crosses a p (Some x) = (lies Inner.the_row inner p x, heap.frees.frees a (raw (lone (Inner.the_row).mir)) p)

pub send : IsSend the_row
send =
    let all : AllSend (fields the_type) = (search sendable, (handle.the_field_send, tt)) in
    owning_send the_type all (λ d. crosses d.alloc d.at d.kept)
    (λ k. quiet (to the_type) (exits_of k (fields the_type)) ((struct_send (shape the_type) all).leaving k))
