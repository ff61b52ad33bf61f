-- What a handle owns.
use base.Fml.{Fml, ftrue}
use base.Stored.{Coded}
use denote.RawPtr.{Ptr}
use Rattle.std.specs.Prelude.{Option, Some, None}
use Rattle.std.specs.Coded.{coded_option}
use Rattle.std.specs.Box.Ownership.{box_owns}
use Rattle.std.specs.Global.{Global}
use Rattle.std.specs.contracts.impls.GlobalAllocator.TheImpl.{ghosts}
use Rattle.warg_c.specs.contracts.any_log.AnyLog.{the_row}

-- what is held
abbrev pub AnyLogValue : Type 0
AnyLogValue = the_row.Denot

-- the block of the state, where there is one
abbrev pub kept_owns : Global → Ptr → Option AnyLogValue → Fml
kept_owns alloc p None = ftrue
kept_owns alloc p (Some x) = box_owns (ghosts.dealloc_token alloc) the_row p x

abbrev pub kept_coded : Coded (Option AnyLogValue)
kept_coded = coded_option the_row.coded
