-- What the handle of a registry owns.
use base.Fml.{Fml, ftrue}
use base.Stored.{Coded}
use denote.RawPtr.{Ptr}
use Rattle.std.specs.Prelude.{Option, Some, None}
use Rattle.std.specs.Coded.{coded_option}
use Rattle.std.specs.Box.Ownership.{box_owns}
use Rattle.std.specs.Global.{Global}
use Rattle.std.specs.contracts.impls.GlobalAllocator.TheImpl.{ghosts}
use Rattle.warg_c.specs.contracts.registry.Registry.{the_row}

-- what is held
abbrev pub RegistryValue : Type 0
RegistryValue = the_row.Denot

-- the block of the trees, where there are some
abbrev pub registry_owns : Global → Ptr → Option RegistryValue → Fml
registry_owns alloc p None = ftrue
registry_owns alloc p (Some x) = box_owns (ghosts.dealloc_token alloc) the_row p x

abbrev pub registry_coded : Coded (Option RegistryValue)
registry_coded = coded_option the_row.coded
