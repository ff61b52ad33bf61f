-- The same of the trees of a registry.
use mir.Syntax.{impl, tnil, dnil}
use mathlib.Core.List.{[]}
use denote.Signature.{Slot, plain}
use Rattle.std.proofs.BoxSteps.Form.{Bx}
use Rattle.std.specs.contracts.alloc.Global as Heap
use Rattle.std.specs.contracts.impls.GlobalAllocator.TheImpl.{ghosts, dict}
use Rattle.std.proofs.alloc.Global.TheLaws as heap
use Rattle.warg_c.specs.contracts.registry.Registry as Inner
use Rattle.warg_c.proofs.registry.Registry.TheLaws as inner
use Rattle.warg_c.specs.contracts.raw_box.RawBox as RawBox
use Rattle.warg_c.specs.contracts.registry_pointer.RegistryPointer as RegistryPointer

abbrev pub E : Bx
E = record { row = Inner.the_row; laws = inner.the_row_laws; al = record { row = Heap.the_row; laws = heap.the_row_laws; g = ghosts; d = dict; drops = impl [] tnil dnil } }

abbrev pub FromParts : Slot 0
FromParts = plain (λ _. RawBox.the_row Inner.the_row Heap.the_row ghosts)

abbrev pub FromOwned : Slot 0
FromOwned = plain (λ _. RegistryPointer.the_row)
