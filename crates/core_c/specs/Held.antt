-- What a handle owns, and what contracts see of it.
use Rattle.std.specs.Prelude.{Bool, true, false}
use base.Fml.{Fml, ftrue}
use denote.RawPtr.{Ptr}
use Rattle.std_alloc.specs.Box.Ownership.{box_owns}
use Rattle.std.specs.declared.alloc.Global.{Global}
use Rattle.std.specs.contracts.impls.GlobalAllocator.TheImpl.{ghosts}
use Rattle.core_service.specs.contracts.service.Service.{the_row}

-- A full handle owns the boxed service that lies there and the right to free it, an empty one nothing.
abbrev pub owns_service : Bool → Ptr → Global → the_row.Denot → Fml
owns_service true at heap service = box_owns (ghosts.dealloc_token heap) the_row at service
owns_service false at heap service = ftrue
