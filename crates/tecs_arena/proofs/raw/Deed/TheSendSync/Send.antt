-- A deed goes to another thread where blocks may be given back there.
use denote.RattleType.{RattleType}
use denote.Param.Send.{Frees, IsSend}
use Rattle.core.specs.declared.alloc.Allocator.{Ghosts}
use Rattle.tecs_arena.proofs.Crossing.{send_deed}
use Rattle.tecs_arena.specs.contracts.raw.Deed.{the_row}

pub send : (R A : RattleType) (g : Ghosts A.Denot) → IsSend A → Frees g g.dealloc_token → IsSend (the_row R A g)
send R A g crosses = send_deed R A g
