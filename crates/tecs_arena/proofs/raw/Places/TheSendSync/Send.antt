-- Places go to another thread as what they hold may.
use denote.RattleType.{RattleType}
use denote.Param.Send.{IsSend}
use Rattle.tecs_arena.proofs.Crossing.{send_places}
use Rattle.tecs_arena.specs.contracts.raw.Places.{the_row}

pub send : (R : RattleType) → IsSend R → IsSend (the_row R)
send = send_places
