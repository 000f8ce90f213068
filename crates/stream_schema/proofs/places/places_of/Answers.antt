use Rattle.std.proofs.Common.{rules}
use Rattle.stream_schema.proofs.AttributePlaces.{next_place}
use Rattle.stream_schema.proofs.places.places_of.Goals as goal

pub loop-ty-preserved : goal.loop-ty-preserved
loop-ty-preserved c = next_place c.args.name.now c.args.schema.now.types c.loop-ty.ty c.loop-ty.places.items c.push.new.self.items c.place_in.result (search rules) c.loop-ty.invariant c.place_in.ensures c.in_ok-push.ensures.items
