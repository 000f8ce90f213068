use Rattle.arena_compact.proofs.Reached.{all_reached}
use Rattle.arena_compact.proofs.Standing.{still_stand}
use Rattle.arena_compact.proofs.laws.compacted_lists_stand.Goals as goal

pub returns : goal.returns
returns c = λ t least used from xs old new rows moved w le stands compacted. still_stand least used old new w t from xs rows moved le stands compacted
