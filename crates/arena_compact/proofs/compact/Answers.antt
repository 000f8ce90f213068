use Rattle.std.proofs.Common.{◌∙◌, min, ap₂, arith}
use Rattle.std.specs.Int.{w128}
use Rattle.std.proofs.lemmas.Int.{to_z-of_z}
use Rattle.std.proofs.lemmas.List.{length-map}
use Rattle.arena_compact.proofs.compact.Goals as goal

pub returns-clause-nodes : goal.returns-clause-nodes
returns-clause-nodes g c = rw (c.of.ensures, to_z-of_z w128 c.args.low c.ranges.low) at c.compact_with.ensures.compaction.compacted.nodes

pub returns-clause-lists : goal.returns-clause-lists
returns-clause-lists g c = rw (c.of.ensures, to_z-of_z w128 c.args.low c.ranges.low) at c.compact_with.ensures.compaction.compacted.lists

pub returns-clause-cursors : goal.returns-clause-cursors
returns-clause-cursors g c = λ k d lt. let n = length-map c.args.cursors.now g.C.HasCursor.walk in c.compact_with.ensures.compaction.compacted.cursors k d (omega arith)

pub returns-clause-room : goal.returns-clause-room
returns-clause-room g c = ap₂ (λ a b. min a b) c.compact_with.ensures.table c.compact_with.ensures.lows ∙ c.room.view_is
