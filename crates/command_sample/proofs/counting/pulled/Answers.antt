-- A member more is counted and added.
use Rattle.std.proofs.Common.{◌++◌, [], ◌∷◌}
use Rattle.cer_base.specs.Members.{Member}
use Rattle.query_engine.specs.Engine.{rest}
use Rattle.command_sample.proofs.Sums.{given_more, counted_more, added_more}
use Rattle.command_sample.proofs.counting.pulled.Goals as goal

pub loop-start-preserved : goal.loop-start-preserved
loop-start-preserved g c = record {
  fits = c.pull.ensures.fits;
  given =
      let h = c.loop-start.invariant.given in
      let m : Member = record { start = c.in-Some.start; positions = c.pull.new.cursor.path } in (
        h.0 ++ m ∷ [],
        given_more c.args.end (rest c.args.engine.now c.args.cursor.now) h.0 (rest c.args.engine.now c.loop-start.cursor) (rest c.args.engine.now c.pull.new.cursor) m h.1 c.in-Some.ensures.answer,
        counted_more h.0 m c.loop-start.tally.answers c.joined-tally.result.answers h.2 c.joined-tally.ensures.answers,
        added_more c.args.end h.0 m c.positions.result.now c.loop-start.tally.total c.weight-total.result c.joined-tally.result.total h.3 c.positions.ensures c.weight-total.ensures c.joined-tally.ensures.total,
      );
}
