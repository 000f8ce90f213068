use Rattle.std.proofs.Common.{◌∙◌, sym}
use Rattle.arena_compact.proofs.Readings.{roots_one}
use Rattle.arena_compact.proofs.cursors.keep_if.Goals as goal

pub returns-then-query : goal.returns-then-query
returns-then-query c =
    let same = sym c.query.ensures ∙ c.if-query.true in
    record {
      marks = λ nodes roots le fits h. rw (roots_one c.args.query c.args.cursor.now same) (c.keep_cursor.ensures.marks nodes roots le (fits same) h);
      long = c.keep_cursor.ensures.long;
    }
