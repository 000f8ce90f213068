-- The order is that on the start with the marks.
use Rattle.answer_text.specs.AnswerSpans.{answer_of}
use Rattle.answer_text.proofs.Ordered.{is_less, is_equal, is_greater}
use Rattle.answer_text.proofs.answer.order.Goals as goal

pub returns-clause-less : goal.returns-clause-less
returns-clause-less c = is_less (answer_of c.args.start c.args.falling.now) (answer_of c.args.other c.args.others.now) c.compare.result c.compare.ensures

pub returns-clause-equal : goal.returns-clause-equal
returns-clause-equal c = is_equal (answer_of c.args.start c.args.falling.now) (answer_of c.args.other c.args.others.now) c.compare.result c.compare.ensures

pub returns-clause-greater : goal.returns-clause-greater
returns-clause-greater c = is_greater (answer_of c.args.start c.args.falling.now) (answer_of c.args.other c.args.others.now) c.compare.result c.compare.ensures
