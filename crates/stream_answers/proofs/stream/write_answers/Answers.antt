use Rattle.std.proofs.Common.{[], arith}
use Rattle.query_engine.specs.Engine.{peak_of}
use Rattle.stream_answers.proofs.Windows.{follows_none, on_ok}
use Rattle.stream_answers.proofs.stream.write_answers.Goals as goal

pub returns-clause-wrote : goal.returns-clause-wrote
returns-clause-wrote g c = c.write_answers_after.ensures.wrote (peak_of c.args.engine.now) [] (follows_none c.args.engine.now c.requires.fresh)

pub returns-clause-steps : goal.returns-clause-steps
returns-clause-steps g c = λ bytes same.
    c.write_answers_after.ensures.steps (peak_of c.args.engine.now) [] c.args.steps.now (follows_none c.args.engine.now c.requires.fresh) (λ most meet. omega arith) bytes same

pub returns-clause-stands : goal.returns-clause-stands
returns-clause-stands g c = on_ok c.write_answers_after.result _ _ (λ stands. stands (peak_of c.args.engine.now) [] (follows_none c.args.engine.now c.requires.fresh)) c.write_answers_after.ensures.stands

pub write_answers_after-requires : goal.write_answers_after-requires
write_answers_after-requires g c = let none = c.requires.none in let range = c.has_64_bits.ensures in record { room = omega (arith, none, range) }
