use Rattle.query_index.proofs.Opened.{asks_one}
use Rattle.query_index.proofs.text_prefilters.text_prefilter_of.Goals as goal

pub returns-in-Some : goal.returns-in-Some
returns-in-Some c = asks_one c.in-Some.text_prefilter c.args.tests.now c.loop-test.test-index c.test-item.result c.loop-test-test.true c.test-item.is c.in-Some.ensures
