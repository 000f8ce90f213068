use Rattle.std.proofs.Common.{◌∙◌, sym, ap}
use Rattle.std.specs.Option.{option_copied}
use Rattle.query_index.proofs.TestWords.{none_is}
use Rattle.query_index.proofs.shared_tests.one_holds.Goals as goal

pub returns-in-None : goal.returns-in-None
returns-in-None c = none_is c.args.shared.now c.args.event.now (ap option_copied (sym c.in-None.is) ∙ c.test_of.ensures)
