use Rattle.std.proofs.Common.{List, ℕ}
use Rattle.ceql_parser.proofs.NameSetLemmas.{walk_begins, walk_goes, walk_told, walk_ends}
use Rattle.ceql_parser.proofs.formula_checks.check_postfixes.Goals as goal

pub loop-postfix-init : goal.loop-postfix-init
loop-postfix-init c = walk_begins c.args.types.now c.args.names c.args.postfixes.now

pub loop-postfix-preserved : goal.loop-postfix-preserved
loop-postfix-preserved c = walk_goes c.args.types.now c.args.names c.loop-postfix.left c.check_postfix.new.names c.args.postfixes.now c.loop-postfix.postfix-index c.postfix-item.result c.loop-postfix-test.true c.postfix-item.is c.loop-postfix.invariant c.in-Ok.ensures.told c.in-Ok.ensures.names

pub returns-in-Err-clause-told : goal.returns-in-Err-clause-told
returns-in-Err-clause-told c = walk_told (Unit {0}) (List (List ℕ)) c.args.types.now c.args.names c.loop-postfix.left c.args.postfixes.now c.loop-postfix.postfix-index c.postfix-item.result c.in-Err.stop c.loop-postfix-test.true c.postfix-item.is c.loop-postfix.invariant c.in-Err.ensures.told

pub returns-clause-told : goal.returns-clause-told
returns-clause-told c = (walk_ends c.args.types.now c.args.names c.loop-postfix.left c.args.postfixes.now c.loop-postfix.postfix-index c.loop-postfix-test.false c.loop-postfix.invariant).0

pub returns-clause-names : goal.returns-clause-names
returns-clause-names c = (walk_ends c.args.types.now c.args.names c.loop-postfix.left c.args.postfixes.now c.loop-postfix.postfix-index c.loop-postfix-test.false c.loop-postfix.invariant).1
