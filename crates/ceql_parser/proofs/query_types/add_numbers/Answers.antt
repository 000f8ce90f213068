use Rattle.std.proofs.Common.{sym, append-nil, subst, ◌++◌, ◌+◌, [], List, ℕ, take}
use Rattle.ceql_parser.specs.QueryTypes.{HaveSameNumbers}
use Rattle.ceql_parser.proofs.TypeSets.{numbers_self, numbers_as, numbers_more, numbers_all}
use Rattle.ceql_parser.proofs.query_types.add_numbers.Goals as goal

pub loop-number-init : goal.loop-number-init
loop-number-init c = let ks = c.args.numbers.now.keys in numbers_as ks ks (ks ++ []) (numbers_self ks) (sym (append-nil ks))

pub loop-number-preserved : goal.loop-number-preserved
loop-number-preserved c =
    subst (λ (ks : List ℕ). HaveSameNumbers ks (c.args.numbers.now.keys ++ take (c.loop-number.number-index + 1) c.args.types.now)) (sym c.in_ok-insert.ensures.keys)
    (numbers_more c.args.numbers.now.keys c.loop-number.numbers.keys c.args.types.now c.loop-number.number-index c.loop-number-test.true c.loop-number.invariant)

pub returns : goal.returns
returns c = numbers_all c.loop-number.numbers.keys c.args.numbers.now.keys c.args.types.now c.loop-number.number-index c.loop-number-test.false c.loop-number.invariant
