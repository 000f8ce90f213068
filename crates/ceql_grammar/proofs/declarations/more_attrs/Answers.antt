use Rattle.std.proofs.Common.{arith, rules}
use Rattle.std.specs.Prelude.{codes}
use Rattle.std.proofs.lemmas.Result.{err_from_is_err_and}
use Rattle.ceql_grammar.specs.PartlyRead.{with_front}
use Rattle.ceql_grammar.specs.WordsAndSigns.{is}
use Rattle.ceql_grammar.specs.RuleReaders.{attr, more_attrs, no_value}
use Rattle.ceql_grammar.proofs.LoopExits.{exit, turn_fails, turn_goes_plain, turn_ends}
use Rattle.ceql_grammar.proofs.LoopRules.{attrs_again}
use Rattle.ceql_grammar.proofs.declarations.more_attrs.Goals as goal

pub returns-in_err-next : goal.returns-in_err-next
unfolding more_attrs
returns-in_err-next c =
    let p = err_from_is_err_and c.from_residual.result c.from_residual.ensures.1 in
    record {
      value = exit (λ v. v.items) c.from_residual.result p.0 c.in_err-next.field-0.0 p.1 p.2 (with_front c.args.attrs.items (more_attrs c.args.tokens.now))
          (turn_fails (is (codes ",")) no_value (λ _. attr) attrs_again c.loop-later.attrs.items c.loop-later.rest.now (with_front c.args.attrs.items (more_attrs c.args.tokens.now)) tt c.in-Some.later.now c.in_err-next.field-0.0 c.loop-later.invariant.0 c.in-Some.ensures.value c.in_err-next.ensures.value);
      no_longer = search rules;
    }

pub loop-later-preserved : goal.loop-later-preserved
unfolding more_attrs
loop-later-preserved c = (
  turn_goes_plain (is (codes ",")) no_value (λ _. attr) attrs_again c.loop-later.attrs.items c.push.new.self.items c.loop-later.rest.now (with_front c.args.attrs.items (more_attrs c.args.tokens.now)) tt c.in-Some.later.now c.in_ok-next.next c.in_ok-next.behind_next.now c.loop-later.invariant.0 c.in-Some.ensures.value c.in_ok-next.ensures.value c.in_ok-push.ensures.items,
  omega (arith, c.loop-later.invariant.1, c.in-Some.ensures.shorter, c.in_ok-next.ensures.shorter),
)

pub returns : goal.returns
unfolding more_attrs
returns c = record { value = turn_ends (is (codes ",")) no_value (λ _. attr) attrs_again c.loop-later.attrs.items c.loop-later.rest.now (with_front c.args.attrs.items (more_attrs c.args.tokens.now)) c.loop-later.invariant.0 c.in_default.ensures.value; no_longer = search rules }
