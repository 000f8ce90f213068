use Rattle.std.proofs.Common.{arith, subst, get_or, ◌+◌, ◌-◌, ◌*◌, ◌/◌, ◌%◌, ◌^◌}
use Rattle.std.proofs.lemmas.Nat.{and_le_l}
use Rattle.cer_base.proofs.WordBits.{IsFront, past_end, front_is, front_found, front_first, later_found, later_first, none_before}
use Rattle.cer_base.proofs.words.next_from.Goals as goal

pub returns-then-at-words-clause-none : goal.returns-then-at-words-clause-none
returns-then-at-words-clause-none c k h = past_end c.args.words.now k (omega arith)

pub returns-then-front-ne0-clause-found : goal.returns-then-front-ne0-clause-found
returns-then-front-ne0-clause-found c = front_found c.args.words.now c.args.from _ (front_is _ (c.args.from % 64) (omega arith)) (omega (arith, c.if-front-ne0.true)) (omega (arith, c.type_inv.words (c.args.from / 64), and_le_l (get_or c.args.words.now (c.args.from / 64) 0) ((2 ^ 64 - 1) * 2 ^ (c.args.from % 64) % 2 ^ 64)))

pub returns-then-front-ne0-clause-first : goal.returns-then-front-ne0-clause-first
returns-then-front-ne0-clause-first c = front_first c.args.words.now c.args.from _ (front_is _ (c.args.from % 64) (omega arith)) (omega (arith, c.if-front-ne0.true)) (omega (arith, c.type_inv.words (c.args.from / 64), and_le_l (get_or c.args.words.now (c.args.from / 64) 0) ((2 ^ 64 - 1) * 2 ^ (c.args.from % 64) % 2 ^ 64)))

pub returns-in-Some-clause-found : goal.returns-in-Some-clause-found
returns-in-Some-clause-found c = later_found c.args.words.now c.args.from c.in-Some.i c.in-Some.ensures.found.0 c.in-Some.ensures.found.2 (omega (arith, c.type_inv.words c.in-Some.i))

pub returns-in-Some-clause-first : goal.returns-in-Some-clause-first
returns-in-Some-clause-first c =
    let w = get_or c.args.words.now (c.args.from / 64) 0 in
    let front = subst (IsFront w (c.args.from % 64)) c.if-front-ne0.false (front_is w (c.args.from % 64) (omega arith)) in
    later_first c.args.words.now c.args.from c.in-Some.i front c.in-Some.ensures.first c.in-Some.ensures.found.2 (omega (arith, c.type_inv.words c.in-Some.i))

pub returns-in-None-clause-none : goal.returns-in-None-clause-none
returns-in-None-clause-none c k more =
    let w = get_or c.args.words.now (c.args.from / 64) 0 in
    let front = subst (IsFront w (c.args.from % 64)) c.if-front-ne0.false (front_is w (c.args.from % 64) (omega arith)) in
    none_before c.args.words.now c.args.from (k / 64 + 1) front (λ j h _. c.in-None.ensures.none j h) k more (omega arith)
