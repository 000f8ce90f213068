use Rattle.std.proofs.Common.{◌≡◌, sym, ap, ◌∙◌, Bool, true, false, not}
use Rattle.all_or_none.proofs.ActiveQueries.{empty_is_dormant, told, untold}
use Rattle.all_or_none.proofs.look.Goals.{then-is_empty, else-is_empty}
use Rattle.all_or_none.proofs.look.Goals as goal

pub returns : goal.returns
returns g c = record {
  rest = λ out. (
      let is = told c.if-is_empty.is_dormant (sym c.put-2.ensures.here ∙ out) in
      elim c.if-is_empty.branch [
        | then-is_empty w ↦ empty_is_dormant (λ n. g.P.Participant.phase n c.args.query_state.now) (c.is_empty-is_empty.ensures w.if-is_empty.true)
        | else-is_empty w ↦ w.is_dormant-is_dormant.ensures (sym w.is_dormant-is ∙ is)
      ]);
  empty = λ out. c.is_empty-is_empty.ensures (told c.is_empty-is_empty.result (sym c.put.ensures.here ∙ out));
  within = λ is. (
      let awake = untold c.if-is_empty.is_dormant (sym c.put-2.ensures.here ∙ is) in
      elim c.if-is_empty.branch [
        | then-is_empty w ↦ c.put.ensures.here ∙ ap not (sym w.is_dormant-is ∙ awake)
        | else-is_empty w ↦ c.put.ensures.here ∙ ap not w.if-is_empty.false
      ]);
  others = λ j other. (c.put-2.ensures.others j other, c.put.ensures.others j other);
  room = (c.put-2.ensures.room, c.put.ensures.room);
}
