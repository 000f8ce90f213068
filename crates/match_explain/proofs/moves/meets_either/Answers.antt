use Rattle.std.proofs.Common.{◌≡◌, ◌∙◌, subst, ◌||◌, ◌&&◌, Bool}
use Rattle.cer_base.specs.Bits.{has}
use Rattle.cea_determinise.specs.Runs.{some_below}
use Rattle.cea_determinise.specs.Cea.{row}
use Rattle.match_explain.proofs.Following.{either_meets_is}
use Rattle.match_explain.proofs.moves.meets_either.Goals as goal

pub returns-then-follows_next : goal.returns-then-follows_next
returns-then-follows_next c =
    let near = row c.args.near.now c.args.leaf in
    let far = row c.args.far.now c.args.leaf in
    c.if-follows_next.true ∙ subst (λ (m : Bool). (m || c.meets_row-follows_later.result) ≡ some_below c.args.size (λ j. (near j || far j) && has c.args.set.now j)) c.if-follows_next.true
    (either_meets_is near far (has c.args.set.now) c.args.size c.meets_row-follows_next.result c.meets_row-follows_later.result c.meets_row-follows_next.ensures c.meets_row-follows_later.ensures)

pub returns-else-follows_next : goal.returns-else-follows_next
returns-else-follows_next c =
    let near = row c.args.near.now c.args.leaf in
    let far = row c.args.far.now c.args.leaf in
    subst (λ (m : Bool). (m || c.meets_row-follows_later.result) ≡ some_below c.args.size (λ j. (near j || far j) && has c.args.set.now j)) c.if-follows_next.false
    (either_meets_is near far (has c.args.set.now) c.args.size c.meets_row-follows_next.result c.meets_row-follows_later.result c.meets_row-follows_next.ensures c.meets_row-follows_later.ensures)
