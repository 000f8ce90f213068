-- The answer is given, or kept.
use Rattle.std.proofs.Common.{refl, sym, ◌∙◌, ap, List, ℕ, arith}
use Rattle.core_service.proofs.HeldServices.{pulled_both}
use Rattle.core_c.specs.HeldCalls.HasPulled.{given, kept}
use Rattle.core_c.specs.Notes.{put_first}
use Rattle.core_c.proofs.cursors.pull_of.Goals as goal

pub returns-then-numbers-positions : goal.returns-then-numbers-positions
returns-then-numbers-positions g c = kept c.in-Ok-Some.numbers refl (rw c.in-Ok-Some.field-0-is at (rw c.in-Ok-Some.is at c.peek_held.ensures)) c.tell_numbers.ensures (omega arith) refl

pub returns-in-Ok-Some : goal.returns-in-Ok-Some
returns-in-Ok-Some g c =
    given c.in-Ok-Some.numbers refl (pulled_both c.args.cursor c.args.service.now c.peek_held.new.self c.advance_held.new.self c.in-Ok-Some.numbers c.advance_held.result
    (rw c.in-Ok-Some.field-0-is at (rw c.in-Ok-Some.is at c.peek_held.ensures)) c.advance_held.ensures.advanced c.advance_held.ensures.positions)
    c.tell_numbers.ensures (omega arith)
    (c.copy_first.ensures ∙ ap (λ (places : List ℕ). put_first places c.args.positions.now) (c.positions.ensures ∙ sym c.advance_held.ensures.positions))
