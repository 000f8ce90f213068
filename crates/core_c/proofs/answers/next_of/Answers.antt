-- The answer is given, or kept, or there was no memory to find it.
use Rattle.std.proofs.Common.{refl, sym, ◌∙◌, ap, ℕ, List, arith}
use Rattle.core_c.specs.Calls.HasAnswered.{given, kept, wants}
use Rattle.core_c.specs.Notes.{put_first}
use Rattle.core_c.proofs.Outcomes.{answered}
use Rattle.core_c.proofs.answers.next_of.Goals as goal

pub returns-then-numbers-positions : goal.returns-then-numbers-positions
returns-then-numbers-positions g c = kept c.in-Ok-Some.numbers refl (rw c.in-Ok-Some.field-0-is at (rw c.in-Ok-Some.is at c.peek.ensures)) c.tell_numbers.ensures (omega arith) refl

pub returns-in-Ok-Some : goal.returns-in-Ok-Some
returns-in-Ok-Some g c =
    given c.in-Ok-Some.numbers refl (answered c.args.service.now c.peek.new.self c.advance.new.self c.in-Ok-Some.numbers (rw c.in-Ok-Some.field-0-is at (rw c.in-Ok-Some.is at c.peek.ensures)) c.advance.ensures.drawn c.advance.ensures.positions)
    c.tell_numbers.ensures (omega arith)
    (c.copy_first.ensures ∙ ap (λ (places : List ℕ). put_first places c.args.positions.now) (c.positions.ensures ∙ sym c.advance.ensures.positions))

pub returns : goal.returns
returns g c = wants c.in-Err.field-0 refl c.peek.ensures.gives refl refl
