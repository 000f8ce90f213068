use Rattle.std.proofs.Common.{◌≡◌, ℕ, List, [], ◌∷◌, ◌++◌, map, sym, ◌∙◌, ap, subst}
use Rattle.std.proofs.lemmas.List.{map-append}
use Rattle.event_reader.specs.Lines.{file_lines}
use Rattle.event_reader.specs.LineReaders.{HasGiven}
use Rattle.language_tests.proofs.tests.input.lines.read_lines.Goals as goal

-- one more text was seen
seen : {A : Type 0} (view : A → List ℕ) (old new : List A) (item : A) (text : List ℕ) → new ≡ old ++ item ∷ [] → view item ≡ text → map view old ++ text ∷ [] ≡ map view new
seen view old new item text e h =
    ap (λ t. map view old ++ t ∷ []) (sym h) ∙ sym (map-append view old (item ∷ [])) ∙ ap (map view) (sym e)

pub loop-lines-preserved : goal.loop-lines-preserved
loop-lines-preserved g c =
    let lines = rw c.in-Ok-Line.field-0-is at c.in-Ok-Line.ensures.lines in
    let moves = rw c.in-Ok-Line.field-0-is at c.in-Ok-Line.ensures.moves in
    record {
      given = λ bytes told.
          subst (λ texts. HasGiven c.next.new.self bytes (g.Q.Source.left c.next.new.source) texts)
          (seen (λ text. text.items) c.loop-lines.texts.items c.push.new.self.items c.in_ok-text-in-Ok-Line.text c.next.new.self.text
          c.in_ok-push-in-Ok-Line.ensures.items (c.in_ok-text-in-Ok-Line.ensures.items ∙ c.text.ensures.value))
          (lines bytes (map (λ text. text.items) c.loop-lines.texts.items) (c.loop-lines.invariant.given bytes told));
      budget = moves.1.budget ∙ c.loop-lines.invariant.budget;
      open_ = moves.1.closed_is;
    }

pub returns-in-Ok-End : goal.returns-in-Ok-End
returns-in-Ok-End g c = λ bytes told.
    let lines = rw c.in-Ok-End.field-0-is at c.in-Ok-End.ensures.lines in
    let moves = rw c.in-Ok-End.field-0-is at c.in-Ok-End.ensures.moves in
    ap (λ n. file_lines n bytes) (sym (moves.budget ∙ c.loop-lines.invariant.budget)) ∙ lines bytes _ (c.loop-lines.invariant.given bytes told)
