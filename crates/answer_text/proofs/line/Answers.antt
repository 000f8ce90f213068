-- The positions turned twice are the positions.
use Rattle.std.proofs.Common.{◌≡◌, ℕ, List, [], ◌++◌, reverse, ◌∙◌, ap}
use Rattle.std.proofs.lemmas.List.{reverse-reverse}
use Rattle.answer_text.specs.Output.{line}
use Rattle.answer_text.proofs.line.Goals as goal

line_is : (number start end : ℕ) (text empty lent falling positions : List ℕ) → empty ≡ [] → lent ≡ falling → falling ≡ reverse positions →
    text ≡ empty ++ line number end (record { start = start; marks = reverse lent }) → text ≡ line number end (record { start = start; marks = positions })
line_is number start end text empty lent falling positions none lent_is turned is =
    let marks : reverse lent ≡ positions = ap reverse (lent_is ∙ turned) ∙ reverse-reverse positions in
    is ∙ ap (λ (l : List ℕ). l ++ line number end (record { start = start; marks = reverse lent })) none
    ∙ ap (λ (ms : List ℕ). line number end (record { start = start; marks = ms })) marks

pub returns : goal.returns
returns c =
    line_is c.args.query c.args.start c.args.end c.push_line.new.text.items c.new-text.result.items c.as_slice.result.now c.in_ok-falling.falling.items c.args.positions.now
    c.new-text.ensures.items c.as_slice.ensures.value c.in_ok-falling.ensures c.in_ok-push_line.ensures.line
