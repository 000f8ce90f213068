-- Each piece stands before those that are there.
use Rattle.std.proofs.Common.{◌≡◌, ◌∷◌, ◌++◌, [], length, drop, reverse, decimal, ap, ◌∙◌, arith}
use Rattle.std.proofs.lemmas.List.{drop_all}
use Rattle.answer_text.specs.Output.{positions_text}
use Rattle.answer_text.proofs.ShortLines.{pieces_are_line}
use Rattle.answer_text.proofs.short.put_line.Goals as goal

pub returns-clause-text : goal.returns-clause-text
returns-clause-text c =
    let blank : drop (length c.args.buf.now) c.args.buf.now ≡ [] = drop_all (length c.args.buf.now) c.args.buf.now (omega arith) in
    let last = c.put_byte-at-2.ensures.text ∙ ap (λ t. 125 ∷ t) (c.put_byte-at.ensures.text ∙ ap (λ t. 10 ∷ t) blank) in
    let marks = c.put_positions-at.ensures.text ∙ ap (λ t. positions_text (reverse c.args.falling.now) ++ t) last in
    let close = c.put_byte-at-5.ensures.text ∙ ap (λ t. 93 ∷ t) (c.put_byte-at-4.ensures.text ∙ ap (λ t. 32 ∷ t) (c.put_byte-at-3.ensures.text ∙ ap (λ t. 123 ∷ t) marks)) in
    let comma = c.put_byte-at-6.ensures.text ∙ ap (λ t. 44 ∷ t) (c.put_number-at.ensures.text ∙ ap (λ t. decimal c.args.end ++ t) close) in
    let start = c.put_number-at-2.ensures.text ∙ ap (λ t. decimal c.args.start ++ t) comma in
    let opened = c.put_byte-at-8.ensures.text ∙ ap (λ t. 32 ∷ t) (c.put_byte-at-7.ensures.text ∙ ap (λ t. 91 ∷ t) start) in
    pieces_are_line c.args.query c.args.start c.args.end (reverse c.args.falling.now) _
    (c.put_number.ensures.text ∙ ap (λ t. decimal c.args.query ++ t) opened)
