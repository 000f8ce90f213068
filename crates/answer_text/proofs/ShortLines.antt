-- A line that is made from its end to its front.
use Rattle.std.proofs.Common.{◌≡◌, ℕ, List, [], ◌∷◌, ◌++◌, ◌∙◌, sym, append_assoc}
use Rattle.std.specs.Prelude.{decimal}
use Rattle.answer_text.specs.Output.{positions_text, line}

in_turn : (a b c d e f g h : List ℕ) → a ++ (b ++ (c ++ (d ++ (e ++ (f ++ (g ++ h)))))) ≡ a ++ b ++ c ++ d ++ e ++ f ++ g ++ h
in_turn a b c d e f g h =
    sym (append_assoc (a ++ b ++ c ++ d ++ e ++ f) g h
    ∙ append_assoc (a ++ b ++ c ++ d ++ e) f (g ++ h)
    ∙ append_assoc (a ++ b ++ c ++ d) e (f ++ (g ++ h))
    ∙ append_assoc (a ++ b ++ c) d (e ++ (f ++ (g ++ h)))
    ∙ append_assoc (a ++ b) c (d ++ (e ++ (f ++ (g ++ h))))
    ∙ append_assoc a b (c ++ (d ++ (e ++ (f ++ (g ++ h))))))

-- the pieces of a line, put before each other
pub pieces_are_line : (query start end : ℕ) (marks text : List ℕ) →
    text ≡ decimal query ++ 32 ∷ 91 ∷ (decimal start ++ 44 ∷ (decimal end ++ 93 ∷ 32 ∷ 123 ∷ (positions_text marks ++ 125 ∷ 10 ∷ []))) →
    text ≡ line query end (record { start = start; marks = marks })
pieces_are_line query start end marks text is =
    is ∙ in_turn (decimal query) (32 ∷ 91 ∷ []) (decimal start) (44 ∷ decimal end) (93 ∷ 32 ∷ 123 ∷ []) (positions_text marks) (125 ∷ []) (10 ∷ [])
