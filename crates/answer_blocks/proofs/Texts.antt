-- What a text starts with.
use Rattle.std.proofs.Common.{◌≡◌, ℕ, List, ◌++◌, length, drop, sym, ◌∙◌, ap}
use Rattle.std.proofs.lemmas.List.{take-append-drop}
use Rattle.answer_text.specs.Texts.{StartsWith}
use Rattle.answer_text.proofs.PositionsText.{still_starts}

pub starts_after : (first middle last : List ℕ) → StartsWith first middle → StartsWith middle last → StartsWith first last
starts_after first middle last h k =
    let rest = drop (length first) middle in
    let split : middle ≡ first ++ rest = sym (take-append-drop (length first) middle) ∙ ap (λ (l : List ℕ). l ++ rest) h in
    still_starts first middle last rest split k
