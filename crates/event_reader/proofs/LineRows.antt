-- The lines of small files, worked out by hand.
use Rattle.std.proofs.Common.{◌≡◌, [], ◌∷◌, ◌++◌, Some, None, refl}
use Rattle.std.specs.Prelude.{codes}
use Rattle.event_reader.specs.declared.LineFault.TheVariants.{InputTooLong}
use Rattle.event_reader.specs.Lines.{file_lines}

-- the last line may lack its line feed, and a byte order mark is dropped from the first line alone
last_without_end : file_lines 9 (codes "A,1\nA,2") ≡ record { texts = codes "A,1" ∷ codes "A,2" ∷ []; fault = None }
last_without_end = refl

marks : file_lines 20 (239 ∷ 187 ∷ 191 ∷ codes "A\n" ++ 239 ∷ 187 ∷ 191 ∷ []) ≡ record { texts = codes "A" ∷ (239 ∷ 187 ∷ 191 ∷ []) ∷ []; fault = None }
marks = refl

-- a file of exactly as many bytes as count is too long
exact_budget : file_lines 4 (codes "A,1\n") ≡ record { texts = codes "A,1" ∷ []; fault = Some (InputTooLong 4) }
exact_budget = refl

one_less : file_lines 5 (codes "A,1\n") ≡ record { texts = codes "A,1" ∷ []; fault = None }
one_less = refl

-- a line that the budget cuts is none
cut_line : file_lines 5 (codes "A,1\nA,2\n") ≡ record { texts = codes "A,1" ∷ []; fault = Some (InputTooLong 5) }
cut_line = refl

empty_lines : file_lines 5 (codes "\n\n") ≡ record { texts = [] ∷ [] ∷ []; fault = None }
empty_lines = refl
