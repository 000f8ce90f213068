-- What is written of why a complex event is an answer: a line for each name with its positions.
use Rattle.std.specs.Prelude.{ℕ, List, [], ◌∷◌, ◌++◌, codes}
use Rattle.cer_base.specs.declared.bytes.TheConstants.{LINE_FEED}
use Rattle.answer_text.specs.Output.{positions_text}

-- A {1,2}
abbrev pub binding_line : List ℕ → List ℕ → List ℕ
binding_line name positions = name ++ codes " {" ++ positions_text positions ++ codes "}" ++ LINE_FEED ∷ []

-- there is nothing to explain
abbrev pub none_line : List ℕ
none_line = codes "none" ++ LINE_FEED ∷ []
