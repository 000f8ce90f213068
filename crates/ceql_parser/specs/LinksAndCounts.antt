-- What the walks over a formula compute. Nobody needs to believe these; the contract of check speaks of
-- the definitions alone.
use Rattle.std.specs.Prelude.{ℕ, ◌+◌, ◌*◌, List, [], ◌∷◌, min, Option}
use Rattle.cer_base.specs.declared.limits.TheConstants.{MOST_LEAVES}
use Rattle.stream_schema.specs.Types.{DeclaredType}
use Rattle.cel_terms.specs.declared.Link.{Link, out-Link}
use Rattle.cel_terms.specs.declared.Filter.{Filter}
use Rattle.cel_terms.specs.Checked.{leaf_count, weight}
use Rattle.ceql_grammar.specs.declared.faults.QueryError.{QueryError}
use Rattle.ceql_parser.specs.FormulaFaults.{formula_fault}

abbrev pub link_fault : List DeclaredType → Link → Option QueryError
link_fault types link = formula_fault types (out-Link link).next

-- a count, or one more than the most leaves where it is more
abbrev pub capped : ℕ → ℕ
capped n = min n (MOST_LEAVES + 1)

abbrev pub link_leaves : Link → ℕ
link_leaves link = leaf_count (out-Link link).next

-- what the items count together
abbrev pub sum_of : {X : Type 0} → (X → ℕ) → List X → ℕ
sum_of count [] = 0
sum_of count (x ∷ xs) = count x + sum_of count xs

-- how many copies filters make together
abbrev pub product_of : List Filter → ℕ
product_of [] = 1
product_of (f ∷ fs) = weight f * product_of fs
