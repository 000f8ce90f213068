-- What a set of names has. Only private clauses cite these.
use Rattle.std.specs.Prelude.{◌≡◌, ℕ, List}
use Rattle.cel_terms.specs.Meaning.{lists_name}
use Rattle.cel_terms.specs.declared.Link.{Link, out-Link}
use Rattle.cel_terms.specs.Checked.{names_of}

-- a name is among the ones exactly where it is among the others, as often and in whatever order
pub record HaveSameNames (names others : List (List ℕ)) : Type 0 where
  pub at : (name : List ℕ) → lists_name names name ≡ lists_name others name

-- the names of the formula after a `;` or a `:`
abbrev pub names_of_link : Link → List (List ℕ)
names_of_link link = names_of (out-Link link).next
