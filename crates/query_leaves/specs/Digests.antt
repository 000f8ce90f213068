-- A number for a text, which few texts share.
use Rattle.std.specs.Prelude.{ℕ, ◌+◌, ◌*◌, ◌%◌, List}
use Rattle.std.specs.List.{fold}
use Rattle.query_leaves.specs.declared.digest.TheConstants.{SPREAD}

-- each byte is added, and the sum multiplied, below 2 to the power of 32
abbrev pub digest : List ℕ → ℕ
digest text = fold (λ sum byte. (((sum + byte) % 4294967296) * SPREAD) % 4294967296) 0 text
