-- A walk that stops at the first fault.
use Rattle.std.proofs.Common.{◌≡◌, refl, sym, ap, ◌∙◌, ℕ, zero, suc, ◌+◌, ◌<◌, add-one, List, [], ◌∷◌, ◌++◌, Option, Some, None, length, take, get_or, arith}
use Rattle.std.specs.Prelude.{Err}
use Rattle.std.specs.Option.{option_or}
use Rattle.cer_base.specs.declared.OrMemory.{OrMemory}
use Rattle.cer_base.specs.declared.OrMemory.TheVariants as wanted
use Rattle.ceql_grammar.specs.declared.faults.QueryError.{QueryError}
use Rattle.ceql_parser.specs.FirstFaults.{first_in, FindsFault}

or_none : {X : Type 0} (o : Option X) → option_or o None ≡ o
or_none None = refl
or_none (Some x) = refl

or_or : {X : Type 0} (o p q : Option X) → option_or (option_or o p) q ≡ option_or o (option_or p q)
or_or None p q = refl
or_or (Some x) p q = refl

pub first_append : {X Y : Type 0} (find : X → Option Y) (xs ys : List X) → first_in find (xs ++ ys) ≡ option_or (first_in find xs) (first_in find ys)
first_append find [] ys = refl
first_append find (x ∷ xs) ys = ap (option_or (find x)) (first_append find xs ys) ∙ sym (or_or (find x) (first_in find xs) (first_in find ys))

more_first : {X Y : Type 0} (find : X → Option Y) (xs : List X) (i : ℕ) (d : X) → i < length xs → first_in find (take (suc i) xs) ≡ option_or (first_in find (take i xs)) (find (get_or xs i d))
more_first find [] i d h = absurd (omega (arith, h))
more_first find (x ∷ xs) zero d h = or_none (find x)
more_first find (x ∷ xs) (suc i) d h = ap (option_or (find x)) (more_first find xs i d (omega arith)) ∙ sym (or_or (find x) (first_in find (take i xs)) (find (get_or xs i d)))

-- one item more
pub first_more : {X Y : Type 0} (find : X → Option Y) (xs : List X) (i : ℕ) (d : X) → i < length xs → first_in find (take (i + 1) xs) ≡ option_or (first_in find (take i xs)) (find (get_or xs i d))
first_more find xs i d h = rw add-one (more_first find xs i d h)

-- nothing is found before the item, and something at it
found_at : {X Y : Type 0} (find : X → Option Y) (xs : List X) (i : ℕ) (d : X) (y : Y) → i < length xs → first_in find (take i xs) ≡ None → find (get_or xs i d) ≡ Some y → first_in find xs ≡ Some y
found_at find [] i d y h none here = absurd (omega (arith, h))
found_at find (x ∷ xs) zero d y h none here = ap (λ o. option_or o (first_in find xs)) here
found_at find (x ∷ xs) (suc i) d y h none here = later (find x) (first_in find (take i xs)) (first_in find xs) y none (found_at find xs i d y (omega arith) (after (find x) (first_in find (take i xs)) none) here)
  where
    after : {Y : Type 0} (o p : Option Y) → option_or o p ≡ None → p ≡ None
    after None p e = e
    after (Some y) p e = absurd cc

    later : {Y : Type 0} (o p q : Option Y) (y : Y) → option_or o p ≡ None → q ≡ Some y → option_or o q ≡ Some y
    later None p q y e f = f
    later (Some z) p q y e f = absurd cc

-- nothing is found at the item either
pub kept_at : {X Y : Type 0} (find : X → Option Y) (xs : List X) (i : ℕ) (x : X) → i < length xs → x ≡ get_or xs i x → first_in find (take i xs) ≡ None → find x ≡ None → first_in find (take (i + 1) xs) ≡ None
kept_at find xs i x h at none here = first_more find xs i x h ∙ both (first_in find (take i xs)) (find (get_or xs i x)) none (ap find (sym at) ∙ here)
  where
    both : {Y : Type 0} (o p : Option Y) → o ≡ None → p ≡ None → option_or o p ≡ None
    both None p e f = f
    both (Some y) p e f = absurd cc

-- the fault at an item is that of the list
pub told_at : {X : Type 0} (find : X → Option QueryError) (xs : List X) (i : ℕ) (x : X) (stop : OrMemory QueryError) → i < length xs → x ≡ get_or xs i x → first_in find (take i xs) ≡ None → FindsFault {T = Unit {0}} (Err stop) (find x) → FindsFault {T = Unit {0}} (Err stop) (first_in find xs)
told_at find xs i x (wanted.Fault e) h at none told = found_at find xs i x e h none (ap find (sym at) ∙ told)
told_at find xs i x wanted.Memory h at none told = tt
