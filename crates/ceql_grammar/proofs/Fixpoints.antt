-- Readers that call themselves are exact, and are what their step makes of them.
use Rattle.std.proofs.Common.{◌≡◌, sym, subst, ℕ, zero, suc, ◌<◌, ◌≤◌, true, false, List, [], ◌∷◌, ◌++◌, length, arith}
use Rattle.std.specs.Prelude.{Ok, Err}
use Rattle.ceql_lexer.specs.declared.Token.{Token}
use Rattle.ceql_grammar.specs.RuleForms.{Rule, Out, TokenReader, Test, Stops, Bind, bound, NoTokens, no_tokens, Mapped, mapped, Either, left, right, bind, map_read, starts, Many, none, more, iterate, fixpoint, many_step, many}
use Rattle.ceql_grammar.proofs.RuleReaders.{Goes, ReadTo, Outcome, Reads, Shuns, Begins, agree, reads_behind, reads_mapped, reads_maybe, starts_more, stops_ends}

-- ONE RULE FOR ANOTHER OF THE SAME DERIVATIONS

abbrev at_rule : {X : Type 0} (R S : Rule X) (c : Goes X) → ((xs : List Token) (x : X) → R xs x → S xs x) → (ts : List Token) (x : X) (ys : List Token) → ReadTo R c ts x ys → ReadTo S c ts x ys
at_rule R S c to ts x ys h = record { part = h.part; split = h.split; derived = to h.part x h.derived; stops = h.stops }

other_out : {X : Type 0} (R S : Rule X) (c : Goes X) → ((xs : List Token) (x : X) → R xs x → S xs x) → ((xs : List Token) (x : X) → S xs x → R xs x) → (ts : List Token) (o : Out X) → Outcome R c ts o → Outcome S c ts o
other_out R S c to from ts (Ok p) h = record { here = at_rule R S c to ts p.0 p.1 h.here; only = λ us a x us' r. h.only us a x us' (at_rule S R c from _ x us' r) }
other_out R S c to from ts (Err ys) h = record {
  part = h.part;
  split = h.split;
  more = h.more;
  value = h.value;
  viable = to _ h.value h.viable;
  stuck = λ us a. record { none = λ x ys' r. (h.stuck us a).none x ys' (at_rule S R c from _ x ys' r) };
}

pub reads_other : {X : Type 0} (a : Test) (R S : Rule X) (c : Goes X) (n : ℕ) (r : TokenReader X) → ((xs : List Token) (x : X) → R xs x → S xs x) → ((xs : List Token) (x : X) → S xs x → R xs x) → Reads a n R c r → Reads a n S c r
reads_other a R S c n r to from h = record { reads = λ ts l s. other_out R S c to from ts (r ts) (h.reads ts l s) }

pub reads_same : {X : Type 0} (a : Test) (R : Rule X) (c : Goes X) (n : ℕ) (r r' : TokenReader X) → ((ts : List Token) → r ts ≡ r' ts) → Reads a n R c r → Reads a n R c r'
reads_same a R c n r r' e h = record { reads = λ ts l s. subst (Outcome R c ts) (e ts) (h.reads ts l s) }

pub reads_fewer : {X : Type 0} (a : Test) (R : Rule X) (c : Goes X) (m n : ℕ) (r : TokenReader X) → m ≤ n → Reads a n R c r → Reads a m R c r
reads_fewer a R c m n r e h = record { reads = λ ts l s. h.reads ts (omega arith) s }

-- what is exact before every token is exact before some
pub reads_under : {X : Type 0} (a : Test) (R : Rule X) (c : Goes X) (n : ℕ) (r : TokenReader X) → Reads (λ t. false) n R c r → Reads a n R c r
reads_under a R c n r h = record { reads = λ ts l s. h.reads ts l (stops_ends {X = ℕ} 0 ts) }

-- KNOTS

module _ {X : Type 0} (a : Test) (R : Rule X) (c : Goes X) (body : TokenReader X → TokenReader X) (n : ℕ) (step : (k : ℕ) (r : TokenReader X) → k < n → Reads a k R c r → Reads a (suc k) R c (body r)) where
  pub iterate_reads : (k : ℕ) → k ≤ n → Reads a k R c (iterate body k)
  iterate_reads zero e = record { reads = λ ts l s. absurd (omega arith) }
  iterate_reads (suc k) e = step k (iterate body k) (omega arith) (iterate_reads k (omega arith))

  pub fixpoint_reads : Reads a n R c (fixpoint body)
  unfolding fixpoint
  fixpoint_reads = record { reads = λ ts l s. (iterate_reads (suc (length ts)) (omega arith)).reads ts (omega arith) s }

-- a knot that is exact on all lists is what its step makes of it
pub fixpoint_is : {X : Type 0} (a : Test) (R : Rule X) (c : Goes X) (body : TokenReader X → TokenReader X) → ((k : ℕ) (r : TokenReader X) → Reads a k R c r → Reads a (suc k) R c (body r)) → (ts : List Token) → Stops a ts → fixpoint body ts ≡ body (fixpoint body) ts
fixpoint_is a R c body step ts s =
    let n = suc (length ts) in
    let all : (m : ℕ) → Reads a m R c (fixpoint body) = λ m. fixpoint_reads a R c body m (λ k r _ h. step k r h) in
    agree a R c n n (fixpoint body) (body (fixpoint body)) (all n) (step (length ts) (fixpoint body) (all (length ts))) ts (omega arith) (omega arith) s

-- WHAT RULES BEGIN WITH

begins_bind_at : {X Y : Type 0} (R : Rule X) (S : X → Rule Y) (p : Test) → Begins R p → (xs : List Token) (y : Y) → Bind R S xs y → starts p xs ≡ true
begins_bind_at R S p b _ _ (bound {xs} {ys} {x} {y} r s) = starts_more p xs ys (b.begins xs x r)

pub begins_bind : {X Y : Type 0} (R : Rule X) (S : X → Rule Y) (p : Test) → Begins R p → Begins (Bind R S) p
begins_bind R S p b = record { begins = begins_bind_at R S p b }

begins_mapped_at : {X Y : Type 0} (f : X → Y) (R : Rule X) (p : Test) → Begins R p → (xs : List Token) (y : Y) → Mapped f R xs y → starts p xs ≡ true
begins_mapped_at f R p b _ _ (mapped {xs} {x} r) = b.begins xs x r

pub begins_mapped : {X Y : Type 0} (f : X → Y) (R : Rule X) (p : Test) → Begins R p → Begins (Mapped f R) p
begins_mapped f R p b = record { begins = begins_mapped_at f R p b }

starts_as : (p q : Test) → ((t : Token) → p t ≡ true → q t ≡ true) → (ts : List Token) → starts p ts ≡ true → starts q ts ≡ true
starts_as p q to [] e = cc
starts_as p q to (t ∷ ts) e = to t e

pub begins_as : {X : Type 0} (R : Rule X) (p q : Test) → ((t : Token) → p t ≡ true → q t ≡ true) → Begins R p → Begins R q
begins_as R p q to b = record { begins = λ xs x r. starts_as p q to xs (b.begins xs x r) }

apart_at : (p c : Test) → ((t : Token) → p t ≡ true → c t ≡ false) → (xs zs : List Token) → starts p xs ≡ true → Stops c (xs ++ zs)
apart_at p c apart [] zs e = cc
apart_at p c apart (t ∷ xs) zs e = apart t e

-- a rule that begins with tokens of one test shuns those of another
pub shuns_apart : {X : Type 0} (R : Rule X) (d : Goes X) (p c : Test) → ((t : Token) → p t ≡ true → c t ≡ false) → Begins R p → Shuns R d c
shuns_apart R d p c apart b = record { shuns = λ xs zs x r s. apart_at p c apart xs zs (b.begins xs x r) }

shuns_mapped_at : {X Y : Type 0} (f : X → Y) (R : Rule X) (d : Goes Y) (c : Test) → Shuns R (λ x. d (f x)) c → (xs zs : List Token) (y : Y) → Mapped f R xs y → Stops (d y) zs → Stops c (xs ++ zs)
shuns_mapped_at f R d c h _ zs _ (mapped {xs} {x} r) s = h.shuns xs zs x r s

pub shuns_mapped : {X Y : Type 0} (f : X → Y) (R : Rule X) (d : Goes Y) (c : Test) → Shuns R (λ x. d (f x)) c → Shuns (Mapped f R) d c
shuns_mapped f R d c h = record { shuns = shuns_mapped_at f R d c h }

-- A RULE ANY NUMBER OF TIMES

abbrev step_rule : {X : Type 0} → Rule X → Rule (List X)
step_rule R = Either (Bind R (λ x. Mapped (λ l. x ∷ l) (Many R))) (NoTokens [])

to_step : {X : Type 0} (R : Rule X) (xs : List Token) (l : List X) → Many R xs l → step_rule R xs l
to_step R _ _ none = right no_tokens
to_step R _ _ (more r m) = left (bound r (mapped m))

from_left : {X : Type 0} (R : Rule X) (x : X) (xs ys : List Token) (l : List X) → R xs x → Mapped (λ l. x ∷ l) (Many R) ys l → Many R (xs ++ ys) l
from_left R x xs _ _ r (mapped m) = more r m

from_bind : {X : Type 0} (R : Rule X) (xs : List Token) (l : List X) → Bind R (λ x. Mapped (λ l. x ∷ l) (Many R)) xs l → Many R xs l
from_bind R _ _ (bound {xs} {ys} {x} {y = l} r m) = from_left R x xs ys l r m

from_nothing : {X : Type 0} (R : Rule X) (xs : List Token) (l : List X) → NoTokens [] xs l → Many R xs l
from_nothing R _ _ no_tokens = none

from_step : {X : Type 0} (R : Rule X) (xs : List Token) (l : List X) → step_rule R xs l → Many R xs l
from_step R _ _ (left {xs} {x = l} h) = from_bind R xs l h
from_step R _ _ (right {xs} {x = l} h) = from_nothing R xs l h

pub shuns_goes : {X : Type 0} (R : Rule X) (D : Goes X) (d e : Test) → ((x : X) (ts : List Token) → Stops (D x) ts → Stops d ts) → Shuns R (λ x. d) e → Shuns R D e
shuns_goes R D d e to h = record { shuns = λ xs zs x r s. h.shuns xs zs x r (to x zs s) }

abbrev goes_to : {X : Type 0} (R : Rule X) (c d : Goes X) → ((xs : List Token) (x : X) → R xs x → c x ≡ d x) → (ts : List Token) (x : X) (ys : List Token) → ReadTo R c ts x ys → ReadTo R d ts x ys
goes_to R c d e ts x ys h = record { part = h.part; split = h.split; derived = h.derived; stops = subst (λ g. Stops g ys) (e h.part x h.derived) h.stops }

goes_out : {X : Type 0} (R : Rule X) (c d : Goes X) → ((xs : List Token) (x : X) → R xs x → c x ≡ d x) → (ts : List Token) (o : Out X) → Outcome R c ts o → Outcome R d ts o
goes_out R c d e ts (Ok p) h = record { here = goes_to R c d e ts p.0 p.1 h.here; only = λ us a x us' r. h.only us a x us' (goes_to R d c (λ xs x g. sym (e xs x g)) _ x us' r) }
goes_out R c d e ts (Err ys) h = record { part = h.part; split = h.split; more = h.more; value = h.value; viable = h.viable; stuck = λ us a. record { none = λ x ys' r. (h.stuck us a).none x ys' (goes_to R d c (λ xs x g. sym (e xs x g)) _ x ys' r) } }

-- the tokens that go on with a value matter for derived values alone
pub reads_goes : {X : Type 0} (a : Test) (R : Rule X) (c d : Goes X) (n : ℕ) (r : TokenReader X) → ((xs : List Token) (x : X) → R xs x → c x ≡ d x) → Reads a n R c r → Reads a n R d r
reads_goes a R c d n r e h = record { reads = λ ts l s. goes_out R c d e ts (r ts) (h.reads ts l s) }

-- What a loop needs: the test that goes on with it, the tokens with which its rule begins, those that
-- go on with one of its values, and those that may not follow the whole.
pub record Loops {X : Type 0} (a : Test) (R : Rule X) (c : Goes X) (p q d : Test) : Type 0 where
  pub begins : Begins R q
  pub tested : (t : Token) → q t ≡ true → p t ≡ true
  pub apart : (x : X) (t : Token) → q t ≡ true → c x t ≡ false
  pub stops_item : (x : X) (ts : List Token) → Stops d ts → Stops (c x) ts
  pub stops_test : (ts : List Token) → Stops d ts → Stops p ts
  pub stops_both : (ts : List Token) → Stops p ts → Stops a ts → Stops d ts
  pub stops_before : (x : X) (ts : List Token) → Stops (c x) ts → Stops a ts

shuns_many_at : {X : Type 0} (R : Rule X) (q d e : Test) → Begins R q → ((t : Token) → q t ≡ true → e t ≡ false) → ((ts : List Token) → Stops d ts → Stops e ts) → (xs zs : List Token) (l : List X) → Many R xs l → Stops d zs → Stops e (xs ++ zs)
shuns_many_at R q d e b apart to _ zs _ none s = to zs s
shuns_many_at R q d e b apart to _ zs _ (more {xs} {ys} {x} r m) s = apart_at q e apart (xs ++ ys) zs (starts_more q xs ys (b.begins xs x r))

pub shuns_many : {X : Type 0} (R : Rule X) (q d e : Test) → Begins R q → ((t : Token) → q t ≡ true → e t ≡ false) → ((ts : List Token) → Stops d ts → Stops e ts) → Shuns (Many R) (λ l. d) e
shuns_many R q d e b apart to = record { shuns = shuns_many_at R q d e b apart to }

shuns_first_at : {X : Type 0} (R : Rule X) (q e : Test) (D : Goes (List X)) → Begins R q → ((t : Token) → q t ≡ true → e t ≡ false) → ((ts : List Token) → Stops (D []) ts → Stops e ts) → (xs zs : List Token) (l : List X) → Many R xs l → Stops (D l) zs → Stops e (xs ++ zs)
shuns_first_at R q e D b apart to _ zs _ none s = to zs s
shuns_first_at R q e D b apart to _ zs _ (more {xs} {ys} {x} r m) s = apart_at q e apart (xs ++ ys) zs (starts_more q xs ys (b.begins xs x r))

pub shuns_many_first : {X : Type 0} (R : Rule X) (q e : Test) (D : Goes (List X)) → Begins R q → ((t : Token) → q t ≡ true → e t ≡ false) → ((ts : List Token) → Stops (D []) ts → Stops e ts) → Shuns (Many R) D e
shuns_many_first R q e D b apart to = record { shuns = shuns_first_at R q e D b apart to }

-- one step of a loop
loop_step : {X : Type 0} (a b : Test) (R : Rule X) (c : Goes X) (p q d : Test) (D : Goes (List X)) (k : ℕ) (r : TokenReader X) (rest : TokenReader (List X)) → Loops b R c p q d → ((x : X) (l : List X) (ts : List Token) → Stops (D (x ∷ l)) ts → Stops d ts) → ((x : X) (l : List X) (ts : List Token) → Stops d ts → Stops (D (x ∷ l)) ts)
    → ((ts : List Token) → Stops p ts → Stops a ts → Stops (D []) ts) → ((ts : List Token) → Stops (D []) ts → Stops p ts) → Reads a (suc k) R c r → ((x : X) → Reads b k (Many R) (λ l. D (x ∷ l)) rest) → Reads a (suc k) (Many R) D (many_step p r rest)
loop_step a b R c p q d D k r rest loop to from empty test item h = reads_other a (step_rule R) (Many R) D (suc k) (many_step p r rest) (from_step R) (to_step R)
    (reads_maybe a (Bind R (λ x. Mapped (λ l. x ∷ l) (Many R))) [] D p (suc k) (bind r (λ x. map_read (λ l. x ∷ l) rest))
    (begins_bind R _ p (begins_as R q p loop.tested loop.begins)) empty test
    (reads_behind a R (λ x. Mapped (λ l. x ∷ l) (Many R)) c D q k r (λ x. map_read (λ l. x ∷ l) rest) loop.begins
    (λ x. shuns_mapped (λ l. x ∷ l) (Many R) D (c x) (shuns_goes (Many R) (λ l. D (x ∷ l)) d (c x) (to x) (shuns_many R q d (c x) loop.begins (loop.apart x) (loop.stops_item x))))
    (λ x. record { tokens = []; value = x ∷ []; derived = mapped none })
    item
    (λ x. reads_mapped (c x) (λ l. x ∷ l) (Many R) D k rest (record { reads = λ ts l s. (h x).reads ts l (loop.stops_before x ts s) }))))

module _ {X : Type 0} (a : Test) (R : Rule X) (c : Goes X) (p q d : Test) (loop : Loops a R c p q d) (r : TokenReader X) (n : ℕ) (reads : Reads a n R c r) where
  pub many_steps : (k : ℕ) (rest : TokenReader (List X)) → k < n → Reads a k (Many R) (λ l. d) rest → Reads a (suc k) (Many R) (λ l. d) (many_step p r rest)
  many_steps k rest e h = loop_step a a R c p q d (λ l. d) k r rest loop (λ x l ts s. s) (λ x l ts s. s) loop.stops_both loop.stops_test (reads_fewer a R c (suc k) n r (omega arith) reads) (λ x. h)

  pub reads_many : Reads a n (Many R) (λ l. d) (many p r)
  reads_many = fixpoint_reads a (Many R) (λ l. d) (many_step p r) n many_steps

-- a loop that may not begin before some tokens before which it may go on
pub reads_many_first : {X : Type 0} (a b : Test) (R : Rule X) (c : Goes X) (p q d : Test) (D : Goes (List X)) (n : ℕ) (r : TokenReader X) → Loops b R c p q d → ((x : X) (l : List X) → D (x ∷ l) ≡ d) → ((ts : List Token) → Stops p ts → Stops a ts → Stops (D []) ts) → ((ts : List Token) → Stops (D []) ts → Stops p ts)
    → Reads a n R c r → Reads b n R c r → Reads a n (Many R) D (many p r)
unfolding fixpoint
reads_many_first a b R c p q d D n r loop is empty test item again = record {
  reads = λ ts l s.
      (loop_step a b R c p q d D (length ts) r (iterate (many_step p r) (length ts)) loop (λ x l us t. subst (λ e. Stops e us) (is x l) t) (λ x l us t. subst (λ e. Stops e us) (sym (is x l)) t) empty test
      (reads_fewer a R c (suc (length ts)) n r (omega arith) item)
      (λ x. reads_goes b (Many R) (λ l. d) (λ l. D (x ∷ l)) (length ts) (iterate (many_step p r) (length ts)) (λ xs l g. sym (is x l)) (iterate_reads b (Many R) (λ l. d) (many_step p r) n (many_steps b R c p q d loop r n again) (length ts) (omega arith)))).reads ts (omega arith) s;
}
