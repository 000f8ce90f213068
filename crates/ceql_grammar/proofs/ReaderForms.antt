-- Readers after a word or a sign, between two, and again and again, are exact.
use Rattle.std.proofs.Common.{◌≡◌, refl, sym, ℕ, suc, Bool, true, false, List, [], ◌∷◌, ◌++◌, arith}
use Rattle.std.specs.Prelude.{Ok, Err, Some, None, if◌then◌else◌}
use Rattle.ceql_lexer.specs.declared.Token.{Token}
use Rattle.ceql_grammar.specs.WordsAndSigns.{among, is}
use Rattle.ceql_grammar.specs.RuleForms.{Rule, TokenReader, ◌>>=◌, Test, Stops, Bind, NoTokens, Mapped, One, one, Either, bind, give, map_read, one_token, starts, choose, Many, when, branch}
use Rattle.ceql_grammar.specs.RuleReaders.{no_value, mark_token, led, closed, many_after}
use Rattle.ceql_grammar.proofs.RuleReaders.{Goes, Reads, Filled, Shuns, Begins, reads_bind, reads_behind, reads_mapped, reads_one, reads_either, reads_maybe, begins_one, shuns_ends}
use Rattle.ceql_grammar.proofs.Fixpoints.{reads_same, reads_goes, reads_fewer, begins_bind, begins_as, shuns_apart, shuns_mapped, Loops, shuns_many, reads_many}
use Rattle.ceql_grammar.proofs.ExclusiveTests.{disjoint, covered, apart, within, stops_both, stops_some}

-- no test
abbrev pub none : Test
none = among []

abbrev pub word_rule : List ℕ → Rule (Unit {0})
word_rule mark = One (is mark) no_value

-- a rule after a word or a sign
abbrev pub led_rule : {X : Type 0} → List ℕ → Rule X → Rule X
led_rule mark R = Bind (word_rule mark) (λ _. R)

-- a rule, and a word or a sign after it
abbrev pub closed_rule : {X : Type 0} → List ℕ → Rule X → Rule X
closed_rule mark R = Bind R (λ x. Mapped (λ _. x) (word_rule mark))

pub reads_word : (a : Test) (mark : List ℕ) (n : ℕ) (s : Token) → is mark s ≡ true → Reads a n (word_rule mark) (λ _. none) (mark_token mark)
reads_word a mark n s e = reads_one a (is mark) no_value n s e

-- after a token, what is exact on fewer tokens
pub reads_led : {X Y : Type 0} (a : Test) (p : Test) (f : Token → X) (S : X → Rule Y) (d : Goes Y) (n : ℕ) (g : X → TokenReader Y) (s : Token) → p s ≡ true → ((x : X) → Filled (S x)) → ((x : X) → Reads none n (S x) d (g x)) → Reads a (suc n) (Bind (One p f) S) d (bind (one_token p f) g)
reads_led a p f S d n g s e filled second = reads_behind a (One p f) S (λ _. none) d p n (one_token p f) g (begins_one p f) (λ x. shuns_ends (S x) d) filled (reads_one a p f (suc n) s e) second

branch_at : {X Y : Type 0} (p : Test) (f : Token → X) (g : X → TokenReader Y) (s : TokenReader Y) (t : Token) (ts : List Token) (b : Bool) → (when (if b then Some (f t, ts) else None) g (s (t ∷ ts))) ≡ (if b then ((if b then Ok (f t, ts) else Err (t ∷ ts)) >>= λ q. g q.0 q.1) else s (t ∷ ts))
branch_at p f g s t ts true = refl
branch_at p f g s t ts false = refl

pub branch_is : {X Y : Type 0} (p : Test) (f : Token → X) (g : X → TokenReader Y) (s : TokenReader Y) (ts : List Token) → choose p (bind (one_token p f) g) s ts ≡ branch p f g s ts
branch_is p f g s [] = refl
branch_is p f g s (t ∷ ts) = sym (branch_at p f g s t ts (p t))

-- after a token, else another reader
pub reads_branch : {X Y : Type 0} (a : Test) (p : Test) (f : Token → X) (S : X → Rule Y) (T : Rule Y) (d : Goes Y) (n : ℕ) (g : X → TokenReader Y) (r : TokenReader Y) (s : Token) → p s ≡ true → Shuns T d p → ((x : X) → Filled (S x)) → ((x : X) → Reads none n (S x) d (g x)) → Reads a (suc n) T d r → Reads a (suc n) (Either (Bind (One p f) S) T) d (branch p f g r)
reads_branch a p f S T d n g r s e shuns filled second other = reads_same a _ d (suc n) (choose p (bind (one_token p f) g) r) (branch p f g r) (branch_is p f g r)
    (reads_either a (Bind (One p f) S) T d p (suc n) (bind (one_token p f) g) r (begins_bind (One p f) S p (begins_one p f)) shuns (reads_led a p f S d n g s e filled second) other)

-- a reader and then a word or a sign
pub reads_closed : {X : Type 0} (a : Test) (mark : List ℕ) (R : Rule X) (c : Goes X) (n : ℕ) (r : TokenReader X) (s : Token) → is mark s ≡ true → ((x : X) (t : Token) → is mark t ≡ true → c x t ≡ false) → Reads a n R c r → Reads a n (closed_rule mark R) (λ _. none) (closed mark r)
reads_closed a mark R c n r s e out h = reads_bind a R (λ x. Mapped (λ _. x) (word_rule mark)) c (λ _. none) n r (λ x. map_read (λ _. x) (mark_token mark))
    (λ x. shuns_mapped (λ _. x) (word_rule mark) (λ _. none) (c x) (shuns_apart (word_rule mark) (λ _. none) (is mark) (c x) (out x) (begins_one (is mark) no_value)))
    (λ x. record { tokens = s ∷ []; value = x; derived = Mapped.mapped (one e) })
    h
    (λ x. reads_mapped (c x) (λ _. x) (word_rule mark) (λ _. none) n (mark_token mark) (reads_word (c x) mark n s e))

-- a rule again and again, each time after one of some words or signs
abbrev pub repeated_rule : {X : Type 0} → List ℕ → Rule X → Rule (List X)
repeated_rule mark R = Many (led_rule mark R)

pub loops : {X : Type 0} (mark : List ℕ) (marks : List (List ℕ)) (R : Rule X) → disjoint (mark ∷ []) marks ≡ true → covered marks (mark ∷ marks) [] ≡ true → covered (mark ∷ []) (mark ∷ marks) [] ≡ true → covered (mark ∷ marks) (mark ∷ []) marks ≡ true → Loops (among marks) (led_rule mark R) (λ _. among marks) (is mark) (is mark) (among (mark ∷ marks))
loops mark marks R d e f g = record {
  begins = begins_bind (word_rule mark) (λ _. R) (is mark) (begins_one (is mark) no_value);
  tested = λ t h. h;
  apart = λ x. apart (mark ∷ []) marks d;
  stops_item = λ x. stops_some marks (mark ∷ marks) e;
  stops_test = stops_some (mark ∷ []) (mark ∷ marks) f;
  stops_both = stops_both (mark ∷ marks) (mark ∷ []) marks g;
  stops_before = λ x ts s. s;
}

-- the same reader, exact before fewer tokens
pub reads_repeated : {X : Type 0} (mark : List ℕ) (marks : List (List ℕ)) (R : Rule X) (n : ℕ) (r : TokenReader X) (s : Token) → is mark s ≡ true → disjoint (mark ∷ []) marks ≡ true → covered marks (mark ∷ marks) [] ≡ true → covered (mark ∷ []) (mark ∷ marks) [] ≡ true → covered (mark ∷ marks) (mark ∷ []) marks ≡ true → Filled R → Reads none n R (λ _. among marks) r → Reads (among marks) n (repeated_rule mark R) (λ _. among (mark ∷ marks)) (many_after mark r)
reads_repeated mark marks R n r s e d f g h filled reads = reads_many (among marks) (led_rule mark R) (λ _. among marks) (is mark) (is mark) (among (mark ∷ marks)) (loops mark marks R d f g h) (led mark r) n
    (reads_fewer (among marks) (led_rule mark R) (λ _. among marks) n (suc n) (led mark r) (omega arith) (reads_led (among marks) (is mark) no_value (λ _. R) (λ _. among marks) n (λ _. r) s e (λ _. filled) (λ _. reads)))

pub shuns_repeated : {X : Type 0} (mark : List ℕ) (marks : List (List ℕ)) (R : Rule X) → disjoint (mark ∷ []) marks ≡ true → covered marks (mark ∷ marks) [] ≡ true → Shuns (repeated_rule mark R) (λ l. among (mark ∷ marks)) (among marks)
shuns_repeated mark marks R d g = shuns_many (led_rule mark R) (is mark) (among (mark ∷ marks)) (among marks) (begins_bind (word_rule mark) (λ _. R) (is mark) (begins_one (is mark) no_value)) (apart (mark ∷ []) marks d) (stops_some marks (mark ∷ marks) g)

-- a rule and then the same after words or signs
abbrev pub list_rule : {X Y : Type 0} → List ℕ → (X → List X → Y) → Rule X → Rule Y
list_rule mark f R = Bind R (λ x. Mapped (f x) (repeated_rule mark R))

pub reads_list : {X Y : Type 0} (a : Test) (mark : List ℕ) (marks : List (List ℕ)) (f : X → List X → Y) (R : Rule X) (n : ℕ) (r : TokenReader X) (s : Token) → is mark s ≡ true → disjoint (mark ∷ []) marks ≡ true → covered marks (mark ∷ marks) [] ≡ true → covered (mark ∷ []) (mark ∷ marks) [] ≡ true → covered (mark ∷ marks) (mark ∷ []) marks ≡ true → Filled R → Reads a n R (λ _. among marks) r → Reads none n R (λ _. among marks) r → Reads a n (list_rule mark f R) (λ _. among (mark ∷ marks)) (bind r (λ x. map_read (f x) (many_after mark r)))
reads_list a mark marks f R n r s e d g h k filled reads again = reads_bind a R (λ x. Mapped (f x) (repeated_rule mark R)) (λ _. among marks) (λ _. among (mark ∷ marks)) n r (λ x. map_read (f x) (many_after mark r))
    (λ x. shuns_mapped (f x) (repeated_rule mark R) (λ _. among (mark ∷ marks)) (among marks) (shuns_repeated mark marks R d g))
    (λ x. record { tokens = []; value = f x []; derived = Mapped.mapped Many.none })
    reads
    (λ x. reads_mapped (among marks) (f x) (repeated_rule mark R) (λ _. among (mark ∷ marks)) n (many_after mark r) (reads_repeated mark marks R n r s e d g h k filled again))

shuns_either_at : {X : Type 0} (R S : Rule X) (d : Goes X) (c : Test) → Shuns R d c → Shuns S d c → (xs zs : List Token) (x : X) → Either R S xs x → Stops (d x) zs → Stops c (xs ++ zs)
shuns_either_at R S d c h k _ zs _ (Either.left {xs} {x} r) s = h.shuns xs zs x r s
shuns_either_at R S d c h k _ zs _ (Either.right {xs} {x} r) s = k.shuns xs zs x r s

pub shuns_either : {X : Type 0} (R S : Rule X) (d : Goes X) (c : Test) → Shuns R d c → Shuns S d c → Shuns (Either R S) d c
shuns_either R S d c h k = record { shuns = shuns_either_at R S d c h k }

pub shuns_other : {X : Type 0} (R S : Rule X) (d : Goes X) (c : Test) → ((xs : List Token) (x : X) → S xs x → R xs x) → Shuns R d c → Shuns S d c
shuns_other R S d c from h = record { shuns = λ xs zs x r s. h.shuns xs zs x (from xs x r) s }

-- what is led by a word or a sign shuns others
pub shuns_led : {X : Type 0} (mark : List ℕ) (marks : List (List ℕ)) (R : Rule X) (d : Goes X) → disjoint (mark ∷ []) marks ≡ true → Shuns (led_rule mark R) d (among marks)
shuns_led mark marks R d e = shuns_apart (led_rule mark R) d (is mark) (among marks) (apart (mark ∷ []) marks e) (begins_bind (word_rule mark) (λ _. R) (is mark) (begins_one (is mark) no_value))

begins_either_at : {X : Type 0} (R S : Rule X) (p : Test) → Begins R p → Begins S p → (xs : List Token) (x : X) → Either R S xs x → starts p xs ≡ true
begins_either_at R S p h k _ _ (Either.left {xs} {x} r) = h.begins xs x r
begins_either_at R S p h k _ _ (Either.right {xs} {x} r) = k.begins xs x r

pub begins_either : {X : Type 0} (R S : Rule X) (p : Test) → Begins R p → Begins S p → Begins (Either R S) p
begins_either R S p h k = record { begins = begins_either_at R S p h k }

pub begins_other : {X : Type 0} (R S : Rule X) (p : Test) → ((xs : List Token) (x : X) → S xs x → R xs x) → Begins R p → Begins S p
begins_other R S p from h = record { begins = λ xs x r. h.begins xs x (from xs x r) }

-- what is led by a word or a sign begins with one of some
pub begins_led : {X : Type 0} (mark : List ℕ) (marks : List (List ℕ)) (R : Rule X) → covered (mark ∷ []) marks [] ≡ true → Begins (led_rule mark R) (among marks)
begins_led mark marks R e = begins_as (led_rule mark R) (is mark) (among marks) (within (mark ∷ []) marks e) (begins_bind (word_rule mark) (λ _. R) (is mark) (begins_one (is mark) no_value))

-- a rule that begins with a token, or nothing
pub reads_optional : {X Y : Type 0} (a : Test) (p : Test) (f : Token → X) (S : X → Rule Y) (c : Goes Y) (v : Y) (C : Goes Y) (n : ℕ) (g : X → TokenReader Y) (s : Token) → p s ≡ true → ((xs : List Token) (y : Y) → Bind (One p f) S xs y → c y ≡ C y) → ((ts : List Token) → Stops p ts → Stops a ts → Stops (C v) ts) → ((ts : List Token) → Stops (C v) ts → Stops p ts) → ((x : X) → Filled (S x)) → ((x : X) → Reads none n (S x) c (g x)) → Reads a (suc n) (Either (Bind (One p f) S) (NoTokens v)) C (branch p f g (give v))
reads_optional a p f S c v C n g s e same to from filled second = reads_same a _ C (suc n) (choose p (bind (one_token p f) g) (give v)) (branch p f g (give v)) (branch_is p f g (give v))
    (reads_maybe a (Bind (One p f) S) v C p (suc n) (bind (one_token p f) g) (begins_bind (One p f) S p (begins_one p f)) to from
    (reads_goes a (Bind (One p f) S) c C (suc n) (bind (one_token p f) g) same (reads_led a p f S c n g s e filled second)))
