-- Forms of which the rules of a grammar are made, and how each is read with one token of look-ahead.
-- A rule says which lists of tokens stand for which values; a reader gives the value at the front of
-- a list and what stands after it, or the list from the first token on that does not fit.
use Rattle.std.specs.Prelude.{◌≡◌, ℕ, zero, suc, Bool, true, false, List, [], ◌∷◌, ◌++◌, length, if◌then◌else◌, Option, Some, None, Result, Ok, Err}
use Rattle.ceql_lexer.specs.declared.Token.{Token}

abbrev pub Rule : Type 0 → Type 1
Rule X = List Token → X → Type 0

abbrev pub Out : Type 0 → Type 0
Out X = Result (X × List Token) (List Token)

abbrev pub TokenReader : Type 0 → Type 0
TokenReader X = List Token → Out X

abbrev pub Test : Type 0
Test = Token → Bool

-- goes on where something was read
infixl 10 ◌>>=◌
abbrev pub ◌>>=◌ : {X Y : Type 0} → Out X → (X × List Token → Out Y) → Out Y
(Ok p) >>= f = f p
(Err ys) >>= f = Err ys

-- no token stands first, or one that fails the test
abbrev pub Stops : Test → List Token → Type 0
Stops c [] = Unit {0}
Stops c (t ∷ ts) = c t ≡ false

-- one rule after another, which may depend on the first one's value
pub data Bind {X Y : Type 0} (R : Rule X) (S : X → Rule Y) : List Token → Y → Type 0 where
  bound : {xs ys : List Token} {x : X} {y : Y} → R xs x → S x ys y → Bind R S (xs ++ ys) y

abbrev pub bind : {X Y : Type 0} → TokenReader X → (X → TokenReader Y) → TokenReader Y
bind r f ts = r ts >>= λ p. f p.0 p.1

-- no token
pub data NoTokens {X : Type 0} (v : X) : List Token → X → Type 0 where
  no_tokens : NoTokens v [] v

abbrev pub give : {X : Type 0} → X → TokenReader X
give v ts = Ok (v, ts)

-- a rule's values, changed by a function
pub data Mapped {X Y : Type 0} (f : X → Y) (R : Rule X) : List Token → Y → Type 0 where
  mapped : {xs : List Token} {x : X} → R xs x → Mapped f R xs (f x)

abbrev pub map_read : {X Y : Type 0} → (X → Y) → TokenReader X → TokenReader Y
map_read f r ts = r ts >>= λ p. Ok (f p.0, p.1)

-- one token that passes a test, as a value
pub data One {X : Type 0} (p : Test) (f : Token → X) : List Token → X → Type 0 where
  one : {t : Token} → p t ≡ true → One p f (t ∷ []) (f t)

abbrev pub one_token : {X : Type 0} → Test → (Token → X) → TokenReader X
one_token p f [] = Err []
one_token p f (t ∷ ts) = if p t then Ok (f t, ts) else Err (t ∷ ts)

-- one of two rules
pub data Either {X : Type 0} (R S : Rule X) : List Token → X → Type 0 where
  left : {xs : List Token} {x : X} → R xs x → Either R S xs x
  right : {xs : List Token} {x : X} → S xs x → Either R S xs x

-- whether a token of the test stands in front
abbrev pub starts : Test → List Token → Bool
starts p [] = false
starts p (t ∷ ts) = p t

-- the first rule is read where a token of the test stands in front
abbrev pub choose : {X : Type 0} → Test → TokenReader X → TokenReader X → TokenReader X
choose p r s ts = if starts p ts then r ts else s ts

-- a rule any number of times, one after the other
pub data Many {X : Type 0} (R : Rule X) : List Token → List X → Type 0 where
  none : Many R [] []
  more : {xs ys : List Token} {x : X} {l : List X} → R xs x → Many R ys l → Many R (xs ++ ys) (x ∷ l)

-- so many steps of a reader that calls itself
abbrev pub iterate : {X : Type 0} → (TokenReader X → TokenReader X) → ℕ → TokenReader X
iterate body zero ts = Err ts
iterate body (suc n) ts = body (iterate body n) ts

-- a reader that calls itself on what stands after at least one token
unfoldable pub fixpoint : {X : Type 0} → (TokenReader X → TokenReader X) → TokenReader X
fixpoint body ts = iterate body (suc (length ts)) ts

-- one step of reading a rule any number of times
abbrev pub many_step : {X : Type 0} → Test → TokenReader X → TokenReader (List X) → TokenReader (List X)
many_step p r rest = choose p (bind r (λ x. map_read (λ l. x ∷ l) rest)) (give [])

-- a rule is read again as long as a token of the test stands in front
abbrev pub many : {X : Type 0} → Test → TokenReader X → TokenReader (List X)
many p r = fixpoint (many_step p r)

-- the first token as a value, and the tokens after it, where it passes a test
abbrev pub first_token : {X : Type 0} → Test → (Token → X) → List Token → Option (X × List Token)
first_token p f [] = None
first_token p f (t ∷ ts) = if p t then Some (f t, ts) else None

abbrev pub when : {X Y : Type 0} → Option (X × List Token) → (X → TokenReader Y) → Out Y → Out Y
when (Some q) r other = r q.0 q.1
when None r other = other

-- a reader after a token that passes a test, else another reader
abbrev pub branch : {X Y : Type 0} → Test → (Token → X) → (X → TokenReader Y) → TokenReader Y → TokenReader Y
branch p f r s ts = when (first_token p f ts) r (s ts)
