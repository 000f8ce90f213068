-- The answer of a whole text: its statements, or the first place where it is nested too deeply, else the
-- first token with which no text goes on.
use Rattle.std.specs.Prelude.{◌≡◌, ℕ, ◌+◌, ◌-◌, ◌≤◌, Bool, true, false, List, [], ◌∷◌, ◌++◌, length, codes, map, if◌then◌else◌, Result, Ok, Err}
use Rattle.cer_base.specs.declared.Location.{Location}
use Rattle.cer_base.specs.declared.limits.TheConstants.{DEEPEST_NESTING}
use Rattle.ceql_lexer.specs.declared.Token.{Token}
use Rattle.ceql_grammar.specs.declared.faults.QueryError.{QueryError}
use Rattle.ceql_grammar.specs.declared.faults.QueryFault.{QueryFault}
use Rattle.ceql_grammar.specs.declared.faults.QueryFault.TheVariants.{Unexpected, TooDeep}
use Rattle.ceql_grammar.specs.WordsAndSigns.{Is, is, among}
use Rattle.ceql_grammar.specs.Statements.{StatementTree, statement_tree, AreStatements}
use Rattle.ceql_grammar.specs.declared.terms.Script.{Script}
use Rattle.cer_base.specs.declared.OrMemory.{OrMemory}
use Rattle.cer_base.specs.declared.OrMemory.TheVariants as wanted

-- how many parentheses are open after a token, so many being open before it: DECLARE and SELECT begin
-- anew, and a `)` closes one where one is open
abbrev pub open_after_one : ℕ → Token → ℕ
open_after_one n t =
    if among (codes "DECLARE" ∷ codes "SELECT" ∷ []) t then 0
    else (if is (codes "(") t then n + 1
    else (if is (codes ")") t then n - 1 else n))

-- how many are open after these tokens
abbrev pub open_after : ℕ → List Token → ℕ
open_after n [] = n
open_after n (t ∷ ts) = open_after (open_after_one n t) ts

-- After these tokens stands a `(` where as many are open as may be.
pub record IsTooDeepAt (tokens before : List Token) (t : Token) : Type 0 where
  pub after : List Token
  pub split : tokens ≡ before ++ t ∷ after
  pub opens : Is (codes "(") t
  pub full : DEEPEST_NESTING ≤ open_after 0 before

-- it is the first such place
pub record IsFirstTooDeep (tokens before : List Token) (t : Token) : Type 0 where
  pub here : IsTooDeepAt tokens before t
  pub first : (other : List Token) (u : Token) → IsTooDeepAt tokens other u → length before ≤ length other

-- there is no such place
abbrev pub IsShallow : List Token → Type 0
IsShallow tokens = (before : List Token) (t : Token) → IsTooDeepAt tokens before t → ⊥

-- no text has these tokens in front where a token follows, or is just these where the end does
abbrev pub IsDeadEnd : List Token → List Token → Type 0
IsDeadEnd before [] = (statements : List StatementTree) → AreStatements before statements → ⊥
IsDeadEnd before (t ∷ left) = (more : List Token) (statements : List StatementTree) → AreStatements (before ++ t ∷ more) statements → ⊥

-- The tokens are these and then those left: some text begins with the first ones, but none goes on with
-- the first of those left, or ends there where none is left.
pub record IsUnexpectedAt (body before left : List Token) : Type 0 where
  pub split : body ≡ before ++ left
  pub more : List Token
  pub statements : List StatementTree
  pub viable : AreStatements (before ++ more) statements
  pub dead : IsDeadEnd before left

-- the place of the first token left, and that of the end where none is
abbrev pub place_of : List Token → Token → Location
place_of [] end = end.place
place_of (t ∷ left) end = t.place

abbrev pub is_none : List Token → Bool
is_none [] = true
is_none (t ∷ left) = false

-- The body is refused at a token as nested too deeply.
pub record IsTooDeep (tokens : List Token) (place : Location) : Type 0 where
  pub before : List Token
  pub token : Token
  pub first : IsFirstTooDeep tokens before token
  pub place_is : place ≡ token.place

-- The body, which is not nested too deeply, is refused at a token or at the end.
pub record IsUnexpected (tokens body : List Token) (end : Token) (at_end : Bool) (place : Location) : Type 0 where
  pub shallow : IsShallow tokens
  pub before : List Token
  pub left : List Token
  pub here : IsUnexpectedAt body before left
  pub end_is : at_end ≡ is_none left
  pub place_is : place ≡ place_of left end

-- The body, which is not nested too deeply, is a text with these statements, which ends at the place.
pub record IsParsed (tokens body : List Token) (end : Token) (statements : List StatementTree) (place : Location) : Type 0 where
  pub shallow : IsShallow tokens
  pub derived : AreStatements body statements
  pub place_is : place ≡ end.place

-- which faults a body is refused with
abbrev pub IsUnparsed : List Token → List Token → Token → QueryFault → Location → Type 0
IsUnparsed tokens body end TooDeep place = IsTooDeep tokens place
IsUnparsed tokens body end (Unexpected at_end) place = IsUnexpected tokens body end at_end place
IsUnparsed tokens body end _ place = ⊥

-- the statements of a text and the place of its end, or its first fault
abbrev pub ParseAnswer : Type 0
ParseAnswer = Result (List StatementTree × Location) QueryError

abbrev pub IsParseOfBody : List Token → List Token → Token → ParseAnswer → Type 0
IsParseOfBody tokens body end (Ok script) = IsParsed tokens body end script.0 script.1
IsParseOfBody tokens body end (Err e) = IsUnparsed tokens body end e.fault e.place

-- the answer of tokens, of which the last is the end and those before it are the body
pub record IsParseOf (tokens : List Token) (answer : ParseAnswer) : Type 0 where
  pub body : List Token
  pub end : Token
  pub split : tokens ≡ body ++ end ∷ []
  pub is : IsParseOfBody tokens body end answer

-- what a script says
abbrev pub script_view : Script → List StatementTree × Location
script_view script = (map statement_tree script.statements, script.end)

abbrev pub WhereRefused : {Y : Type 0} → OrMemory QueryError → (Result Y QueryError → Type 0) → Type 0
WhereRefused (wanted.Fault e) P = P (Err e)
WhereRefused wanted.Memory P = Unit {0}

-- a property of what a call answered, seen by view, unless memory ran out
abbrev pub WhereAnswered : {X Y : Type 0} → (X → Y) → Result X (OrMemory QueryError) → (Result Y QueryError → Type 0) → Type 0
WhereAnswered view (Ok x) P = P (Ok (view x))
WhereAnswered view (Err e) P = WhereRefused e P
