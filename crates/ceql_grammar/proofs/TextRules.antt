-- Whole texts are read exactly, so a text has one reading.
use Rattle.std.proofs.Common.{◌≡◌, refl, sym, ◌∙◌, ap, subst, ℕ, suc, List, [], ◌∷◌, ◌++◌, length, arith, append-nil}
use Rattle.std.specs.Prelude.{Ok, Err}
use Rattle.ceql_lexer.specs.declared.Token.{Token}
use Rattle.ceql_grammar.specs.WordsAndSigns.{among}
use Rattle.ceql_grammar.specs.Statements.{StatementTree, IsStatement, AreStatements, text_end, statement}
use Rattle.ceql_grammar.specs.Texts.{IsDeadEnd, IsUnexpectedAt}
use Rattle.ceql_grammar.specs.RuleForms.{Out, Test, Stops, Many, none, more}
use Rattle.ceql_grammar.specs.RuleReaders as reading
use Rattle.ceql_grammar.specs.RuleReaders.{any_token, continues_statement}
use Rattle.ceql_grammar.proofs.RuleReaders.{Agrees, Goes, ReadTo, NoFront, ReadsAs, FailsAt, Outcome, Reads, agrees_self, stops_ends}
use Rattle.ceql_grammar.proofs.Fixpoints.{Loops, reads_many}
use Rattle.ceql_grammar.proofs.ReaderForms.{none as no_mark}
use Rattle.ceql_grammar.proofs.DeclarationRules.{begin_marks, begins_ends}
use Rattle.ceql_grammar.proofs.StatementRules.{begins_statement, reads_statement}

to_text : (xs : List Token) (ss : List StatementTree) → Many IsStatement xs ss → AreStatements xs ss
to_text _ _ none = text_end
to_text _ _ (more h m) = statement h (to_text _ _ m)

from_text : (xs : List Token) (ss : List StatementTree) → AreStatements xs ss → Many IsStatement xs ss
from_text _ _ text_end = none
from_text _ _ (statement h m) = more h (from_text _ _ m)

stops_all : (c : Test) (ts : List Token) → Stops any_token ts → Stops c ts
stops_all c [] s = tt
stops_all c (t ∷ ts) s = cc

pub text_loops : Loops no_mark IsStatement (λ _. continues_statement) any_token (among begin_marks) any_token
text_loops = record {
  begins = begins_statement;
  tested = λ t h. refl;
  apart = λ x. begins_ends;
  stops_item = λ x. stops_all continues_statement;
  stops_test = λ ts s. s;
  stops_both = λ ts s u. s;
  stops_before = λ x ts s. stops_ends x ts;
}

abbrev all : Goes (List StatementTree)
all ss = any_token

reads_text : (n : ℕ) → Reads no_mark n (Many IsStatement) all reading.text
unfolding reading.text
reads_text n = reads_many no_mark IsStatement (λ _. continues_statement) any_token (among begin_marks) any_token text_loops reading.one_statement n (reads_statement n)

pub text_outcome : (ts : List Token) → Outcome (Many IsStatement) all ts (reading.text ts)
text_outcome ts = (reads_text (suc (length ts))).reads ts (omega arith) (stops_ends {X = ℕ} 0 ts)

no_rest : (ys : List Token) → Stops any_token ys → ys ≡ []
no_rest [] s = refl
no_rest (y ∷ ys) s = cc

accepted_at : (ts : List Token) (ss : List StatementTree) (ys : List Token) → ReadsAs (Many IsStatement) all ts ss ys → AreStatements ts ss
accepted_at ts ss ys h =
    let e = h.here.split ∙ ap (λ zs. h.here.part ++ zs) (no_rest ys h.here.stops) ∙ append-nil h.here.part in
    subst (λ zs. AreStatements zs ss) (sym e) (to_text h.here.part ss h.here.derived)

-- what is read of a text is its statements
pub accepted : (ts : List Token) (ss : List StatementTree) (ys : List Token) → reading.text ts ≡ Ok (ss, ys) → AreStatements ts ss
accepted ts ss ys e = accepted_at ts ss ys (subst (Outcome (Many IsStatement) all ts) e (text_outcome ts))

whole : (ts : List Token) (ss : List StatementTree) → AreStatements ts ss → ReadTo (Many IsStatement) all ts ss []
whole ts ss h = record { part = ts; split = sym (append-nil ts); derived = from_text ts ss h; stops = tt }

here_at : (ts us : List Token) (ss : List StatementTree) (ys : List Token) → ts ≡ us → ReadTo (Many IsStatement) all ts ss ys → ReadTo (Many IsStatement) all us ss ys
here_at ts us ss ys e h = subst (λ vs. ReadTo (Many IsStatement) all vs ss ys) e h

one_at : (ts : List Token) (o : Out (List StatementTree)) → Outcome (Many IsStatement) all ts o → (a b : List StatementTree) → AreStatements ts a → AreStatements ts b → a ≡ b
one_at ts (Ok p) h a b x y =
    let e = h.only p.1 (agrees_self p.1) a [] (here_at ts (h.here.part ++ p.1) a [] h.here.split (whole ts a x)) in
    let f = h.only p.1 (agrees_self p.1) b [] (here_at ts (h.here.part ++ p.1) b [] h.here.split (whole ts b y)) in
    sym e.0 ∙ f.0
one_at ts (Err ys) h a b x y = absurd ((h.stuck ys (agrees_self ys)).none a [] (here_at ts (h.part ++ ys) a [] h.split (whole ts a x)))

-- a text has one reading
pub one_reading : (ts : List Token) (a b : List StatementTree) → AreStatements ts a → AreStatements ts b → a ≡ b
one_reading ts a b x y = one_at ts (reading.text ts) (text_outcome ts) a b x y

dead_at : (before left : List Token) → ((us : List Token) → Agrees left us → NoFront (Many IsStatement) all (before ++ us)) → IsDeadEnd before left
dead_at before [] stuck = λ ss h. (stuck [] refl).none ss [] (record { part = before; split = refl; derived = from_text before ss h; stops = tt })
dead_at before (t ∷ left) stuck = λ rest ss h. (stuck (t ∷ rest) (rest, refl)).none ss [] (whole (before ++ (t ∷ rest)) ss h)

-- where a text fails, no text goes on, and some text begins with what stands before
pub refused : (ts ys : List Token) → FailsAt (Many IsStatement) all ts ys → (before : List Token) × IsUnexpectedAt ts before ys
refused ts ys h = (h.part, record { split = h.split; more = h.more; statements = h.value; viable = to_text (h.part ++ h.more) h.value h.viable; dead = dead_at h.part ys h.stuck })

pub refused_text : (ts ys : List Token) → reading.text ts ≡ Err ys → (before : List Token) × IsUnexpectedAt ts before ys
refused_text ts ys e = refused ts ys (subst (Outcome (Many IsStatement) all ts) e (text_outcome ts))
