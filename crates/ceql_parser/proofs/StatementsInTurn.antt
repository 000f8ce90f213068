-- Statements in turn: what one more adds, and where the first fault is.
use Rattle.std.proofs.Common.{◌≡◌, refl, sym, ap, ap₂, ◌∙◌, ℕ, zero, suc, ◌+◌, ◌<◌, List, [], ◌∷◌, ◌++◌, Option, Some, None, take, length, get_or, add-one, arith}
use Rattle.std.specs.Prelude.{Err, fold}
use Rattle.std.specs.Option.{option_or}
use Rattle.cer_base.specs.declared.OrMemory.{OrMemory}
use Rattle.cer_base.specs.declared.OrMemory.TheVariants as wanted
use Rattle.stream_schema.specs.Types.{Declared}
use Rattle.stream_schema.specs.declared.registry.Schema.{Schema}
use Rattle.ceql_grammar.specs.declared.faults.QueryError.{QueryError}
use Rattle.ceql_grammar.specs.declared.terms.Statement.{Statement}
use Rattle.ceql_grammar.specs.declared.terms.Statement.TheVariants as said
use Rattle.ceql_parser.specs.FirstFaults.{FindsFault}
use Rattle.ceql_parser.specs.StatementFaults.{statement_fault}
use Rattle.ceql_parser.specs.ScriptFaults.{declaring, query_said, queries_of, statements_fault}

or_or : {X : Type 0} (o p q : Option X) → option_or (option_or o p) q ≡ option_or o (option_or p q)
or_or None p q = refl
or_or (Some x) p q = refl

pub queries_split : (s : Statement) (rest : List Statement) → length (queries_of (s ∷ rest)) ≡ length (queries_of (s ∷ [])) + length (queries_of rest)
queries_split (said.Event name attrs) rest = let f : length (queries_of rest) ≡ 0 + length (queries_of rest) = omega arith in f
queries_split (said.Stream name types) rest = let f : length (queries_of rest) ≡ 0 + length (queries_of rest) = omega arith in f
queries_split (said.Select s) rest = let f : suc (length (queries_of rest)) ≡ 1 + length (queries_of rest) = omega arith in f

more_queries : (ss : List Statement) (i : ℕ) (d : Statement) → i < length ss → length (queries_of (take (suc i) ss)) ≡ length (queries_of (take i ss)) + length (queries_of (get_or ss i d ∷ []))
more_queries [] i d h = absurd (omega (arith, h))
more_queries (s ∷ ss) zero d h = let f : length (queries_of (s ∷ [])) ≡ 0 + length (queries_of (s ∷ [])) = omega arith in f
more_queries (s ∷ ss) (suc i) d h =
    let e = more_queries ss i d (omega arith) in
    let f = queries_split s (take (suc i) ss) in
    let g = queries_split s (take i ss) in
    let r : length (queries_of (s ∷ take (suc i) ss)) ≡ length (queries_of (s ∷ take i ss)) + length (queries_of (get_or ss i d ∷ [])) = omega (arith, e, f, g) in r

pub queries_more : (ss : List Statement) (i : ℕ) (d : Statement) → i < length ss → length (queries_of (take (i + 1) ss)) ≡ length (queries_of (take i ss)) + length (queries_of (get_or ss i d ∷ []))
queries_more ss i d h = rw add-one (more_queries ss i d h)

more_declared : (schema : Declared) (ss : List Statement) (i : ℕ) (d : Statement) → i < length ss → fold declaring schema (take (suc i) ss) ≡ declaring (fold declaring schema (take i ss)) (get_or ss i d)
more_declared schema [] i d h = absurd (omega (arith, h))
more_declared schema (s ∷ ss) zero d h = refl
more_declared schema (s ∷ ss) (suc i) d h = more_declared (declaring schema s) ss i d (omega arith)

pub declared_more : (schema : Declared) (ss : List Statement) (i : ℕ) (d : Statement) → i < length ss → fold declaring schema (take (i + 1) ss) ≡ declaring (fold declaring schema (take i ss)) (get_or ss i d)
declared_more schema ss i d h = rw add-one (more_declared schema ss i d h)

counts : (before count : ℕ) (s : Statement) (rest : List Statement) → count ≡ before + length (queries_of (s ∷ rest)) → count ≡ (before + length (queries_of (s ∷ []))) + length (queries_of rest)
counts before count s rest e = let f = queries_split s rest in omega (arith, e, f)

more_faults : (schema : Declared) (before count : ℕ) (ss : List Statement) (i : ℕ) (d : Statement) → i < length ss → count ≡ before + length (queries_of (take i ss)) → statements_fault schema before (take (suc i) ss) ≡ option_or (statements_fault schema before (take i ss)) (statement_fault (fold declaring schema (take i ss)) count (get_or ss i d))
more_faults schema before count [] i d h n = absurd (omega (arith, h))
more_faults schema before count (s ∷ ss) zero d h n =
    let e : before ≡ count = omega (arith, n) in
    ends (statement_fault schema before s) ∙ ap (λ k. statement_fault schema k s) e
  where
    ends : {X : Type 0} (o : Option X) → option_or o None ≡ o
    ends None = refl
    ends (Some x) = refl
more_faults schema before count (s ∷ ss) (suc i) d h n =
    ap (option_or (statement_fault schema before s)) (more_faults (declaring schema s) (before + length (queries_of (s ∷ []))) count ss i d (omega arith) (counts before count s (take i ss) n))
    ∙ sym (or_or (statement_fault schema before s) _ _)

pub faults_more : (schema : Declared) (before count : ℕ) (ss : List Statement) (i : ℕ) (d : Statement) → i < length ss → count ≡ before + length (queries_of (take i ss)) → statements_fault schema before (take (i + 1) ss) ≡ option_or (statements_fault schema before (take i ss)) (statement_fault (fold declaring schema (take i ss)) count (get_or ss i d))
faults_more schema before count ss i d h n = rw add-one (more_faults schema before count ss i d h n)

faults_at : (schema : Declared) (before count : ℕ) (ss : List Statement) (i : ℕ) (d : Statement) (e : QueryError) → i < length ss → count ≡ before + length (queries_of (take i ss)) → statements_fault schema before (take i ss) ≡ None → statement_fault (fold declaring schema (take i ss)) count (get_or ss i d) ≡ Some e → statements_fault schema before ss ≡ Some e
faults_at schema before count [] i d e h n none here = absurd (omega (arith, h))
faults_at schema before count (s ∷ ss) zero d e h n none here =
    let same : before ≡ count = omega (arith, n) in
    ap (λ o. option_or o (statements_fault (declaring schema s) (before + length (queries_of (s ∷ []))) ss)) (ap (λ k. statement_fault schema k s) same ∙ here)
faults_at schema before count (s ∷ ss) (suc i) d e h n none here =
    later (statement_fault schema before s) _ _ e none
    (faults_at (declaring schema s) (before + length (queries_of (s ∷ []))) count ss i d e (omega arith) (counts before count s (take i ss) n) (after (statement_fault schema before s) _ none) here)
  where
    after : {Y : Type 0} (o p : Option Y) → option_or o p ≡ None → p ≡ None
    after None p e = e
    after (Some y) p e = absurd cc

    later : {Y : Type 0} (o p q : Option Y) (y : Y) → option_or o p ≡ None → q ≡ Some y → option_or o q ≡ Some y
    later None p q y e f = f
    later (Some z) p q y e f = absurd cc

-- the fault at a statement is that of the text
pub told_there : (schema here : Declared) (count : ℕ) (ss : List Statement) (i : ℕ) (s : Statement) (stop : OrMemory QueryError) (end : Option QueryError) → i < length ss → s ≡ get_or ss i s → count ≡ length (queries_of (take i ss)) → here ≡ fold declaring schema (take i ss) → statements_fault schema 0 (take i ss) ≡ None → FindsFault {T = Unit {0}} (Err stop) (statement_fault here count s) → FindsFault {T = Schema} (Err stop) (option_or (statements_fault schema 0 ss) end)
told_there schema here count ss i s (wanted.Fault e) end h at n are none told =
    ap (λ o. option_or o end) (faults_at schema 0 count ss i s e h (let m : count ≡ 0 + length (queries_of (take i ss)) = omega (arith, n) in m) none (ap₂ (λ sch x. statement_fault sch count x) (sym are) (sym at) ∙ told))
told_there schema here count ss i s wanted.Memory end h at n are none told = tt

-- one statement more
pub none_kept : (schema here : Declared) (count : ℕ) (ss : List Statement) (i : ℕ) (s : Statement) → i < length ss → s ≡ get_or ss i s → count ≡ length (queries_of (take i ss)) → here ≡ fold declaring schema (take i ss) → statements_fault schema 0 (take i ss) ≡ None → statement_fault here count s ≡ None → statements_fault schema 0 (take (i + 1) ss) ≡ None
none_kept schema here count ss i s h at n are none here_none =
    faults_more schema 0 count ss i s h (let m : count ≡ 0 + length (queries_of (take i ss)) = omega (arith, n) in m)
    ∙ both _ _ none (ap₂ (λ sch x. statement_fault sch count x) (sym are) (sym at) ∙ here_none)
  where
    both : {Y : Type 0} (o p : Option Y) → o ≡ None → p ≡ None → option_or o p ≡ None
    both None p e f = f
    both (Some y) p e f = absurd cc

pub schema_kept : (schema here next : Declared) (ss : List Statement) (i : ℕ) (s : Statement) → i < length ss → s ≡ get_or ss i s → here ≡ fold declaring schema (take i ss) → next ≡ declaring here s → next ≡ fold declaring schema (take (i + 1) ss)
schema_kept schema here next ss i s h at are e = e ∙ ap₂ declaring are at ∙ sym (declared_more schema ss i s h)

pub count_kept : (count more : ℕ) (ss : List Statement) (i : ℕ) (s : Statement) → i < length ss → s ≡ get_or ss i s → count ≡ length (queries_of (take i ss)) → more ≡ length (queries_of (s ∷ [])) → count + more ≡ length (queries_of (take (i + 1) ss))
count_kept count more ss i s h at n m = ap₂ ◌+◌ n (m ∙ ap (λ x. length (queries_of (x ∷ []))) at) ∙ sym (queries_more ss i s h)

pub queries_append : (xs : List Statement) (s : Statement) → queries_of (xs ++ s ∷ []) ≡ queries_of xs ++ queries_of (s ∷ [])
queries_append [] s = refl
queries_append (said.Event name attrs ∷ xs) s = queries_append xs s
queries_append (said.Stream name types ∷ xs) s = queries_append xs s
queries_append (said.Select x ∷ xs) s = ap (λ qs. query_said x ∷ qs) (queries_append xs s)
