-- The answer of a list of tokens: that it is one, and that there is no other. For callers of the crate too.
use Rattle.std.proofs.Common.{◌≡◌, refl, sym, ◌∙◌, ap, subst, Bool, List, [], ◌∷◌, ◌++◌, arith, append_assoc, append-nil}
use Rattle.std.specs.Prelude.{Ok, Err}
use Rattle.cer_base.specs.declared.Location.{Location}
use Rattle.ceql_lexer.specs.declared.Token.{Token}
use Rattle.ceql_grammar.specs.declared.faults.QueryError.{QueryError}
use Rattle.ceql_grammar.specs.declared.faults.QueryFault.{QueryFault}
use Rattle.ceql_grammar.specs.declared.faults.QueryFault.TheVariants.{BadByte, OpenString, NumberTooLarge, NotUtf8, TooFine, Unexpected, NameTaken, UnknownType, UnknownStream, UnknownName, UnknownAttribute, NeverKind, NoOrder, TooDeep, TooManyLeaves, NoQuery, TooManyQueries, WindowKind, TextTooLong, BadScale, BadCount}
use Rattle.ceql_grammar.specs.Statements.{StatementTree, AreStatements}
use Rattle.ceql_grammar.specs.Texts.{IsFirstTooDeep, IsShallow, IsTooDeep, IsDeadEnd, IsUnexpectedAt, IsUnexpected, IsParsed, IsUnparsed, ParseAnswer, IsParseOfBody, IsParseOf, is_none, place_of}
use Rattle.ceql_grammar.specs.RuleReaders as reading
use Rattle.ceql_grammar.proofs.RuleReaders.{Cuts, same, earlier, later, cuts}
use Rattle.ceql_grammar.proofs.Depths.{same_cut}
use Rattle.ceql_grammar.proofs.TextRules.{accepted, refused_text, one_reading}

-- which of the two faults a refusal is
data Refusal (tokens body : List Token) (end : Token) (fault : QueryFault) (place : Location) : Type 0 where
  deep : fault ≡ TooDeep → IsTooDeep tokens place → Refusal tokens body end fault place
  stray : (at_end : Bool) → fault ≡ Unexpected at_end → IsUnexpected tokens body end at_end place → Refusal tokens body end fault place

refusal : (tokens body : List Token) (end : Token) (fault : QueryFault) (place : Location) → IsUnparsed tokens body end fault place → Refusal tokens body end fault place
refusal tokens body end (BadByte x0) place h = absurd h
refusal tokens body end OpenString place h = absurd h
refusal tokens body end NumberTooLarge place h = absurd h
refusal tokens body end NotUtf8 place h = absurd h
refusal tokens body end TooFine place h = absurd h
refusal tokens body end (Unexpected at_end) place h = stray at_end refl h
refusal tokens body end (NameTaken x0) place h = absurd h
refusal tokens body end (UnknownType x0) place h = absurd h
refusal tokens body end (UnknownStream x0) place h = absurd h
refusal tokens body end (UnknownName x0) place h = absurd h
refusal tokens body end (UnknownAttribute x0) place h = absurd h
refusal tokens body end (NeverKind x0 x1) place h = absurd h
refusal tokens body end NoOrder place h = absurd h
refusal tokens body end TooDeep place h = deep refl h
refusal tokens body end TooManyLeaves place h = absurd h
refusal tokens body end NoQuery place h = absurd h
refusal tokens body end TooManyQueries place h = absurd h
refusal tokens body end (WindowKind x0) place h = absurd h
refusal tokens body end TextTooLong place h = absurd h
refusal tokens body end BadScale place h = absurd h
refusal tokens body end BadCount place h = absurd h

-- TWO REFUSALS ARE THE SAME

first_same : (tokens before other : List Token) (t u : Token) → IsFirstTooDeep tokens before t → IsFirstTooDeep tokens other u → t ≡ u
first_same tokens before other t u h k =
    let l = h.first other u k.here in
    let m = k.first before t h.here in
    let cut = same_cut before other t u h.here.after k.here.after (sym h.here.split ∙ k.here.split) (omega (arith, l, m)) in
    cut.1

deep_same : (tokens : List Token) (p q : Location) → IsTooDeep tokens p → IsTooDeep tokens q → p ≡ q
deep_same tokens p q h k = h.place_is ∙ ap (λ t. t.place) (first_same tokens h.before k.before h.token k.token h.first k.first) ∙ sym k.place_is

-- a text goes on with the first of the tokens left
not_dead : (before left : List Token) (t : Token) (us more : List Token) (statements : List StatementTree) → IsDeadEnd before left → left ≡ t ∷ us → AreStatements (before ++ t ∷ more) statements → ⊥
not_dead before [] t us more statements dead e h = cc
not_dead before (x ∷ left) t us more statements dead e h =
    let k : x ≡ t = cc in
    dead more statements (subst (λ y. AreStatements (before ++ y ∷ more) statements) (sym k) h)

continues_statement : (body before left other rest : List Token) (t : Token) (us : List Token) → IsUnexpectedAt body before left → IsUnexpectedAt body other rest → other ≡ before ++ t ∷ us → left ≡ t ∷ us ++ rest → ⊥
continues_statement body before left other rest t us h k e f =
    not_dead before left t (us ++ rest) (us ++ k.more) k.statements h.dead f
    (subst (λ ts. AreStatements ts k.statements) (ap (λ ts. ts ++ k.more) e ∙ append_assoc before (t ∷ us) k.more) k.viable)

left_same : (body before left other rest : List Token) → IsUnexpectedAt body before left → IsUnexpectedAt body other rest → Cuts before left other rest → left ≡ rest
left_same body before left other rest h k (same e) = e
left_same body before left other rest h k (earlier t us e f) = absurd (continues_statement body before left other rest t us h k e f)
left_same body before left other rest h k (later t us e f) = absurd (continues_statement body other rest before left t us k h e f)

stray_same : (tokens body : List Token) (end : Token) (a b : Bool) (p q : Location) → IsUnexpected tokens body end a p → IsUnexpected tokens body end b q → (a ≡ b) × (p ≡ q)
stray_same tokens body end a b p q h k =
    let e = left_same body h.before h.left k.before k.left h.here k.here (cuts h.before h.left k.before k.left (sym h.here.split ∙ k.here.split)) in
    (h.end_is ∙ ap is_none e ∙ sym k.end_is, h.place_is ∙ ap (λ left. place_of left end) e ∙ sym k.place_is)

deep_shallow : (tokens : List Token) (p : Location) → IsTooDeep tokens p → IsShallow tokens → ⊥
deep_shallow tokens p h s = s h.before h.token h.first.here

refusals_same : (tokens body : List Token) (end : Token) (f g : QueryFault) (p q : Location) → Refusal tokens body end f p → Refusal tokens body end g q → (f ≡ g) × (p ≡ q)
refusals_same tokens body end f g p q (deep e h) (deep i k) = (e ∙ sym i, deep_same tokens p q h k)
refusals_same tokens body end f g p q (deep e h) (stray b i k) = absurd (deep_shallow tokens p h k.shallow)
refusals_same tokens body end f g p q (stray a e h) (deep i k) = absurd (deep_shallow tokens q k h.shallow)
refusals_same tokens body end f g p q (stray a e h) (stray b i k) =
    let both = stray_same tokens body end a b p q h k in
    (e ∙ ap Unexpected both.0 ∙ sym i, both.1)

-- NO TEXT IS REFUSED

text_dead : (before left : List Token) (statements : List StatementTree) → IsDeadEnd before left → AreStatements (before ++ left) statements → ⊥
text_dead before [] statements dead h = dead statements (subst (λ ts. AreStatements ts statements) (append-nil before) h)
text_dead before (t ∷ left) statements dead h = dead left statements h

accepted_refused : (tokens body : List Token) (end : Token) (ss : List StatementTree) (p : Location) (f : QueryFault) (q : Location) → IsParsed tokens body end ss p → Refusal tokens body end f q → ⊥
accepted_refused tokens body end ss p f q h (deep e k) = deep_shallow tokens q k h.shallow
accepted_refused tokens body end ss p f q h (stray b e k) = text_dead k.before k.left ss k.here.dead (subst (λ ts. AreStatements ts ss) k.here.split h.derived)

-- THE ANSWER IS ONE

answers_same : (tokens body : List Token) (end : Token) (a b : ParseAnswer) → IsParseOfBody tokens body end a → IsParseOfBody tokens body end b → a ≡ b
answers_same tokens body end (Ok x) (Ok y) h k =
    ap (λ ss. Ok (ss, x.1)) (one_reading body x.0 y.0 h.derived k.derived) ∙ ap (λ p. Ok (y.0, p)) (h.place_is ∙ sym k.place_is)
answers_same tokens body end (Ok x) (Err e) h k = absurd (accepted_refused tokens body end x.0 x.1 e.fault e.place h (refusal tokens body end e.fault e.place k))
answers_same tokens body end (Err e) (Ok x) h k = absurd (accepted_refused tokens body end x.0 x.1 e.fault e.place k (refusal tokens body end e.fault e.place h))
answers_same tokens body end (Err e) (Err f) h k =
    let both = refusals_same tokens body end e.fault f.fault e.place f.place (refusal tokens body end e.fault e.place h) (refusal tokens body end f.fault f.place k) in
    ap (λ g. Err (record { fault = g; place = e.place })) both.0 ∙ ap (λ p. Err (record { fault = f.fault; place = p })) both.1

last_same : (xs ys : List Token) (t u : Token) → xs ++ t ∷ [] ≡ ys ++ u ∷ [] → (xs ≡ ys) × (t ≡ u)
last_same [] [] t u e = (refl, cc)
last_same [] (y ∷ []) t u e = cc
last_same [] (y ∷ z ∷ ys) t u e = cc
last_same (x ∷ []) [] t u e = cc
last_same (x ∷ z ∷ xs) [] t u e = cc
last_same (x ∷ xs) (y ∷ ys) t u e = let k = last_same xs ys t u (cc) in (cc, k.1)

-- tokens have at most one answer
pub one_answer : (tokens : List Token) (a b : ParseAnswer) → IsParseOf tokens a → IsParseOf tokens b → a ≡ b
one_answer tokens a b h k =
    let e = last_same h.body k.body h.end k.end (sym h.split ∙ k.split) in
    answers_same tokens k.body k.end a b (subst (λ t. IsParseOfBody tokens k.body t a) e.1 (subst (λ body. IsParseOfBody tokens body h.end a) e.0 h.is)) k.is

-- THE ANSWERS THAT ARE FOUND

pub found_deep : (tokens body : List Token) (end : Token) (place : Location) → tokens ≡ body ++ end ∷ [] → IsTooDeep tokens place → IsParseOf tokens (Err (record { fault = TooDeep; place = place }))
found_deep tokens body end place e h = record { body = body; end = end; split = e; is = h }

pub found_text : (tokens body : List Token) (end : Token) (ss : List StatementTree) (place : Location) → tokens ≡ body ++ end ∷ [] → IsShallow tokens → reading.text body ≡ Ok (ss, []) → place ≡ end.place → IsParseOf tokens (Ok (ss, place))
found_text tokens body end ss place e s h p = record { body = body; end = end; split = e; is = record { shallow = s; derived = accepted body ss [] h; place_is = p } }

stray_is : (tokens body : List Token) (end : Token) (left : List Token) (f : QueryFault) (p : Location) → IsShallow tokens → (before : List Token) × IsUnexpectedAt body before left → f ≡ Unexpected (is_none left) → p ≡ place_of left end → IsUnparsed tokens body end f p
stray_is tokens body end left f p s h e k =
    subst (λ f. IsUnparsed tokens body end f p) (sym e) (record { shallow = s; before = h.0; left = left; here = h.1; end_is = refl; place_is = k })

pub found_stray : (tokens body : List Token) (end : Token) (left : List Token) (error : QueryError) → tokens ≡ body ++ end ∷ [] → IsShallow tokens → reading.text body ≡ Err left → error.fault ≡ Unexpected (is_none left) → error.place ≡ place_of left end → IsParseOf tokens (Err error)
found_stray tokens body end left error e s h f p = record { body = body; end = end; split = e; is = stray_is tokens body end left error.fault error.place s (refused_text body left h) f p }
