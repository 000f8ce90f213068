-- Steps of loops that read a rule again and again.
use Rattle.std.proofs.Common.{◌≡◌, refl, sym, ◌∙◌, ap, ℕ, suc, ◌<◌, Bool, true, false, List, [], ◌∷◌, ◌++◌, length, arith, append_assoc, append-nil}
use Rattle.std.specs.Prelude.{Some, None, Ok, Err, if◌then◌else◌}
use Rattle.ceql_lexer.specs.declared.Token.{Token}
use Rattle.ceql_grammar.specs.PartlyRead.{with_front}
use Rattle.ceql_grammar.specs.RuleForms.{Rule, Out, TokenReader, ◌>>=◌, Test, Many, many, many_step, fixpoint, iterate, bind, map_read, starts, first_token, one_token}
use Rattle.ceql_grammar.specs.ConditionLaws.{Again}
use Rattle.ceql_grammar.proofs.RuleReaders.{Goes, ReadTo, Outcome, Reads, shorter_rest, agree, stops_ends}
use Rattle.ceql_grammar.proofs.Fixpoints.{Loops, reads_under, many_steps, iterate_reads, fixpoint_reads}

module _ {X : Type 0} (a : Test) (R : Rule X) (c : Goes X) (p q d : Test) (loop : Loops a R c p q d) (r : TokenReader X) (free : (n : ℕ) → Reads (λ t. false) n R c r) where
  reads : (n : ℕ) → Reads a n R c r
  reads n = reads_under a R c n r (free n)

  rest_same : (ts : List Token) (x : X) (ys : List Token) → ReadTo R c ts x ys → iterate (many_step p r) (length ts) ys ≡ many p r ys
  rest_same ts x ys h =
      let n = length ts in
      let l : length ys < n = shorter_rest R c q h.part ts ys n (loop.begins.begins h.part x h.derived) h.split (omega arith) in
      agree a (Many R) (λ l. d) n (suc (length ys)) (iterate (many_step p r) n) (many p r)
      (iterate_reads a (Many R) (λ l. d) (many_step p r) n (many_steps a R c p q d loop r n (reads n)) n (omega arith))
      (fixpoint_reads a (Many R) (λ l. d) (many_step p r) (suc (length ys)) (many_steps a R c p q d loop r (suc (length ys)) (reads (suc (length ys)))))
      ys l (omega arith) (loop.stops_before x ys h.stops)

  item_same : (ts : List Token) (o : Out X) → Outcome R c ts o → (o >>= λ x. map_read (λ l. x.0 ∷ l) (iterate (many_step p r) (length ts)) x.1) ≡ (o >>= λ x. map_read (λ l. x.0 ∷ l) (many p r) x.1)
  item_same ts (Ok x) h = ap (λ o. o >>= λ y. Ok (x.0 ∷ y.0, y.1)) (rest_same ts x.0 x.1 h.here)
  item_same ts (Err ys) h = refl

  step_same : (ts : List Token) → (b : Bool) → (if b then bind r (λ x. map_read (λ l. x ∷ l) (iterate (many_step p r) (length ts))) ts else Ok ([], ts)) ≡ (if b then bind r (λ x. map_read (λ l. x ∷ l) (many p r)) ts else Ok ([], ts))
  step_same ts true = item_same ts (r ts) ((free (suc (length ts))).reads ts (omega arith) (stops_ends {X = ℕ} 0 ts))
  step_same ts false = refl

  many_at : (ts : List Token) → many p r ts ≡ many_step p r (iterate (many_step p r) (length ts)) ts
  unfolding fixpoint
  many_at ts = refl

  pub again : Again p r
  again = record { step = λ ts. many_at ts ∙ step_same ts (starts p ts) }

put_behind : {X : Type 0} (made : List X) (x : X) (o : Out (List X)) → with_front made (o >>= λ y. Ok (x ∷ y.0, y.1)) ≡ with_front (made ++ x ∷ []) o
put_behind made x (Ok y) = ap (λ l. Ok (l, y.1)) (sym (append_assoc made (x ∷ []) y.0))
put_behind made x (Err ys) = refl

-- one turn of a loop whose list was read in part
module _ {X : Type 0} (p : Test) (r : TokenReader X) (h : Again p r) (made : List X) (ts : List Token) where
  turn : (b : Bool) → starts p ts ≡ b → many p r ts ≡ (if b then bind r (λ x. map_read (λ l. x ∷ l) (many p r)) ts else Ok ([], ts))
  turn b e = h.step ts ∙ ap (λ b. if b then bind r (λ x. map_read (λ l. x ∷ l) (many p r)) ts else Ok ([], ts)) e

  pub ends_here : starts p ts ≡ false → with_front made (many p r ts) ≡ Ok (made, ts)
  ends_here e = ap (with_front made) (turn false e) ∙ ap (λ l. Ok (l, ts)) (append-nil made)

  pub fails_here : (ys : List Token) → starts p ts ≡ true → r ts ≡ Err ys → with_front made (many p r ts) ≡ Err ys
  fails_here ys e f = ap (with_front made) (turn true e) ∙ ap (λ o. with_front made (o >>= λ x. map_read (λ l. x.0 ∷ l) (many p r) x.1)) f

  pub goes_here : (x : X) (ys : List Token) → starts p ts ≡ true → r ts ≡ Ok (x, ys) → with_front made (many p r ts) ≡ with_front (made ++ x ∷ []) (many p r ys)
  goes_here x ys e f = ap (with_front made) (turn true e) ∙ ap (λ o. with_front made (o >>= λ x. map_read (λ l. x.0 ∷ l) (many p r) x.1)) f ∙ put_behind made x (many p r ys)

some_same : {X : Type 0} (q r : X × List Token) → Some q ≡ Some r → q ≡ r
some_same q r e = cc

first_at : {X : Type 0} (q r : X × List Token) (b : Bool) → (if b then Some q else None) ≡ Some r → (b ≡ true) × (q ≡ r)
first_at q r true e = (refl, some_same q r e)
first_at q r false e = cc

-- a token that passes the test stands in front
pub first_some : {X : Type 0} (p : Test) (f : Token → X) (ts : List Token) (x : X) (us : List Token) → first_token p f ts ≡ Some (x, us) → (starts p ts ≡ true) × (one_token p f ts ≡ Ok (x, us))
first_some p f [] x us e = cc
first_some p f (t ∷ ts) x us e =
    let k = first_at (f t, ts) (x, us) (p t) e in
    (k.0, ap (λ b. if b then Ok (f t, ts) else Err (t ∷ ts)) k.0 ∙ ap (λ q. Ok q) k.1)

none_at : {X : Type 0} (t : Token) (q : X × List Token) (b : Bool) → (if b then Some q else None) ≡ None → b ≡ false
none_at t q true e = cc
none_at t q false e = refl

pub first_none : {X : Type 0} (p : Test) (f : Token → X) (ts : List Token) → first_token p f ts ≡ None → starts p ts ≡ false
first_none p f [] e = refl
first_none p f (t ∷ ts) e = none_at t (f t, ts) (p t) e

-- the same turns where the rule stands after a token
module _ {X Y : Type 0} (p : Test) (f : Token → X) (g : X → TokenReader Y) (h : Again p (bind (one_token p f) g)) (made : List Y) (ts : List Token) where
  pub ends_led : first_token p f ts ≡ None → with_front made (many p (bind (one_token p f) g) ts) ≡ Ok (made, ts)
  ends_led e = ends_here p (bind (one_token p f) g) h made ts (first_none p f ts e)

  pub fails_led : (x : X) (us ys : List Token) → first_token p f ts ≡ Some (x, us) → g x us ≡ Err ys → with_front made (many p (bind (one_token p f) g) ts) ≡ Err ys
  fails_led x us ys e k = let s = first_some p f ts x us e in fails_here p (bind (one_token p f) g) h made ts ys s.0 (ap (λ o. o >>= λ q. g q.0 q.1) s.1 ∙ k)

  pub goes_led : (x : X) (us : List Token) (y : Y) (ys : List Token) → first_token p f ts ≡ Some (x, us) → g x us ≡ Ok (y, ys) → with_front made (many p (bind (one_token p f) g) ts) ≡ with_front (made ++ y ∷ []) (many p (bind (one_token p f) g) ys)
  goes_led x us y ys e k = let s = first_some p f ts x us e in goes_here p (bind (one_token p f) g) h made ts y ys s.0 (ap (λ o. o >>= λ q. g q.0 q.1) s.1 ∙ k)
