-- What the exits and the turns of reading functions need, over plain values.
use Rattle.std.proofs.Common.{◌≡◌, refl, sym, ◌∙◌, ap, subst, true, false, List, [], ◌∷◌, ◌++◌, map, length, arith, Bor}
use Rattle.std.specs.Prelude.{Some, None, Result, Ok, Err}
use Rattle.cer_base.specs.declared.OrMemory.{OrMemory}
use Rattle.cer_base.specs.declared.OrMemory.TheVariants as wanted
use Rattle.ceql_lexer.specs.declared.Token.{Token}
use Rattle.ceql_grammar.specs.ReadResults.{ReadsAs, ReadsAllAs, StopsAs}
use Rattle.ceql_grammar.specs.PartlyRead.{with_front}
use Rattle.ceql_grammar.specs.RuleReaders.{any_token}
use Rattle.ceql_grammar.specs.RuleForms.{Out, TokenReader, ◌>>=◌, Test, bind, map_read, one_token, many, first_token, starts}
use Rattle.ceql_grammar.specs.ConditionLaws.{Again}
use Rattle.ceql_grammar.proofs.RepeatedReading.{ends_here, fails_here, goes_here, ends_led, fails_led, goes_led}

-- the exit of a `?`
pub exit : {X Y : Type 0} (view : X → Y) (r : Result (X × Bor (List Token)) (OrMemory (Bor (List Token)))) (x e : OrMemory (Bor (List Token))) → r ≡ Err x → x ≡ e → (out : Out Y) → StopsAs e out → ReadsAs view r out
exit view r x e p q out h = subst (λ r. ReadsAs view r out) (sym (p ∙ ap (λ e. Err e) q)) h

pub all_exit : {X Y : Type 0} (view : X → Y) (r : Result X (OrMemory (Bor (List Token)))) (x e : OrMemory (Bor (List Token))) → r ≡ Err x → x ≡ e → (out : Out Y) → StopsAs e out → ReadsAllAs view r out
all_exit view r x e p q out h = subst (λ r. ReadsAllAs view r out) (sym (p ∙ ap (λ e. Err e) q)) h

pub not_empty : (ts : List Token) → (length ts ≡ 0 → ⊥) → starts any_token ts ≡ true
not_empty [] n = absurd (n refl)
not_empty (t ∷ ts) n = refl

pub all_read : (ts : List Token) → length ts ≡ 0 → ts ≡ []
all_read [] e = refl
all_read (t ∷ ts) e = absurd (omega arith)

-- a failure is that of what equals the reader
pub fails_as : {Y : Type 0} (e : OrMemory (Bor (List Token))) (a b : Out Y) → a ≡ b → StopsAs e a → StopsAs e b
fails_as e a b p h = subst (StopsAs e) p h

pub map_behind : {X Y : Type 0} (f : X → Y) (xs : List X) (x : X) → map f (xs ++ x ∷ []) ≡ map f xs ++ f x ∷ []
map_behind f [] x = refl
map_behind f (y ∷ xs) x = ap (λ l. f y ∷ l) (map_behind f xs x)

-- the first of two parts fails
pub bind_fails : {X Y : Type 0} (r : TokenReader X) (f : X → TokenReader Y) (ts : List Token) (e : OrMemory (Bor (List Token))) → StopsAs e (r ts) → StopsAs e (bind r f ts)
bind_fails r f ts wanted.Memory k = tt
bind_fails r f ts (wanted.Fault rest) k = ap (λ o. o >>= λ x. f x.0 x.1) k

pub change_fails : {X Y : Type 0} (f : X → Y) (r : TokenReader X) (ts : List Token) (e : OrMemory (Bor (List Token))) → StopsAs e (r ts) → StopsAs e (map_read f r ts)
change_fails f r ts wanted.Memory k = tt
change_fails f r ts (wanted.Fault rest) k = ap (λ o. o >>= λ x. Ok (f x.0, x.1)) k

-- the second of two parts fails
pub second_fails : {X Y : Type 0} (r : TokenReader X) (f : X → TokenReader Y) (ts ys : List Token) (x : X) (e : OrMemory (Bor (List Token))) → r ts ≡ Ok (x, ys) → StopsAs e (f x ys) → StopsAs e (bind r f ts)
second_fails r f ts ys x e k h = fails_as e (f x ys) (bind r f ts) (sym (ap (λ o. o >>= λ p. f p.0 p.1) k)) h

pub front_fails : {X : Type 0} (made : List X) (out : Out (List X)) (zs : List Token) → with_front made out ≡ Err zs → out ≡ Err zs
front_fails made (Ok p) zs k = cc
front_fails made (Err ys) zs k = k

abbrev outcome : {X : Type 0} → X → List Token → Out X
outcome x ys = Ok (x, ys)

abbrev outcome_of : {X : Type 0} → X × List Token → Out X
outcome_of p = Ok p

pairs_same : {X : Type 0} (p q : X × List Token) → outcome_of p ≡ outcome_of q → p ≡ q
pairs_same p q e = cc

pub both_same : {X : Type 0} (a b : X) (xs ys : List Token) → outcome a xs ≡ outcome b ys → (a ≡ b) × (xs ≡ ys)
both_same a b xs ys e = let k = pairs_same (a, xs) (b, ys) e in (ap (λ p. p.0) k, ap (λ p. p.1) k)

-- nothing in front of what is read
front_empty : {X : Type 0} (out : Out (List X)) → with_front [] out ≡ out
front_empty (Ok p) = refl
front_empty (Err ys) = refl

pub front_none : {X : Type 0} (made : List X) (out : Out (List X)) → made ≡ [] → with_front made out ≡ out
front_none made out e = ap (λ l. with_front l out) e ∙ front_empty out

module _ {X Y : Type 0} (p : Test) (f : Token → X) (g : X → TokenReader Y) (h : Again p (bind (one_token p f) g)) where
  pub turn_fails : (made : List Y) (ts : List Token) (total : Out (List Y)) (x : X) (us : List Token) (e : OrMemory (Bor (List Token))) → with_front made (many p (bind (one_token p f) g) ts) ≡ total → first_token p f ts ≡ Some (x, us) → StopsAs e (g x us) → StopsAs e total
  turn_fails made ts total x us wanted.Memory i s k = tt
  turn_fails made ts total x us (wanted.Fault rest) i s k = sym i ∙ fails_led p f g h made ts x us rest.now s k

  pub turn_goes_plain : (made made' : List Y) (ts : List Token) (total : Out (List Y)) (x : X) (us : List Token) (z : Y) (ys : List Token) → with_front made (many p (bind (one_token p f) g) ts) ≡ total → first_token p f ts ≡ Some (x, us) → g x us ≡ Ok (z, ys) → made' ≡ made ++ z ∷ [] → with_front made' (many p (bind (one_token p f) g) ys) ≡ total
  turn_goes_plain made made' ts total x us z ys i s k e = ap (λ l. with_front l (many p (bind (one_token p f) g) ys)) e ∙ sym (goes_led p f g h made ts x us z ys s k) ∙ i

  pub turn_ends : (made : List Y) (ts : List Token) (total : Out (List Y)) → with_front made (many p (bind (one_token p f) g) ts) ≡ total → first_token p f ts ≡ None → total ≡ Ok (made, ts)
  turn_ends made ts total i s = sym i ∙ ends_led p f g h made ts s

-- the same turns where no token stands before the rule
module _ {X : Type 0} (p : Test) (r : TokenReader X) (h : Again p r) where
  pub step_fails : (made : List X) (ts : List Token) (total : Out (List X)) (e : OrMemory (Bor (List Token))) → with_front made (many p r ts) ≡ total → starts p ts ≡ true → StopsAs e (r ts) → StopsAs e total
  step_fails made ts total wanted.Memory i s k = tt
  step_fails made ts total (wanted.Fault rest) i s k = sym i ∙ fails_here p r h made ts rest.now s k

  pub step_goes : {Z : Type 0} (view : Z → X) (made made' : List Z) (ts : List Token) (total : Out (List X)) (z : Z) (ys : List Token) → with_front (map view made) (many p r ts) ≡ total → starts p ts ≡ true → r ts ≡ Ok (view z, ys) → made' ≡ made ++ z ∷ [] → with_front (map view made') (many p r ys) ≡ total
  step_goes view made made' ts total z ys i s k e =
      ap (λ l. with_front (map view l) (many p r ys)) e ∙ ap (λ l. with_front l (many p r ys)) (map_behind view made z) ∙ sym (goes_here p r h (map view made) ts (view z) ys s k) ∙ i

  pub step_goes_plain : (made made' : List X) (ts : List Token) (total : Out (List X)) (z : X) (ys : List Token) → with_front made (many p r ts) ≡ total → starts p ts ≡ true → r ts ≡ Ok (z, ys) → made' ≡ made ++ z ∷ [] → with_front made' (many p r ys) ≡ total
  step_goes_plain made made' ts total z ys i s k e = ap (λ l. with_front l (many p r ys)) e ∙ sym (goes_here p r h made ts z ys s k) ∙ i

  pub step_ends : (made : List X) (ts : List Token) (total : Out (List X)) → with_front made (many p r ts) ≡ total → starts p ts ≡ false → total ≡ Ok (made, ts)
  step_ends made ts total i s = sym i ∙ ends_here p r h made ts s
