-- What reading functions that put values behind a list need, over plain values.
use Rattle.std.proofs.Common.{◌≡◌, refl, sym, ◌∙◌, ap, subst, ℕ, List, [], ◌∷◌, ◌++◌, map, length, length-append, arith, ◌≤◌, Bor, Bool}
use Rattle.std.proofs.lemmas.List.{length-map}
use Rattle.std.specs.Prelude.{Option, Some, None, Result, Ok, Err, if◌then◌else◌}
use Rattle.cer_base.specs.declared.OrMemory.{OrMemory}
use Rattle.cer_base.specs.declared.OrMemory.TheVariants as wanted
use Rattle.ceql_lexer.specs.declared.Token.{Token}
use Rattle.ceql_grammar.specs.ReadResults.{ReadsBehind, ReadsOnto, ReadsPast, StopsAs}
use Rattle.ceql_grammar.specs.PartlyRead.{with_front}
use Rattle.ceql_grammar.specs.WordsAndSigns.{is}
use Rattle.ceql_grammar.specs.RuleReaders.{closed, led_or, mark_token, no_value}
use Rattle.ceql_grammar.specs.RuleForms.{Out, TokenReader, ◌>>=◌, bind, map_read, when, first_token}
use Rattle.ceql_grammar.proofs.LoopExits.{fails_as, bind_fails, change_fails, second_fails, front_fails, both_same, map_behind}

abbrev pub Rest : Type 0
Rest = Result (Bor (List Token)) (OrMemory (Bor (List Token)))

-- the exit of a `?`
pub behind_exit : {X Y : Type 0} (view : X → Y) (old new : List X) (r : Rest) (x e : OrMemory (Bor (List Token))) → r ≡ Err x → x ≡ e → (out : Out Y) → StopsAs e out → ReadsBehind view old new r out
behind_exit view old new r x e p q out h = subst (λ r. ReadsBehind view old new r out) (sym (p ∙ ap (λ e. Err e) q)) h

pub onto_exit : {X Y : Type 0} (view : X → Y) (new : List X) (r : Rest) (x e : OrMemory (Bor (List Token))) → r ≡ Err x → x ≡ e → (out : Out (List Y)) → StopsAs e out → ReadsOnto view new r out
onto_exit view new r x e p q out h = subst (λ r. ReadsOnto view new r out) (sym (p ∙ ap (λ e. Err e) q)) h

-- a value is put behind the others
pub added : {X Y : Type 0} (view : X → Y) (old new : List X) (x : X) → new ≡ old ++ x ∷ [] → map view new ≡ map view old ++ view x ∷ []
added view old new x e = ap (map view) e ∙ map_behind view old x

-- a value is read behind none
pub only_behind : {X Y : Type 0} (view : X → Y) (old new : List X) (y : Y) → old ≡ [] → map view new ≡ map view old ++ y ∷ [] → map view new ≡ y ∷ []
only_behind view old new y e k = k ∙ ap (λ l. map view l ++ y ∷ []) e

-- a list with one value more is no shorter than one that was no longer
pub one_longer : {X Y : Type 0} (view : X → Y) (first old new : List X) (y : Y) → length first ≤ length old → map view new ≡ map view old ++ y ∷ [] → length first ≤ length new
one_longer view first old new y l k =
    let n = sym (length-map new view) ∙ ap length k ∙ length-append (map view old) (y ∷ []) in
    let o = length-map old view in
    omega (arith, l, n, o)

-- a reader after a word or a sign, else another
module _ {X Y : Type 0} (view : X → Y) (old new : List X) (mark : List ℕ) (r s : TokenReader Y) (ts : List Token) where
  pub after_mark : (us : List Token) → first_token (is mark) no_value ts ≡ Some (tt, us) → (q : Rest) → ReadsBehind view old new q (r us) → ReadsBehind view old new q (led_or mark r s ts)
  after_mark us k q h = subst (ReadsBehind view old new q) (sym (ap (λ o. when o (λ _. r) (s ts)) k)) h

  pub without_mark : first_token (is mark) no_value ts ≡ None → (q : Rest) → ReadsBehind view old new q (s ts) → ReadsBehind view old new q (led_or mark r s ts)
  without_mark k q h = subst (ReadsBehind view old new q) (sym (ap (λ o. when o (λ _. r) (s ts)) k)) h

-- a reader that a truth value picks
pub picked : {X Y : Type 0} (view : X → Y) (old new : List X) (r s : TokenReader Y) (ts : List Token) (q : Rest) (b c : Bool) → b ≡ c → ReadsBehind view old new q ((if c then r else s) ts) → ReadsBehind view old new q ((if b then r else s) ts)
picked view old new r s ts q b c e h = subst (λ b. ReadsBehind view old new q ((if b then r else s) ts)) (sym e) h

-- what stands between two signs, the first of which stands in front
module _ {X Y : Type 0} (view : X → Y) (old new : List X) (opening closing : List ℕ) (r s : TokenReader Y) (ts : List Token) where
  module _ (us : List Token) (k : first_token (is opening) no_value ts ≡ Some (tt, us)) where
    opened : led_or opening (closed closing r) s ts ≡ closed closing r us
    opened = ap (λ o. when o (λ _. closed closing r) (s ts)) k

    pub parens_fail : (e : OrMemory (Bor (List Token))) → StopsAs e (r us) → StopsAs e (led_or opening (closed closing r) s ts)
    parens_fail e h = fails_as e (closed closing r us) (led_or opening (closed closing r) s ts) (sym opened) (bind_fails r (λ x. map_read (λ _. x) (mark_token closing)) us e h)

    pub parens_end : (vs : List Token) (y : Y) → map view new ≡ map view old ++ y ∷ [] → r us ≡ Ok (y, vs) → (q : Rest) → ReadsPast q (mark_token closing vs) → ReadsBehind view old new q (led_or opening (closed closing r) s ts)
    parens_end vs y m g (Ok rest) h = (y, (m, opened ∙ ap (λ o. o >>= λ p. map_read (λ _. p.0) (mark_token closing) p.1) g ∙ ap (λ o. o >>= λ q. Ok (y, q.1)) h))
    parens_end vs y m g (Err e) h = fails_as e (closed closing r us) (led_or opening (closed closing r) s ts) (sym opened)
        (second_fails r (λ x. map_read (λ _. x) (mark_token closing)) us vs y e g (change_fails (λ _. y) (mark_token closing) vs e h))

-- the only value of a list, changed
pub changed_alone : {Y Z : Type 0} (f : Y → Z) (joined : List Y → Y) → ((y : Y) → joined (y ∷ []) ≡ y) → (r : TokenReader Y) (ts us : List Token) (y : Y) (ys : List Y) → ys ≡ y ∷ [] → r ts ≡ Ok (y, us) → map_read f r ts ≡ Ok (f (joined ys), us)
changed_alone f joined is r ts us y ys e k = ap (λ o. o >>= λ p. Ok (f p.0, p.1)) k ∙ ap (λ z. Ok (f z, us)) (sym (ap joined e ∙ is y))

-- what is read between two signs, changed
module _ {X Y : Type 0} (f : X → Y) (r : TokenReader X) (s : TokenReader Y) (opening closing : List ℕ) (ts : List Token) where
  changed_out : (o : Out X) → (o >>= λ p. map_read (λ _. f p.0) (mark_token closing) p.1) ≡ ((o >>= λ p. Ok (f p.0, p.1)) >>= λ q. map_read (λ _. q.0) (mark_token closing) q.1)
  changed_out (Ok p) = refl
  changed_out (Err ys) = refl

  changed_when : (o : Option (Unit {0} × List Token)) → when o (λ _. bind r (λ x. map_read (λ _. f x) (mark_token closing))) (s ts) ≡ when o (λ _. closed closing (map_read f r)) (s ts)
  changed_when (Some q) = changed_out (r q.1)
  changed_when None = refl

  pub changed_inside : led_or opening (bind r (λ x. map_read (λ _. f x) (mark_token closing))) s ts ≡ led_or opening (closed closing (map_read f r)) s ts
  changed_inside = changed_when (first_token (is opening) no_value ts)

-- two values, changed as a pair
module _ {X W Z : Type 0} (f : X × W → Z) (r : TokenReader X) (m : TokenReader W) (ts : List Token) where
  second_out : (x : X) (o : Out W) → ((o >>= λ p. Ok ((x, p.0), p.1)) >>= λ q. Ok (f q.0, q.1)) ≡ (o >>= λ p. Ok (f (x, p.0), p.1))
  second_out x (Ok p) = refl
  second_out x (Err ys) = refl

  first_out : (o : Out X) → ((o >>= λ p. map_read (λ w. (p.0, w)) m p.1) >>= λ q. Ok (f q.0, q.1)) ≡ (o >>= λ p. map_read (λ w. f (p.0, w)) m p.1)
  first_out (Ok p) = second_out p.0 (m p.1)
  first_out (Err ys) = refl

  pub changed_pair : map_read f (bind r (λ x. map_read (λ w. (x, w)) m)) ts ≡ bind r (λ x. map_read (λ w. f (x, w)) m) ts
  changed_pair = first_out (r ts)

-- a first value, which stands alone in a list, and a second one
module _ {X W Z : Type 0} (r : TokenReader X) (m : TokenReader W) (join : X → W → Z) (joined : List X → X) (is : (x : X) → joined (x ∷ []) ≡ x) (x : X) (xs : List X) (ts ys : List Token) (k : r ts ≡ Ok (x, ys)) (l : xs ≡ x ∷ []) where
  paired : bind r (λ x. map_read (join x) m) ts ≡ map_read (join (joined xs)) m ys
  paired = ap (λ o. o >>= λ p. map_read (join p.0) m p.1) k ∙ ap (λ x. map_read (join x) m ys) (sym (ap joined l ∙ is x))

  pub pair_goes : (w : W) (zs : List Token) → m ys ≡ Ok (w, zs) → bind r (λ x. map_read (join x) m) ts ≡ Ok (join (joined xs) w, zs)
  pair_goes w zs h = paired ∙ ap (λ o. o >>= λ p. Ok (join (joined xs) p.0, p.1)) h

-- the second one is read by a call that puts both behind a list
pub tail_goes : {V X W Z : Type 0} (view : V → Z) (old new : List V) (q : Rest) (r : TokenReader X) (m : TokenReader W) (join : X → W → Z) (joined : List X → X) → ((x : X) → joined (x ∷ []) ≡ x) → (x : X) (xs : List X) (ts ys : List Token) → r ts ≡ Ok (x, ys) → xs ≡ x ∷ [] → ReadsBehind view old new q (map_read (join (joined xs)) m ys) → ReadsBehind view old new q (bind r (λ x. map_read (join x) m) ts)
tail_goes view old new q r m join joined is x xs ts ys k l h = subst (ReadsBehind view old new q) (sym (paired r m join joined is x xs ts ys k l)) h

-- a first value and the list after it, as one value
module _ {X Z : Type 0} (r : TokenReader X) (m : TokenReader (List X)) (join : X → List X → Z) (x : X) (xs : List X) (ts ys : List Token) (k : r ts ≡ Ok (x, ys)) (l : xs ≡ x ∷ []) where
  joined_here : bind r (λ x. map_read (join x) m) ts ≡ map_read (join x) m ys
  joined_here = ap (λ o. o >>= λ x. map_read (join x.0) m x.1) k

  pub joint_fails : (e : OrMemory (Bor (List Token))) → StopsAs e (with_front xs (m ys)) → StopsAs e (bind r (λ x. map_read (join x) m) ts)
  joint_fails wanted.Memory h = tt
  joint_fails (wanted.Fault rest) h = joined_here ∙ ap (λ o. o >>= λ q. Ok (join x q.0, q.1)) (front_fails xs (m ys) rest.now h)

  joint_out : (o : Out (List X)) (us : List X) (zs : List Token) (joined : List X → Z) → ((x : X) (xs : List X) → join x xs ≡ joined (x ∷ xs)) → with_front (x ∷ []) o ≡ Ok (us, zs) → (o >>= λ q. Ok (join x q.0, q.1)) ≡ Ok (joined us, zs)
  joint_out (Ok q) us zs joined is h =
      let k = both_same (x ∷ q.0) us q.1 zs h in
      ap (λ z. Ok (z, q.1)) (is x q.0 ∙ ap joined k.0) ∙ ap (λ zs. Ok (joined us, zs)) k.1
  joint_out (Err ys) us zs joined is h = cc

  pub joint_goes : (us : List X) (zs : List Token) (joined : List X → Z) → ((x : X) (xs : List X) → join x xs ≡ joined (x ∷ xs)) → with_front xs (m ys) ≡ Ok (us, zs) → bind r (λ x. map_read (join x) m) ts ≡ Ok (joined us, zs)
  joint_goes us zs joined is h = joined_here ∙ joint_out (m ys) us zs joined is (ap (λ l. with_front l (m ys)) (sym l) ∙ h)
