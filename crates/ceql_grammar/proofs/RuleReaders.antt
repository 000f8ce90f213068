-- What it means that a reader is exact for a rule, and that readers made of exact ones are exact.
use Rattle.std.proofs.Common.{◌≡◌, refl, sym, ◌∙◌, ap, subst, ℕ, suc, ◌<◌, Bool, true, false, List, [], ◌∷◌, ◌++◌, length, append_assoc, arith, length-append, append-nil}
use Rattle.std.specs.Prelude.{Ok, Err, if◌then◌else◌}
use Rattle.ceql_lexer.specs.declared.Token.{Token}
use Rattle.ceql_grammar.specs.RuleForms.{Rule, Out, TokenReader, ◌>>=◌, Test, Stops, Bind, bound, NoTokens, no_tokens, Mapped, mapped, One, one, Either, left, right, bind, give, map_read, one_token, starts, choose}

-- both lists are empty, or begin with the same token
abbrev pub Agrees : List Token → List Token → Type 0
Agrees [] us = us ≡ []
Agrees (t ∷ ts) us = (vs : List Token) × (us ≡ t ∷ vs)

-- the tokens that may follow a value and go on with it
abbrev pub Goes : Type 0 → Type 0
Goes X = X → Test

-- a front of the list is of the rule, and no token follows that could go on with it
pub record ReadTo {X : Type 0} (R : Rule X) (c : Goes X) (ts : List Token) (x : X) (ys : List Token) : Type 0 where
  pub part : List Token
  pub split : ts ≡ part ++ ys
  pub derived : R part x
  pub stops : Stops (c x) ys

-- there is no such front
pub record NoFront {X : Type 0} (R : Rule X) (c : Goes X) (ts : List Token) : Type 0 where
  pub none : (x : X) (ys : List Token) → ReadTo R c ts x ys → ⊥

-- there is no other such front, whatever stands after the first token that follows it
pub record ReadsAs {X : Type 0} (R : Rule X) (c : Goes X) (ts : List Token) (x : X) (ys : List Token) : Type 0 where
  pub here : ReadTo R c ts x ys
  pub only : (us : List Token) → Agrees ys us → (x' : X) (us' : List Token) → ReadTo R c (here.part ++ us) x' us' → (x ≡ x') × (us ≡ us')

-- what stands before the first of the tokens left can go on to the rule's end, but not with that token
pub record FailsAt {X : Type 0} (R : Rule X) (c : Goes X) (ts : List Token) (ys : List Token) : Type 0 where
  pub part : List Token
  pub split : ts ≡ part ++ ys
  pub more : List Token
  pub value : X
  pub viable : R (part ++ more) value
  pub stuck : (us : List Token) → Agrees ys us → NoFront R c (part ++ us)

abbrev pub Outcome : {X : Type 0} → Rule X → Goes X → List Token → Out X → Type 0
Outcome R c ts (Ok p) = ReadsAs R c ts p.0 p.1
Outcome R c ts (Err ys) = FailsAt R c ts ys

-- the reader is exact on lists of fewer tokens that begin with no token of the test
pub record Reads (a : Test) (n : ℕ) {X : Type 0} (R : Rule X) (c : Goes X) (r : TokenReader X) : Type 0 where
  pub reads : (ts : List Token) → length ts < n → Stops a ts → Outcome R c ts (r ts)

-- a value of the rule
pub record Filled {X : Type 0} (R : Rule X) : Type 0 where
  pub tokens : List Token
  pub value : X
  pub derived : R tokens value

-- what the rule derives begins with no token of the test, nor does what follows it where it is empty
pub record Shuns {X : Type 0} (R : Rule X) (d : Goes X) (c : Test) : Type 0 where
  pub shuns : (xs zs : List Token) (x : X) → R xs x → Stops (d x) zs → Stops c (xs ++ zs)

-- whatever the rule derives begins with a token of the test
pub record Begins {X : Type 0} (R : Rule X) (p : Test) : Type 0 where
  pub begins : (xs : List Token) (x : X) → R xs x → starts p xs ≡ true

pub stops_front : (c : Test) (xs ys us : List Token) → Agrees ys us → Stops c (xs ++ ys) → Stops c (xs ++ us)
stops_front c [] [] us a s = rw a tt
stops_front c [] (y ∷ ys) us a s = rw a.1 s
stops_front c (x ∷ xs) ys us a s = s

pub agrees_front : (xs ys us vs : List Token) → Agrees ys us → vs ≡ xs ++ ys → Agrees vs (xs ++ us)
agrees_front [] ys us vs a e = subst (λ ws. Agrees ws us) (sym e) a
agrees_front (x ∷ xs) ys us vs a e = subst (λ ws. Agrees ws (x ∷ xs ++ us)) (sym e) (xs ++ us, refl)

pub agrees_self : (ys : List Token) → Agrees ys ys
agrees_self [] = refl
agrees_self (y ∷ ys) = (ys, refl)

pub no_longer : {X : Type 0} (R : Rule X) (c : Goes X) (ts : List Token) (x : X) (ys : List Token) (n : ℕ) → ReadTo R c ts x ys → length ts < n → length ys < n
no_longer R c ts x ys n h l = let e = ap length h.split ∙ length-append h.part ys in omega arith

-- ONE RULE BEHIND ANOTHER

-- a front of a rule that binds, cut into its two parts
pub record Cut {X Y : Type 0} (R : Rule X) (S : X → Rule Y) (c : Goes X) (d : Goes Y) (ts : List Token) (y : Y) (zs : List Token) : Type 0 where
  pub value : X
  pub rest : List Token
  pub first : ReadTo R c ts value rest
  pub second : ReadTo (S value) d rest y zs

cut_at : {X Y : Type 0} (R : Rule X) (S : X → Rule Y) (c : Goes X) (d : Goes Y) (part : List Token) (y : Y) → Bind R S part y → (ts zs : List Token) → ts ≡ part ++ zs → Stops (d y) zs → ((x : X) → Shuns (S x) d (c x)) → Cut R S c d ts y zs
cut_at R S c d _ _ (bound {xs} {ys} {x} {y} r s) ts zs e stop shuns =
    record { value = x; rest = ys ++ zs; first = record { part = xs; split = e ∙ append_assoc xs ys zs; derived = r; stops = (shuns x).shuns ys zs y s stop }; second = record { part = ys; split = refl; derived = s; stops = stop } }

pub cut : {X Y : Type 0} (R : Rule X) (S : X → Rule Y) (c : Goes X) (d : Goes Y) (ts : List Token) (y : Y) (zs : List Token) → ((x : X) → Shuns (S x) d (c x)) → ReadTo (Bind R S) d ts y zs → Cut R S c d ts y zs
cut R S c d ts y zs shuns h = cut_at R S c d h.part y h.derived ts zs h.split h.stops shuns

no_first : {X Y : Type 0} (R : Rule X) (S : X → Rule Y) (c : Goes X) (d : Goes Y) (ts : List Token) → ((x : X) → Shuns (S x) d (c x)) → NoFront R c ts → NoFront (Bind R S) d ts
no_first R S c d ts shuns absent = record { none = λ y zs h. let k = cut R S c d ts y zs shuns h in absent.none k.value k.rest k.first }

-- the cut of a list whose first part was read
again : {X Y : Type 0} (R : Rule X) (S : X → Rule Y) (c : Goes X) (d : Goes Y) (ts : List Token) (x : X) (ys : List Token) → ((x : X) → Shuns (S x) d (c x)) → (h : ReadsAs R c ts x ys) → (us : List Token) → Agrees ys us → (y : Y) (zs : List Token) → ReadTo (Bind R S) d (h.here.part ++ us) y zs → ReadTo (S x) d us y zs
again R S c d ts x ys shuns h us a y zs r =
    let k = cut R S c d (h.here.part ++ us) y zs shuns r in
    let same = h.only us a k.value k.rest k.first in
    subst (λ v. ReadTo (S v) d us y zs) (sym same.0) (subst (λ vs. ReadTo (S k.value) d vs y zs) (sym same.1) k.second)

second_part : {X Y : Type 0} (R : Rule X) (S : X → Rule Y) (c : Goes X) (d : Goes Y) → ((x : X) → Shuns (S x) d (c x)) → (ts : List Token) (x : X) (ys : List Token) → ReadsAs R c ts x ys → (o : Out Y) → Outcome (S x) d ys o → Outcome (Bind R S) d ts o
second_part R S c d shuns ts x ys h (Ok p) k = record {
  here = record { part = h.here.part ++ k.here.part; split = h.here.split ∙ ap (λ us. h.here.part ++ us) k.here.split ∙ sym (append_assoc h.here.part k.here.part p.1); derived = bound h.here.derived k.here.derived; stops = k.here.stops };
  only = λ us a y zs r. k.only us a y zs (again R S c d ts x ys shuns h (k.here.part ++ us) (agrees_front k.here.part p.1 us ys a k.here.split) y zs (subst (λ vs. ReadTo (Bind R S) d vs y zs) (append_assoc h.here.part k.here.part us) r));
}
second_part R S c d shuns ts x ys h (Err zs) k = record {
  part = h.here.part ++ k.part;
  split = h.here.split ∙ ap (λ us. h.here.part ++ us) k.split ∙ sym (append_assoc h.here.part k.part zs);
  more = k.more;
  value = k.value;
  viable = rw append_assoc (bound h.here.derived k.viable);
  stuck = λ us a. record { none = λ y vs r. (k.stuck us a).none y vs (again R S c d ts x ys shuns h (k.part ++ us) (agrees_front k.part zs us ys a k.split) y vs (subst (λ ws. ReadTo (Bind R S) d ws y vs) (append_assoc h.here.part k.part us) r)) };
}

first_part : {X Y : Type 0} (R : Rule X) (S : X → Rule Y) (c : Goes X) (d : Goes Y) (m : ℕ) (f : X → TokenReader Y) → ((x : X) → Shuns (S x) d (c x)) → ((x : X) → Filled (S x)) → ((x : X) → Reads (c x) m (S x) d (f x)) → (ts : List Token) → ((x : X) (ys : List Token) → ReadTo R c ts x ys → length ys < m) → (o : Out X) → Outcome R c ts o → Outcome (Bind R S) d ts (o >>= λ p. f p.0 p.1)
first_part R S c d m f shuns filled reads ts shorter (Ok p) h = second_part R S c d shuns ts p.0 p.1 h (f p.0 p.1) ((reads p.0).reads p.1 (shorter p.0 p.1 h.here) h.here.stops)
first_part R S c d m f shuns filled reads ts shorter (Err ys) h =
    let rest = filled h.value in
    record { part = h.part; split = h.split; more = h.more ++ rest.tokens; value = rest.value; viable = rw (← append_assoc) (bound h.viable rest.derived); stuck = λ us a. no_first R S c d (h.part ++ us) shuns (h.stuck us a) }

-- a reader of two parts
pub reads_bind : {X Y : Type 0} (a : Test) (R : Rule X) (S : X → Rule Y) (c : Goes X) (d : Goes Y) (n : ℕ) (r : TokenReader X) (f : X → TokenReader Y) → ((x : X) → Shuns (S x) d (c x)) → ((x : X) → Filled (S x)) → Reads a n R c r → ((x : X) → Reads (c x) n (S x) d (f x)) → Reads a n (Bind R S) d (bind r f)
reads_bind a R S c d n r f shuns filled first second = record { reads = λ ts l s. first_part R S c d n f shuns filled second ts (λ x ys h. no_longer R c ts x ys n h l) (r ts) (first.reads ts l s) }

pub shorter_rest : {X : Type 0} (R : Rule X) (c : Goes X) (q : Test) (part : List Token) (ts : List Token) (ys : List Token) (n : ℕ) → starts q part ≡ true → ts ≡ part ++ ys → length ts < suc n → length ys < n
shorter_rest R c q [] ts ys n e split l = cc
shorter_rest R c q (x ∷ part) ts ys n e split l = let g = ap length split ∙ length-append (x ∷ part) ys in omega arith

-- after a rule that begins with some token, a reader that is exact on fewer tokens
pub reads_behind : {X Y : Type 0} (a : Test) (R : Rule X) (S : X → Rule Y) (c : Goes X) (d : Goes Y) (q : Test) (n : ℕ) (r : TokenReader X) (f : X → TokenReader Y) → Begins R q → ((x : X) → Shuns (S x) d (c x)) → ((x : X) → Filled (S x)) → Reads a (suc n) R c r → ((x : X) → Reads (c x) n (S x) d (f x)) → Reads a (suc n) (Bind R S) d (bind r f)
reads_behind a R S c d q n r f begins shuns filled first second = record { reads = λ ts l s. first_part R S c d n f shuns filled second ts (λ x ys h. shorter_rest R c q h.part ts ys n (begins.begins h.part x h.derived) h.split l) (r ts) (first.reads ts l s) }

-- VALUES CHANGED BY A FUNCTION

-- a front of a rule whose values are changed
pub record Before {X Y : Type 0} (f : X → Y) (R : Rule X) (c : Goes Y) (ts : List Token) (y : Y) (zs : List Token) : Type 0 where
  pub value : X
  pub is : f value ≡ y
  pub read : ReadTo R (λ x. c (f x)) ts value zs

before_at : {X Y : Type 0} (f : X → Y) (R : Rule X) (c : Goes Y) (part : List Token) (y : Y) → Mapped f R part y → (ts zs : List Token) → ts ≡ part ++ zs → Stops (c y) zs → Before f R c ts y zs
before_at f R c _ _ (mapped {xs} {x} r) ts zs e stop = record { value = x; is = refl; read = record { part = xs; split = e; derived = r; stops = stop } }

before : {X Y : Type 0} (f : X → Y) (R : Rule X) (c : Goes Y) (ts : List Token) (y : Y) (zs : List Token) → ReadTo (Mapped f R) c ts y zs → Before f R c ts y zs
before f R c ts y zs h = before_at f R c h.part y h.derived ts zs h.split h.stops

mapped_out : {X Y : Type 0} (f : X → Y) (R : Rule X) (c : Goes Y) (ts : List Token) (o : Out X) → Outcome R (λ x. c (f x)) ts o → Outcome (Mapped f R) c ts (o >>= λ p. Ok (f p.0, p.1))
mapped_out f R c ts (Ok p) h = record {
  here = record { part = h.here.part; split = h.here.split; derived = mapped h.here.derived; stops = h.here.stops };
  only = λ us a y zs r. let k = before f R c (h.here.part ++ us) y zs r in let same = h.only us a k.value zs k.read in (ap f same.0 ∙ k.is, same.1);
}
mapped_out f R c ts (Err ys) h = record {
  part = h.part;
  split = h.split;
  more = h.more;
  value = f h.value;
  viable = mapped h.viable;
  stuck = λ us a. record { none = λ y zs r. let k = before f R c (h.part ++ us) y zs r in (h.stuck us a).none k.value zs k.read };
}

pub reads_mapped : {X Y : Type 0} (a : Test) (f : X → Y) (R : Rule X) (c : Goes Y) (n : ℕ) (r : TokenReader X) → Reads a n R (λ x. c (f x)) r → Reads a n (Mapped f R) c (map_read f r)
reads_mapped a f R c n r h = record { reads = λ ts l s. mapped_out f R c ts (r ts) (h.reads ts l s) }

-- ONE TOKEN

-- no token goes on with the value
abbrev pub ends : {X : Type 0} → Goes X
ends x t = false

pub stops_ends : {X : Type 0} (x : X) (ts : List Token) → Stops (ends x) ts
stops_ends x [] = tt
stops_ends x (t ∷ ts) = refl

-- a front that is one token
pub record Head {X : Type 0} (p : Test) (f : Token → X) (ts : List Token) (x : X) (zs : List Token) : Type 0 where
  pub token : Token
  pub is : ts ≡ token ∷ zs
  pub passes : p token ≡ true
  pub value : f token ≡ x

head_at : {X : Type 0} (p : Test) (f : Token → X) (part : List Token) (x : X) → One p f part x → (ts zs : List Token) → ts ≡ part ++ zs → Head p f ts x zs
head_at p f _ _ (one {t} e) ts zs s = record { token = t; is = s; passes = e; value = refl }

pub head : {X : Type 0} (p : Test) (f : Token → X) (c : Goes X) (ts : List Token) (x : X) (zs : List Token) → ReadTo (One p f) c ts x zs → Head p f ts x zs
head p f c ts x zs h = head_at p f h.part x h.derived ts zs h.split

no_one_at : {X : Type 0} (p : Test) (f : Token → X) (t : Token) (ts us : List Token) → p t ≡ false → us ≡ t ∷ ts → NoFront (One p f) ends us
no_one_at p f t ts us e s = record { none = λ x ys h. let k = head p f ends us x ys h in cc }

no_one_here : {X : Type 0} (p : Test) (f : Token → X) → NoFront (One p f) ends []
no_one_here p f = record { none = λ x ys h. let k = head p f ends [] x ys h in cc }

one_out : {X : Type 0} (p : Test) (f : Token → X) (s : Token) (t : Token) (ts : List Token) → p s ≡ true → (b : Bool) → p t ≡ b → Outcome (One p f) ends (t ∷ ts) (if b then Ok (f t, ts) else Err (t ∷ ts))
one_out p f s t ts e true h = record {
  here = record { part = t ∷ []; split = refl; derived = one h; stops = stops_ends (f t) ts };
  only = λ us a x zs r. let k = head p f ends (t ∷ us) x zs r in (cc, cc);
}
one_out p f s t ts e false h = record { part = []; split = refl; more = s ∷ []; value = f s; viable = one e; stuck = λ us a. no_one_at p f t a.0 us h a.1 }

one_at : {X : Type 0} (p : Test) (f : Token → X) (s : Token) → p s ≡ true → (ts : List Token) → Outcome (One p f) ends ts (one_token p f ts)
one_at p f s e [] = record { part = []; split = refl; more = s ∷ []; value = f s; viable = one e; stuck = λ us a. rw a (no_one_here p f) }
one_at p f s e (t ∷ ts) = one_out p f s t ts e (p t) refl

-- one token is read exactly where some token passes the test
pub reads_one : {X : Type 0} (a : Test) (p : Test) (f : Token → X) (n : ℕ) (s : Token) → p s ≡ true → Reads a n (One p f) ends (one_token p f)
reads_one a p f n s e = record { reads = λ ts l _. one_at p f s e ts }

begins_one_at : {X : Type 0} (p : Test) (f : Token → X) (xs : List Token) (x : X) → One p f xs x → starts p xs ≡ true
begins_one_at p f _ _ (one e) = e

pub begins_one : {X : Type 0} (p : Test) (f : Token → X) → Begins (One p f) p
begins_one p f = record { begins = begins_one_at p f }

pub shuns_ends : {X : Type 0} (R : Rule X) (d : Goes X) → Shuns R d (λ t. false)
shuns_ends R d = record { shuns = λ xs zs x r s. stops_ends x (xs ++ zs) }

-- ONE OF TWO RULES

pub starts_more : (p : Test) (xs ys : List Token) → starts p xs ≡ true → starts p (xs ++ ys) ≡ true
starts_more p [] ys e = cc
starts_more p (x ∷ xs) ys e = e

pub starts_stops : (p : Test) (ts : List Token) → starts p ts ≡ true → Stops p ts → ⊥
starts_stops p [] e s = cc
starts_stops p (t ∷ ts) e s = cc

pub stops_starts : (p : Test) (ts : List Token) → starts p ts ≡ false → Stops p ts
stops_starts p [] e = tt
stops_starts p (t ∷ ts) e = e

pub starts_front : (p : Test) (b : Bool) (xs ys us : List Token) → Agrees ys us → starts p (xs ++ ys) ≡ b → starts p (xs ++ us) ≡ b
starts_front p b [] [] us a s = rw a s
starts_front p b [] (y ∷ ys) us a s = rw a.1 s
starts_front p b (x ∷ xs) ys us a s = s

-- what a front of either rule is a front of
data Side {X : Type 0} (R S : Rule X) (c : Goes X) (ts : List Token) (x : X) (zs : List Token) : Type 0 where
  at_left : ReadTo R c ts x zs → Side R S c ts x zs
  at_right : ReadTo S c ts x zs → Side R S c ts x zs

side_at : {X : Type 0} (R S : Rule X) (c : Goes X) (part : List Token) (x : X) → Either R S part x → (ts zs : List Token) → ts ≡ part ++ zs → Stops (c x) zs → Side R S c ts x zs
side_at R S c _ _ (left {xs} {x} r) ts zs e stop = at_left (record { part = xs; split = e; derived = r; stops = stop })
side_at R S c _ _ (right {xs} {x} r) ts zs e stop = at_right (record { part = xs; split = e; derived = r; stops = stop })

side : {X : Type 0} (R S : Rule X) (c : Goes X) (ts : List Token) (x : X) (zs : List Token) → ReadTo (Either R S) c ts x zs → Side R S c ts x zs
side R S c ts x zs h = side_at R S c h.part x h.derived ts zs h.split h.stops

begins_list : {X : Type 0} (R : Rule X) (c : Goes X) (p : Test) (ts : List Token) (x : X) (zs : List Token) → Begins R p → ReadTo R c ts x zs → starts p ts ≡ true
begins_list R c p ts x zs b h = rw h.split (starts_more p h.part zs (b.begins h.part x h.derived))

shuns_list : {X : Type 0} (S : Rule X) (c : Goes X) (p : Test) (ts : List Token) (x : X) (zs : List Token) → Shuns S c p → ReadTo S c ts x zs → Stops p ts
shuns_list S c p ts x zs b h = rw h.split (b.shuns h.part zs x h.derived h.stops)

-- where a token of the test stands in front, a front is of the first rule
of_left : {X : Type 0} (R S : Rule X) (c : Goes X) (p : Test) (ts : List Token) (x : X) (zs : List Token) → Shuns S c p → starts p ts ≡ true → ReadTo (Either R S) c ts x zs → ReadTo R c ts x zs
of_left R S c p ts x zs shuns e h = elim (side R S c ts x zs h) [ at_left k ↦ k | at_right k ↦ absurd (starts_stops p ts e (shuns_list S c p ts x zs shuns k)) ]

of_right : {X : Type 0} (R S : Rule X) (c : Goes X) (p : Test) (ts : List Token) (x : X) (zs : List Token) → Begins R p → starts p ts ≡ false → ReadTo (Either R S) c ts x zs → ReadTo S c ts x zs
of_right R S c p ts x zs begins e h = elim (side R S c ts x zs h) [ at_left k ↦ absurd (starts_stops p ts (begins_list R c p ts x zs begins k) (stops_starts p ts e)) | at_right k ↦ k ]

left_out : {X : Type 0} (R S : Rule X) (c : Goes X) (p : Test) (ts : List Token) → Shuns S c p → starts p ts ≡ true → (o : Out X) → Outcome R c ts o → Outcome (Either R S) c ts o
left_out R S c p ts shuns e (Ok q) h = record {
  here = record { part = h.here.part; split = h.here.split; derived = left h.here.derived; stops = h.here.stops };
  only = λ us a x zs r. h.only us a x zs (of_left R S c p (h.here.part ++ us) x zs shuns (starts_front p true h.here.part q.1 us a (rw h.here.split at e)) r);
}
left_out R S c p ts shuns e (Err ys) h = record {
  part = h.part;
  split = h.split;
  more = h.more;
  value = h.value;
  viable = left h.viable;
  stuck = λ us a. record { none = λ x zs r. (h.stuck us a).none x zs (of_left R S c p (h.part ++ us) x zs shuns (starts_front p true h.part ys us a (rw h.split at e)) r) };
}

right_out : {X : Type 0} (R S : Rule X) (c : Goes X) (p : Test) (ts : List Token) → Begins R p → starts p ts ≡ false → (o : Out X) → Outcome S c ts o → Outcome (Either R S) c ts o
right_out R S c p ts begins e (Ok q) h = record {
  here = record { part = h.here.part; split = h.here.split; derived = right h.here.derived; stops = h.here.stops };
  only = λ us a x zs r. h.only us a x zs (of_right R S c p (h.here.part ++ us) x zs begins (starts_front p false h.here.part q.1 us a (rw h.here.split at e)) r);
}
right_out R S c p ts begins e (Err ys) h = record {
  part = h.part;
  split = h.split;
  more = h.more;
  value = h.value;
  viable = right h.viable;
  stuck = λ us a. record { none = λ x zs r. (h.stuck us a).none x zs (of_right R S c p (h.part ++ us) x zs begins (starts_front p false h.part ys us a (rw h.split at e)) r) };
}

either_out : {X : Type 0} (R S : Rule X) (c : Goes X) (p : Test) (r s : TokenReader X) (ts : List Token) → Begins R p → Shuns S c p → (starts p ts ≡ true → Outcome R c ts (r ts)) → (starts p ts ≡ false → Outcome S c ts (s ts)) → (b : Bool) → starts p ts ≡ b → Outcome (Either R S) c ts (if b then r ts else s ts)
either_out R S c p r s ts begins shuns h k true e = left_out R S c p ts shuns e (r ts) (h e)
either_out R S c p r s ts begins shuns h k false e = right_out R S c p ts begins e (s ts) (k e)

pub reads_either : {X : Type 0} (a : Test) (R S : Rule X) (c : Goes X) (p : Test) (n : ℕ) (r s : TokenReader X) → Begins R p → Shuns S c p → Reads a n R c r → Reads a n S c s → Reads a n (Either R S) c (choose p r s)
reads_either a R S c p n r s begins shuns h k = record { reads = λ ts l stop. either_out R S c p r s ts begins shuns (λ _. h.reads ts l stop) (λ _. k.reads ts l stop) (starts p ts) refl }

-- A RULE OR NOTHING

nothing_at : {X : Type 0} (v : X) (part : List Token) (x : X) → NoTokens v part x → (ts zs : List Token) → ts ≡ part ++ zs → (v ≡ x) × (ts ≡ zs)
nothing_at v _ _ no_tokens ts zs e = (refl, e)

pub nothing_out : {X : Type 0} (v : X) (c : Goes X) (ts : List Token) → Stops (c v) ts → Outcome (NoTokens v) c ts (Ok (v, ts))
nothing_out v c ts stop = record {
  here = record { part = []; split = refl; derived = no_tokens; stops = stop };
  only = λ us a x zs r. nothing_at v r.part x r.derived us zs r.split;
}

shuns_nothing_at : {X : Type 0} (v : X) (c : Goes X) (p : Test) → ((ts : List Token) → Stops (c v) ts → Stops p ts) → (xs zs : List Token) (x : X) → NoTokens v xs x → Stops (c x) zs → Stops p (xs ++ zs)
shuns_nothing_at v c p same _ zs _ no_tokens stop = same zs stop

pub shuns_nothing : {X : Type 0} (v : X) (c : Goes X) (p : Test) → ((ts : List Token) → Stops (c v) ts → Stops p ts) → Shuns (NoTokens v) c p
shuns_nothing v c p same = record { shuns = λ xs zs x r stop. shuns_nothing_at v c p same xs zs x r stop }

-- a rule or nothing: nothing is followed by no token with which the rule begins
pub reads_maybe : {X : Type 0} (a : Test) (R : Rule X) (v : X) (c : Goes X) (p : Test) (n : ℕ) (r : TokenReader X) → Begins R p → ((ts : List Token) → Stops p ts → Stops a ts → Stops (c v) ts) → ((ts : List Token) → Stops (c v) ts → Stops p ts) → Reads a n R c r → Reads a n (Either R (NoTokens v)) c (choose p r (give v))
reads_maybe a R v c p n r begins to from h = record { reads = λ ts l stop. either_out R (NoTokens v) c p r (give v) ts begins (shuns_nothing v c p from) (λ _. h.reads ts l stop) (λ e. nothing_out v c ts (to ts (stops_starts p ts e) stop)) (starts p ts) refl }

-- RULES THAT HOLD THEMSELVES

-- how two ways to cut one list differ
pub data Cuts (xs ys xs' ys' : List Token) : Type 0 where
  same : ys ≡ ys' → Cuts xs ys xs' ys'
  earlier : (t : Token) (us : List Token) → xs' ≡ xs ++ (t ∷ us) → ys ≡ t ∷ us ++ ys' → Cuts xs ys xs' ys'
  later : (t : Token) (us : List Token) → xs ≡ xs' ++ (t ∷ us) → ys' ≡ t ∷ us ++ ys → Cuts xs ys xs' ys'

cuts_behind : (x x' : Token) (xs ys xs' ys' : List Token) → x ≡ x' → Cuts xs ys xs' ys' → Cuts (x ∷ xs) ys (x' ∷ xs') ys'
cuts_behind x x' xs ys xs' ys' e (same g) = same g
cuts_behind x x' xs ys xs' ys' e (earlier t us g h) = earlier t us (cc) h
cuts_behind x x' xs ys xs' ys' e (later t us g h) = later t us (cc) h

pub cuts : (xs ys xs' ys' : List Token) → xs ++ ys ≡ xs' ++ ys' → Cuts xs ys xs' ys'
cuts [] ys [] ys' e = same e
cuts [] ys (x ∷ xs') ys' e = earlier x xs' refl e
cuts (x ∷ xs) ys [] ys' e = later x xs refl (sym e)
cuts (x ∷ xs) ys (x' ∷ xs') ys' e = cuts_behind x x' xs ys xs' ys' (cc) (cuts xs ys xs' ys' (cc))

-- a text that a rule derives goes on from no place where the rule is stuck
viable_stuck : {X : Type 0} (R : Rule X) (c : Goes X) (ts ys ts' zs : List Token) (h : FailsAt R c ts ys) (k : FailsAt R c ts' zs) (t : Token) (us vs : List Token) → k.part ≡ h.part ++ (t ∷ us) → ys ≡ t ∷ vs → ⊥
viable_stuck R c ts ys ts' zs h k t us vs e f =
    (h.stuck (t ∷ us ++ k.more) (agrees_front [] ys _ ys (rw f (us ++ k.more, refl)) refl)).none k.value [] (record { part = k.part ++ k.more; split = sym (append-nil _ ∙ ap (λ ws. ws ++ k.more) e ∙ append_assoc h.part (t ∷ us) k.more); derived = k.viable; stops = tt })

same_failure : {X : Type 0} (R : Rule X) (c : Goes X) (ts ys zs : List Token) (h : FailsAt R c ts ys) (k : FailsAt R c ts zs) → Cuts h.part ys k.part zs → ys ≡ zs
same_failure R c ts ys zs h k (same e) = e
same_failure R c ts ys zs h k (earlier t us e f) = absurd (viable_stuck R c ts ys ts zs h k t us _ e f)
same_failure R c ts ys zs h k (later t us e f) = absurd (viable_stuck R c ts zs ts ys k h t us _ e f)

at_part : {X : Type 0} (R : Rule X) (c : Goes X) (ts us : List Token) (x : X) (ys : List Token) → ts ≡ us → ReadTo R c ts x ys → ReadTo R c us x ys
at_part R c ts us x ys e h = subst (λ vs. ReadTo R c vs x ys) e h

same_out : {X : Type 0} (R : Rule X) (c : Goes X) (ts : List Token) (o o' : Out X) → Outcome R c ts o → Outcome R c ts o' → o ≡ o'
same_out R c ts (Ok p) (Ok q) h k = let e = h.only p.1 (agrees_self p.1) q.0 q.1 (at_part R c ts _ q.0 q.1 h.here.split k.here) in ap (λ p. Ok p) (ap (λ x. (x, p.1)) e.0 ∙ ap (λ zs. (q.0, zs)) e.1)
same_out R c ts (Ok p) (Err zs) h k = absurd ((k.stuck zs (agrees_self zs)).none p.0 p.1 (at_part R c ts _ p.0 p.1 k.split h.here))
same_out R c ts (Err ys) (Ok q) h k = absurd ((h.stuck ys (agrees_self ys)).none q.0 q.1 (at_part R c ts _ q.0 q.1 h.split k.here))
same_out R c ts (Err ys) (Err zs) h k = ap (λ us. Err us) (same_failure R c ts ys zs h k (cuts h.part ys k.part zs (sym h.split ∙ k.split)))

-- two readers that are exact agree
pub agree : {X : Type 0} (a : Test) (R : Rule X) (c : Goes X) (n m : ℕ) (r r' : TokenReader X) → Reads a n R c r → Reads a m R c r' → (ts : List Token) → length ts < n → length ts < m → Stops a ts → r ts ≡ r' ts
agree a R c n m r r' h k ts l l' s = same_out R c ts (r ts) (r' ts) (h.reads ts l s) (k.reads ts l' s)

-- nothing is read before every token
pub reads_give : {X : Type 0} (a : Test) (v : X) (n : ℕ) → Reads a n (NoTokens v) ends (give v)
reads_give a v n = record { reads = λ ts l s. nothing_out v ends ts (stops_ends v ts) }

pub reads_give_at : {X : Type 0} (a : Test) (v : X) (c : Goes X) (n : ℕ) → ((ts : List Token) → Stops a ts → Stops (c v) ts) → Reads a n (NoTokens v) c (give v)
reads_give_at a v c n to = record { reads = λ ts l s. nothing_out v c ts (to ts s) }
