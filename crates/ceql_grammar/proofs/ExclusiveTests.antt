-- Which tests of words and signs exclude one another: the tests are lists of marks, so that computing on
-- the lists decides it.
use Rattle.std.proofs.Common.{◌≡◌, refl, ◌∙◌, ℕ, Bool, true, false, List, [], ◌∷◌}
use Rattle.std.specs.Prelude.{bytes_eq, codes, if◌then◌else◌}
use Rattle.std.proofs.lemmas.Slice.Eq.{bytes_eq-Decides}
use Rattle.ceql_lexer.specs.declared.Token.{Token}
use Rattle.ceql_lexer.specs.declared.TokenKind.{TokenKind}
use Rattle.ceql_lexer.specs.declared.TokenKind.TheVariants as kind
use Rattle.ceql_grammar.specs.WordsAndSigns.{among, is_name_token, is_name_kind, spelled}
use Rattle.ceql_grammar.specs.RuleForms.{Stops}

abbrev pub member : List ℕ → List (List ℕ) → Bool
member m [] = false
member m (n ∷ ns) = if bytes_eq m n then true else member m ns

-- no mark of the first list is in the second
abbrev pub disjoint : List (List ℕ) → List (List ℕ) → Bool
disjoint [] cs = true
disjoint (p ∷ ps) cs = if member p cs then false else disjoint ps cs

-- each mark of the first list is in one of the others
abbrev pub covered : List (List ℕ) → List (List ℕ) → List (List ℕ) → Bool
covered [] ps qs = true
covered (r ∷ rs) ps qs = if member r ps then covered rs ps qs else (if member r qs then covered rs ps qs else false)

-- a token that spells a mark is among those with the mark
among_spelled : (cs : List (List ℕ)) (t : Token) (m : List ℕ) → spelled t.kind t.text ≡ m → among cs t ≡ member m cs
among_spelled [] t m e = refl
among_spelled (c ∷ cs) t m e = rw (e, among_spelled cs t m e)

pub apart_word : (p : List ℕ) (t : Token) → bytes_eq (spelled t.kind t.text) p ≡ true → spelled t.kind t.text ≡ p
apart_word p t e = (bytes_eq-Decides (spelled t.kind t.text) p).0 e

apart_at : (p : List ℕ) (ps cs : List (List ℕ)) (t : Token) (b : Bool) → bytes_eq (spelled t.kind t.text) p ≡ b → (member p cs ≡ false) → (among ps t ≡ true → among cs t ≡ false) → (if b then true else among ps t) ≡ true → among cs t ≡ false
apart_at p ps cs t true e out rest h = among_spelled cs t p (apart_word p t e) ∙ out
apart_at p ps cs t false e out rest h = rest h

disjoint_head : (b : Bool) (c : Bool) → (if b then false else c) ≡ true → (b ≡ false) × (c ≡ true)
disjoint_head true c e = cc
disjoint_head false c e = (refl, e)

-- a token of the first list is none of the second
pub apart : (ps cs : List (List ℕ)) → disjoint ps cs ≡ true → (t : Token) → among ps t ≡ true → among cs t ≡ false
apart [] cs d t e = cc
apart (p ∷ ps) cs d t e = let k = disjoint_head (member p cs) (disjoint ps cs) d in apart_at p ps cs t (bytes_eq (spelled t.kind t.text) p) refl k.0 (apart ps cs k.1 t) e

member_at : (m : List ℕ) (c : List ℕ) (cs : List (List ℕ)) (t : Token) (b : Bool) → bytes_eq m c ≡ b → spelled t.kind t.text ≡ m → (member m cs ≡ true → among cs t ≡ true) → (if b then true else member m cs) ≡ true → (if b then true else among cs t) ≡ true
member_at m c cs t true e s rest h = refl
member_at m c cs t false e s rest h = rest h

-- a token whose mark is in the list is among it
among_member : (cs : List (List ℕ)) (t : Token) (m : List ℕ) → spelled t.kind t.text ≡ m → member m cs ≡ true → among cs t ≡ true
among_member cs t m e h = among_spelled cs t m e ∙ h

-- what is not among a list spells none of its marks
not_member : (cs : List (List ℕ)) (t : Token) (m : List ℕ) → among cs t ≡ false → spelled t.kind t.text ≡ m → member m cs ≡ true → ⊥
not_member cs t m e s h = let k = among_member cs t m s h in cc

covered_at : (r : List ℕ) (rs ps qs : List (List ℕ)) (t : Token) (b : Bool) → bytes_eq (spelled t.kind t.text) r ≡ b → (a c : Bool) → member r ps ≡ a → member r qs ≡ c → (if a then covered rs ps qs else (if c then covered rs ps qs else false)) ≡ true → among ps t ≡ false → among qs t ≡ false → (covered rs ps qs ≡ true → among rs t ≡ false) → (if b then true else among rs t) ≡ false
covered_at r rs ps qs t true e true c h k g np nq rest = absurd (not_member ps t r np (apart_word r t e) h)
covered_at r rs ps qs t true e false true h k g np nq rest = absurd (not_member qs t r nq (apart_word r t e) k)
covered_at r rs ps qs t true e false false h k g np nq rest = cc
covered_at r rs ps qs t false e true c h k g np nq rest = rest g
covered_at r rs ps qs t false e false true h k g np nq rest = rest g
covered_at r rs ps qs t false e false false h k g np nq rest = cc

-- a token that is in neither list is in none that they cover
none_of : (rs ps qs : List (List ℕ)) → covered rs ps qs ≡ true → (t : Token) → among ps t ≡ false → among qs t ≡ false → among rs t ≡ false
none_of [] ps qs g t np nq = refl
none_of (r ∷ rs) ps qs g t np nq = covered_at r rs ps qs t (bytes_eq (spelled t.kind t.text) r) refl (member r ps) (member r qs) refl refl g np nq (λ h. none_of rs ps qs h t np nq)

within_at : (ps qs : List (List ℕ)) (t : Token) (b : Bool) → among qs t ≡ b → (among qs t ≡ false → among ps t ≡ false) → among ps t ≡ true → among qs t ≡ true
within_at ps qs t true e f h = e
within_at ps qs t false e f h = let k = f e in cc

-- a token of a list is one of each list that covers it
pub within : (ps qs : List (List ℕ)) → covered ps qs [] ≡ true → (t : Token) → among ps t ≡ true → among qs t ≡ true
within ps qs g t h = within_at ps qs t (among qs t) refl (λ e. none_of ps qs [] g t e refl) h

-- the same of what stands in front of a list
pub stops_both : (rs ps qs : List (List ℕ)) → covered rs ps qs ≡ true → (ts : List Token) → Stops (among ps) ts → Stops (among qs) ts → Stops (among rs) ts
stops_both rs ps qs g [] s u = tt
stops_both rs ps qs g (t ∷ ts) s u = none_of rs ps qs g t s u

pub stops_some : (rs ps : List (List ℕ)) → covered rs ps [] ≡ true → (ts : List Token) → Stops (among ps) ts → Stops (among rs) ts
stops_some rs ps g [] s = tt
stops_some rs ps g (t ∷ ts) s = none_of rs ps [] g t s refl

name_spells : (k : TokenKind) (text : List ℕ) → is_name_kind k ≡ true → spelled k text ≡ []
name_spells kind.Name text e = refl
name_spells kind.Keyword text e = cc
name_spells kind.Number text e = cc
name_spells kind.Decimal text e = cc
name_spells kind.Quoted text e = cc
name_spells kind.Sign text e = cc
name_spells kind.End text e = cc

-- a name is no word and no sign
pub name_apart : (cs : List (List ℕ)) → member [] cs ≡ false → (t : Token) → is_name_token t ≡ true → among cs t ≡ false
name_apart cs d t e = among_spelled cs t [] (name_spells t.kind t.text e) ∙ d

-- TOKENS OF EACH KIND, as examples

abbrev pub example : TokenKind → List ℕ → Token
example k text = record { kind = k; text = text; place = record { line = 1; col = 1 } }

-- a keyword in capitals
abbrev pub a_word : List ℕ → Token
a_word text = example kind.Keyword text

abbrev pub a_sign : List ℕ → Token
a_sign text = example kind.Sign text

abbrev pub a_name : Token
a_name = example kind.Name (codes "a")

abbrev pub a_number : Token
a_number = example kind.Number (codes "1")
