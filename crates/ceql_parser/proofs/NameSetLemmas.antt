-- Lists with the same names: how they are made, and that a test finds in one what it finds in the other.
use Rattle.std.proofs.Common.{◌≡◌, refl, sym, ap, ap₂, ◌∙◌, subst, ℕ, zero, suc, ◌+◌, ◌<◌, ◌≤◌, add-one, Bool, true, false, cond, ◌||◌, List, [], ◌∷◌, ◌++◌, map, Option, None, Some, length, take, drop, get_or, append_assoc, append-nil, arith}
use Rattle.std.proofs.Math.Seq.{drop-cons}
use Rattle.std.specs.Prelude.{String, string_bytes, bytes_eq, flat_map, Result, Ok, Err, IfOk, OnOk}
use Rattle.std.specs.List.{list_any}
use Rattle.std.specs.HashSet.{HashSet, UpdatesBy}
use Rattle.std.specs.Option.{option_or}
use Rattle.std.specs.String.{string_eq}
use Rattle.std.specs.declared.alloc.Global.{Global}
use Rattle.std.proofs.lemmas.Map.Text.{hash_set_updates_text}
use Rattle.std.proofs.lemmas.Slice.Eq.{bytes_eq-Decides}
use Rattle.cer_base.specs.declared.OrMemory.{OrMemory}
use Rattle.cer_base.specs.declared.OrMemory.TheVariants as wanted
use Rattle.stream_schema.specs.Types.{DeclaredType}
use Rattle.cel_terms.specs.declared.Name.{Name}
use Rattle.cel_terms.specs.declared.Filter.{Filter, On, Row_of-Filter, end_of-Filter, more_of-Filter}
use Rattle.cel_terms.specs.declared.Filter as filter
use Rattle.cel_terms.specs.declared.Postfix.{Postfix}
use Rattle.cel_terms.specs.declared.Postfix.TheVariants.{Plus, NextPlus, Named, Keep}
use Rattle.cel_terms.specs.Meaning.{lists_name}
use Rattle.cel_terms.specs.Checked.{names_after}
use Rattle.ceql_grammar.specs.declared.faults.QueryFault.TheVariants.{UnknownName}
use Rattle.ceql_grammar.specs.declared.faults.QueryError.{QueryError}
use Rattle.ceql_parser.specs.FirstFaults.{first_in, unless_named, FindsFault}
use Rattle.ceql_parser.specs.FormulaFaults.{name_fault, pred_fault, filter_fault, filters_fault, postfix_fault, postfixes_fault}
use Rattle.ceql_parser.specs.NameSets.{HaveSameNames}
use Rattle.ceql_parser.proofs.NamesListed.{lists_append}

-- LISTS

pub same_self : (a : List (List ℕ)) → HaveSameNames a a
same_self a = record { at = λ n. refl }

pub same_as : (a b c : List (List ℕ)) → HaveSameNames a b → b ≡ c → HaveSameNames a c
same_as a b c s e = record { at = λ n. s.at n ∙ ap (λ ns. lists_name ns n) e }

pub same_turned : (a b : List (List ℕ)) → HaveSameNames a b → HaveSameNames b a
same_turned a b s = record { at = λ n. sym (s.at n) }

pub same_then : (a b c : List (List ℕ)) → HaveSameNames a b → HaveSameNames b c → HaveSameNames a c
same_then a b c s t = record { at = λ n. s.at n ∙ t.at n }

pub same_both : (a b x y : List (List ℕ)) → HaveSameNames a b → HaveSameNames x y → HaveSameNames (a ++ x) (b ++ y)
same_both a b x y s t = record { at = λ n. lists_append a x n ∙ ap₂ (λ p q. p || q) (s.at n) (t.at n) ∙ sym (lists_append b y n) }

or_turned : (a b : Bool) → (a || b) ≡ (b || a)
or_turned true true = refl
or_turned true false = refl
or_turned false true = refl
or_turned false false = refl

pub same_changed : (a b : List (List ℕ)) → HaveSameNames (a ++ b) (b ++ a)
same_changed a b = record { at = λ n. lists_append a b n ∙ or_turned (lists_name a n) (lists_name b n) ∙ sym (lists_append b a n) }

-- SETS

bytes_turned : (a b : List ℕ) → bytes_eq a b ≡ bytes_eq b a
bytes_turned a b = cases (bytes_eq a b) (bytes_eq b a) refl refl
  where
    cases : (p q : Bool) → bytes_eq a b ≡ p → bytes_eq b a ≡ q → p ≡ q
    cases true true e f = refl
    cases false false e f = refl
    cases true false e f = sym ((bytes_eq-Decides b a).1 (sym ((bytes_eq-Decides a b).0 e))) ∙ f
    cases false true e f = sym e ∙ (bytes_eq-Decides a b).1 (sym ((bytes_eq-Decides b a).0 f))

-- a set has a name where its texts have
pub has_is : (keys : List (String Global)) (name : List ℕ) → list_any (λ k. bytes_eq name (string_bytes k)) keys ≡ lists_name (map string_bytes keys) name
has_is [] name = refl
has_is (k ∷ ks) name = ap₂ (λ p q. p || q) (bytes_turned name (string_bytes k)) (has_is ks name)

-- a name that is there already adds nothing
pub known_added : (a : List (List ℕ)) (name : List ℕ) → lists_name a name ≡ true → HaveSameNames a (a ++ name ∷ [])
known_added a name e = record { at = λ n. cases n (bytes_eq name n) (lists_name a n) refl refl ∙ sym (lists_append a (name ∷ []) n) }
  where
    cases : (n : List ℕ) (b p : Bool) → bytes_eq name n ≡ b → lists_name a n ≡ p → lists_name a n ≡ (lists_name a n || (bytes_eq name n || false))
    cases n true p f g = let known : lists_name a n ≡ true = sym (ap (lists_name a) ((bytes_eq-Decides name n).0 f)) ∙ e in known ∙ sym (ap (λ q. q || (bytes_eq name n || false)) known)
    cases n false true f g = g ∙ sym (ap (λ q. q || (bytes_eq name n || false)) g)
    cases n false false f g = g ∙ sym (ap₂ (λ q r. q || (r || false)) g f)

-- a new name is added at the end
pub new_added : {S : Type 0} (s n : HashSet (String Global) S) (name : List ℕ) → UpdatesBy string_eq (λ k. bytes_eq name (string_bytes k)) s n true → HaveSameNames (map string_bytes n.keys) (map string_bytes s.keys ++ name ∷ [])
new_added s n name u = record { at = λ q. sym (has_is n.keys q) ∙ hash_set_updates_text name s n true u q ∙ cases (bytes_eq name q) (lists_name (map string_bytes s.keys) q) _ (has_is s.keys q) ∙ sym (lists_append (map string_bytes s.keys) (name ∷ []) q) }
  where
    cases : (b p r : Bool) → r ≡ p → cond b true r ≡ (p || (b || false))
    cases true true r e = refl
    cases true false r e = refl
    cases false true r e = e
    cases false false r e = e

-- WALKS

more_listed : {X : Type 0} (f : X → List (List ℕ)) (xs : List X) (i : ℕ) (d : X) → i < length xs → flat_map f (take (suc i) xs) ≡ flat_map f (take i xs) ++ f (get_or xs i d)
more_listed f [] i d h = absurd (omega (arith, h))
more_listed f (x ∷ xs) zero d h = append-nil (f x)
more_listed f (x ∷ xs) (suc i) d h = ap (λ ns. f x ++ ns) (more_listed f xs i d (omega arith)) ∙ sym (append_assoc (f x) (flat_map f (take i xs)) (f (get_or xs i d)))

-- one item more, whose names are added
pub same_more : {X : Type 0} (f : X → List (List ℕ)) (xs : List X) (i : ℕ) (x : X) (start now new : List (List ℕ)) → i < length xs → x ≡ get_or xs i x → HaveSameNames now (start ++ flat_map f (take i xs)) → HaveSameNames new (now ++ f x) → HaveSameNames new (start ++ flat_map f (take (i + 1) xs))
same_more f xs i x start now new h at s t =
    let all = flat_map f (take i xs) in
    same_as new ((start ++ all) ++ f x) (start ++ flat_map f (take (i + 1) xs))
    (same_then new (now ++ f x) ((start ++ all) ++ f x) t (same_both now (start ++ all) (f x) (f x) s (same_self (f x))))
    (append_assoc start all (f x) ∙ ap (λ ns. start ++ ns) (ap (λ y. all ++ f y) at ∙ sym (rw add-one (more_listed f xs i x h))))

more_mapped : {X : Type 0} (f : X → List ℕ) (xs : List X) (i : ℕ) (d : X) → i < length xs → map f (take (suc i) xs) ≡ map f (take i xs) ++ f (get_or xs i d) ∷ []
more_mapped f [] i d h = absurd (omega (arith, h))
more_mapped f (x ∷ xs) zero d h = refl
more_mapped f (x ∷ xs) (suc i) d h = ap (λ ns. f x ∷ ns) (more_mapped f xs i d (omega arith))

-- one name more
pub same_next : {X : Type 0} (f : X → List ℕ) (xs : List X) (i : ℕ) (x : X) (start now new : List (List ℕ)) → i < length xs → x ≡ get_or xs i x → HaveSameNames now (start ++ map f (take i xs)) → HaveSameNames new (now ++ f x ∷ []) → HaveSameNames new (start ++ map f (take (i + 1) xs))
same_next f xs i x start now new h at s t =
    let all = map f (take i xs) in
    same_as new ((start ++ all) ++ f x ∷ []) (start ++ map f (take (i + 1) xs))
    (same_then new (now ++ f x ∷ []) ((start ++ all) ++ f x ∷ []) t (same_both now (start ++ all) (f x ∷ []) (f x ∷ []) s (same_self (f x ∷ []))))
    (append_assoc start all (f x ∷ []) ∙ ap (λ ns. start ++ ns) (ap (λ y. all ++ f y ∷ []) at ∙ sym (rw add-one (more_mapped f xs i x h))))

take_all : {X : Type 0} (xs : List X) (i : ℕ) → length xs ≤ i → take i xs ≡ xs
take_all [] zero h = refl
take_all [] (suc i) h = refl
take_all (x ∷ xs) zero h = absurd (omega (arith, h))
take_all (x ∷ xs) (suc i) h = ap (λ l. x ∷ l) (take_all xs i (omega (arith, h)))

-- all items
pub same_all : {X : Type 0} (f : X → List (List ℕ)) (xs : List X) (i : ℕ) (start names : List (List ℕ)) → length xs ≤ i → HaveSameNames names (start ++ flat_map f (take i xs)) → HaveSameNames names (start ++ flat_map f xs)
same_all f xs i start names h s = same_as names (start ++ flat_map f (take i xs)) (start ++ flat_map f xs) s (ap (λ l. start ++ flat_map f l) (take_all xs i h))

pub same_listed : {X : Type 0} (f : X → List ℕ) (xs : List X) (i : ℕ) (start names : List (List ℕ)) → length xs ≤ i → HaveSameNames names (start ++ map f (take i xs)) → HaveSameNames names (start ++ map f xs)
same_listed f xs i start names h s = same_as names (start ++ map f (take i xs)) (start ++ map f xs) s (ap (λ l. start ++ map f l) (take_all xs i h))

-- where a call answered names, they are the same as others too
pub ok_same : {E : Type 0} (r : Result (List (List ℕ)) E) (l m : List (List ℕ)) → HaveSameNames l m → IfOk r (λ n. HaveSameNames n l) → IfOk r (λ n. HaveSameNames n m)
ok_same (Ok names) l m s h = same_then names l m h s
ok_same (Err e) l m s h = tt

pub on_ok_same : {T E : Type 0} (r : Result T E) (n l m : List (List ℕ)) → HaveSameNames l m → OnOk r (HaveSameNames n l) → OnOk r (HaveSameNames n m)
on_ok_same (Ok value) n l m s h = same_then n l m h s
on_ok_same (Err e) n l m s h = tt

-- FAULTS

pub known_same : (a b : List (List ℕ)) → HaveSameNames a b → (n : Name) → name_fault a n ≡ name_fault b n
known_same a b s n = ap (λ t. unless_named t UnknownName n) (s.at n.text)

pub listed_same : (a b : List (List ℕ)) → HaveSameNames a b → (ns : List Name) → first_in (name_fault a) ns ≡ first_in (name_fault b) ns
listed_same a b s [] = refl
listed_same a b s (n ∷ ns) = ap₂ (λ o p. option_or o p) (known_same a b s n) (listed_same a b s ns)

mutual
  filter_same : (types : List DeclaredType) (a b : List (List ℕ)) → HaveSameNames a b → (f : Filter) → filter_fault types a f ≡ filter_fault types b f
  filter_same types a b s (On name pred) = ap (λ o. option_or o (pred_fault types pred)) (known_same a b s name)
  filter_same types a b s (filter.All' n row) = filters_same types a b s row
  filter_same types a b s (filter.Any' n row) = filters_same types a b s row

  filters_same : (types : List DeclaredType) (a b : List (List ℕ)) → HaveSameNames a b → {m : _} → (row : Row_of-Filter m) → filters_fault types a row ≡ filters_fault types b row
  filters_same types a b s end_of-Filter = refl
  filters_same types a b s (more_of-Filter f rest) = ap₂ (λ o p. option_or o p) (filter_same types a b s f) (filters_same types a b s rest)

pub all_filters_same : (types : List DeclaredType) (a b : List (List ℕ)) → HaveSameNames a b → (fs : List Filter) → first_in (filter_fault types a) fs ≡ first_in (filter_fault types b) fs
all_filters_same types a b s [] = refl
all_filters_same types a b s (f ∷ fs) = ap₂ (λ o p. option_or o p) (filter_same types a b s f) (all_filters_same types a b s fs)

postfix_same : (types : List DeclaredType) (a b : List (List ℕ)) → HaveSameNames a b → (p : Postfix) → postfix_fault types a p ≡ postfix_fault types b p
postfix_same types a b s Plus = refl
postfix_same types a b s NextPlus = refl
postfix_same types a b s (Named n) = refl
postfix_same types a b s (Keep listed) = listed_same a b s listed

one_after_same : (a b : List (List ℕ)) → HaveSameNames a b → (p : Postfix) → HaveSameNames (names_after a (p ∷ [])) (names_after b (p ∷ []))
one_after_same a b s Plus = s
one_after_same a b s NextPlus = s
one_after_same a b s (Named n) = same_both a b (n.text ∷ []) (n.text ∷ []) s (same_self (n.text ∷ []))
one_after_same a b s (Keep listed) = same_self (map (λ n. n.text) listed)

-- the names after a postfix, and then after the later ones
after_one : (a : List (List ℕ)) (p : Postfix) (ps : List Postfix) → names_after a (p ∷ ps) ≡ names_after (names_after a (p ∷ [])) ps
after_one a Plus ps = refl
after_one a NextPlus ps = refl
after_one a (Named n) ps = refl
after_one a (Keep listed) ps = refl

pub after_same : (a b : List (List ℕ)) → HaveSameNames a b → (ps : List Postfix) → HaveSameNames (names_after a ps) (names_after b ps)
after_same a b s [] = s
after_same a b s (p ∷ ps) =
    same_as (names_after a (p ∷ ps)) (names_after (names_after b (p ∷ [])) ps) (names_after b (p ∷ ps))
    (same_turned _ _ (same_as _ _ _ (same_turned _ _ (after_same (names_after a (p ∷ [])) (names_after b (p ∷ [])) (one_after_same a b s p) ps)) (sym (after_one a p ps))))
    (sym (after_one b p ps))

pub postfixes_same : (types : List DeclaredType) (a b : List (List ℕ)) → HaveSameNames a b → (ps : List Postfix) → postfixes_fault types a ps ≡ postfixes_fault types b ps
postfixes_same types a b s [] = refl
postfixes_same types a b s (p ∷ ps) = ap₂ (λ o q. option_or o q) (postfix_same types a b s p) (postfixes_same types (names_after a (p ∷ [])) (names_after b (p ∷ [])) (one_after_same a b s p) ps)

-- What is left of postfixes, once those before are walked with the names so far.
pub record AreWalked (types : List DeclaredType) (start now : List (List ℕ)) (all left : List Postfix) : Type 0 where
  pub fault : postfixes_fault types start all ≡ postfixes_fault types now left
  pub names : HaveSameNames (names_after now left) (names_after start all)

pub walk_begins : (types : List DeclaredType) (start : List (List ℕ)) (all : List Postfix) → AreWalked types start start all all
walk_begins types start all = record { fault = refl; names = same_self (names_after start all) }

skips : {Y : Type 0} (o p : Option Y) → o ≡ None → option_or o p ≡ p
skips None p e = refl
skips (Some y) p e = absurd cc

walk_one : (types : List DeclaredType) (start now new : List (List ℕ)) (all left : List Postfix) (p : Postfix) → AreWalked types start now all (p ∷ left) → postfix_fault types now p ≡ None → HaveSameNames new (names_after now (p ∷ [])) → AreWalked types start new all left
walk_one types start now new all left p w none s = record {
  fault = w.fault ∙ skips (postfix_fault types now p) (postfixes_fault types (names_after now (p ∷ [])) left) none ∙ postfixes_same types (names_after now (p ∷ [])) new (same_turned new (names_after now (p ∷ [])) s) left;
  names = same_then (names_after new left) (names_after now (p ∷ left)) (names_after start all)
      (same_as (names_after new left) (names_after (names_after now (p ∷ [])) left) (names_after now (p ∷ left)) (after_same new (names_after now (p ∷ [])) s left) (sym (after_one now p left)))
      w.names;
}

pub walk_goes : (types : List DeclaredType) (start now new : List (List ℕ)) (all : List Postfix) (i : ℕ) (p : Postfix) → i < length all → p ≡ get_or all i p → AreWalked types start now all (drop i all) → postfix_fault types now p ≡ None → HaveSameNames new (names_after now (p ∷ [])) → AreWalked types start new all (drop (i + 1) all)
walk_goes types start now new all i p h at w none s =
    rw add-one (walk_one types start now new all (drop (suc i) all) p (subst (λ q. AreWalked types start now all (q ∷ drop (suc i) all)) (sym at) (subst (λ l. AreWalked types start now all l) (drop-cons all i p h) w)) none s)

stops : {Y : Type 0} (o p : Option Y) (y : Y) → o ≡ Some y → option_or o p ≡ Some y
stops None p y e = absurd cc
stops (Some z) p y e = e

pub walk_told : (T U : Type 0) (types : List DeclaredType) (start now : List (List ℕ)) (all : List Postfix) (i : ℕ) (p : Postfix) (stop : OrMemory QueryError) → i < length all → p ≡ get_or all i p → AreWalked types start now all (drop i all) → FindsFault {T = T} (Err stop) (postfix_fault types now p) → FindsFault {T = U} (Err stop) (postfixes_fault types start all)
walk_told T U types start now all i p (wanted.Fault e) h at w told =
    w.fault ∙ ap (postfixes_fault types now) (drop-cons all i p h)
    ∙ stops (postfix_fault types now (get_or all i p)) (postfixes_fault types (names_after now (get_or all i p ∷ [])) (drop (suc i) all)) e (ap (postfix_fault types now) (sym at) ∙ told)
walk_told T U types start now all i p wanted.Memory h at w told = tt

drop_all : {X : Type 0} (xs : List X) (i : ℕ) → length xs ≤ i → drop i xs ≡ []
drop_all [] zero h = refl
drop_all [] (suc i) h = refl
drop_all (x ∷ xs) zero h = absurd (omega (arith, h))
drop_all (x ∷ xs) (suc i) h = drop_all xs i (omega (arith, h))

walk_over : (types : List DeclaredType) (start now : List (List ℕ)) (all : List Postfix) → AreWalked types start now all [] → (postfixes_fault types start all ≡ None) × HaveSameNames now (names_after start all)
walk_over types start now all w = (w.fault, w.names)

pub walk_ends : (types : List DeclaredType) (start now : List (List ℕ)) (all : List Postfix) (i : ℕ) → length all ≤ i → AreWalked types start now all (drop i all) → (postfixes_fault types start all ≡ None) × HaveSameNames now (names_after start all)
walk_ends types start now all i h w = walk_over types start now all (subst (λ l. AreWalked types start now all l) (drop_all all i h) w)
