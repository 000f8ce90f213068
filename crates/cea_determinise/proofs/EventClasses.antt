-- The class of an event: where a set stands in a list without repeats, and what is there once a new one is put in. For callers of the crate too.
use Rattle.std.proofs.Common.{◌≡◌, ℕ, zero, suc, ◌+◌, ◌<◌, Bool, true, false, cond, List, [], ◌∷◌, ◌++◌, length, refl, sym, ap, ◌∙◌, Contains, Option, Some, None, IfSome, slice_get, arith}
use Rattle.std.specs.List.{list_any, position, position_from}
use Rattle.std.specs.Cmp.{decided}
use Rattle.std.proofs.lemmas.Bool.{false≢true}
use Rattle.std.proofs.lemmas.List.{append-nil}
use Rattle.std.proofs.lemmas.List.Elements.{All-nil}
use Rattle.std.proofs.lemmas.Iterator.Adapters.{position_from-zero}
use Rattle.std.proofs.lemmas.Map.Views.{list_any-from_Contains}
use Rattle.indexmap.specs.IndexSet.{insert_key}
use Rattle.cea_determinise.specs.LazyDfa.{Table, AddsEventClass, event_class_at}
use Rattle.cea_determinise.specs.Keys.{is_same_set, Decides-set}

place : {X : Type 0} (test : X → Bool) (k : ℕ) (xs : List X) (n : ℕ) → position_from test k xs ≡ Some n → (i : ℕ) × (n ≡ k + i) × (x : X) × (slice_get xs i ≡ Some x) × (test x ≡ true)
place test k [] n e = absurd cc
place {X} test k (x ∷ xs) n e = go (test x) refl e (place test (k + 1) xs n)
  where
    go : (b : Bool) → test x ≡ b → cond b (Some k) (position_from test (k + 1) xs) ≡ Some n → (position_from test (k + 1) xs ≡ Some n → (i : ℕ) × (n ≡ k + 1 + i) × (y : X) × (slice_get xs i ≡ Some y) × (test y ≡ true)) → (i : ℕ) × (n ≡ k + i) × (y : X) × (slice_get (x ∷ xs) i ≡ Some y) × (test y ≡ true)
    go true t e rest = (0, (let same : k ≡ n = cc in omega arith), x, refl, t)
    go false t e rest = let r = rest e in let s = r.1 in (suc r.0, omega arith, r.2, r.3, r.4)

-- the place that is found is the set's
pub event_class_found : (bits : List Bool) (event_classes : List (List Bool)) (n : ℕ) → position (is_same_set bits) event_classes ≡ Some n → slice_get event_classes n ≡ Some bits
event_class_found bits event_classes n e =
    let p = place (is_same_set bits) 0 event_classes n (sym (position_from-zero (is_same_set bits) event_classes) ∙ e) in
    let i : n ≡ p.0 = (let s = p.1 in omega arith) in
    let same : bits ≡ p.2 = (Decides-set bits p.2).0 p.4 in
    ap (slice_get event_classes) i ∙ (p.3 ∙ ap Some (sym same))

-- likewise of an answer that may be none
pub event_class_if_found : (bits : List Bool) (event_classes : List (List Bool)) (o : Option ℕ) → o ≡ position (is_same_set bits) event_classes → IfSome o (λ n. slice_get event_classes n ≡ Some bits)
event_class_if_found bits event_classes None e = tt
event_class_if_found bits event_classes (Some n) e = event_class_found bits event_classes n (sym e)

-- where none is found the set is not there
pub event_class_absent : (bits : List Bool) (event_classes : List (List Bool)) → list_any (is_same_set bits) event_classes ≡ false → Contains event_classes bits → ⊥
event_class_absent bits event_classes e c = false≢true (sym e ∙ list_any-from_Contains (decided is_same_set Decides-set) bits event_classes c)

-- a set that is not there is put last
pub event_class_last : (bits : List Bool) (event_classes : List (List Bool)) → list_any (is_same_set bits) event_classes ≡ false → insert_key is_same_set event_classes bits ≡ event_classes ++ bits ∷ []
event_class_last bits event_classes none = go (list_any (is_same_set bits) event_classes) none
  where
    go : (b : Bool) → b ≡ false → cond b event_classes (event_classes ++ bits ∷ []) ≡ event_classes ++ bits ∷ []
    go true e = absurd (false≢true (sym e))
    go false e = refl

-- the stored set is the one given
pub event_class_stored : (bits stored : List Bool) (event_classes : List (List Bool)) (n : ℕ) → slice_get event_classes n ≡ Some stored → is_same_set bits stored ≡ true → slice_get event_classes n ≡ Some bits
event_class_stored bits stored event_classes n at e = at ∙ ap Some (sym ((Decides-set bits stored).0 e))

pub adds_none : (bits : List Bool) (t : Table) → AddsEventClass bits t t
adds_none bits t = record { more = []; only = All-nil _; grown = sym (ap (λ cs. record t { event_classes = cs }) (append-nil t.event_classes)) }

-- the leaves of a class that is there
pub event_class_is : (event_classes : List (List Bool)) (n : ℕ) (bits : List Bool) → slice_get event_classes n ≡ Some bits → event_class_at event_classes n ≡ bits
event_class_is [] n bits e = absurd cc
event_class_is (b ∷ bs) zero bits e = cc
event_class_is (b ∷ bs) (suc n) bits e = event_class_is bs n bits e

pub event_class_within : (event_classes : List (List Bool)) (n : ℕ) (bits : List Bool) → slice_get event_classes n ≡ Some bits → n < length event_classes
event_class_within [] n bits e = absurd cc
event_class_within (b ∷ bs) zero bits e = omega arith
event_class_within (b ∷ bs) (suc n) bits e = let h = event_class_within bs n bits e in omega arith
