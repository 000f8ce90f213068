-- The positions that are listed are those of the substream.
use Rattle.std.proofs.Common.{◌≡◌, refl, sym, ap, ap₂, subst, ◌∙◌, ℕ, Bool, true, false, ◌&&◌, List, [], ◌∷◌, length, Option, Some, None}
use Rattle.std.specs.Prelude.{◌==◌, slice_get, Contains, option_map, option_and_then}
use Rattle.std.specs.List.{list_all}
use Rattle.std.specs.Option.{option_map_or}
use Rattle.std.proofs.lemmas.Bool.Decides.{Decides-eqb}
use Rattle.std.proofs.lemmas.Option.{slice_get_within}
use Rattle.stream_schema.specs.Types.{Declared}
use Rattle.stream_schema.specs.declared.Event.{Event}
use Rattle.stream_schema.specs.declared.Value.{Value}
use Rattle.stream_schema.specs.Equality.{Decides-value}
use Rattle.cel_terms.specs.declared.Name.{Name}
use Rattle.cel_terms.specs.declared.Query.{Query}
use Rattle.cel_terms.specs.Predicate.{attr_value}
use Rattle.cel_terms.specs.Answers.{query_types, values_at, IsOfSubstream}
use Rattle.cel_terms.specs.EventsRead.{query_reads}
use Rattle.cel_lists.specs.Below.{below, both_same, same_attr, shares, shares_at, substream_positions}
use Rattle.cel_lists.proofs.Members.{Among, contains_from, among_from, any_among, among_any}
use Rattle.cel_lists.proofs.Sequences.{and_from, and_to}
use Rattle.cel_lists.proofs.Places.{below_to, below_from}

both_from : (o p : Option Value) → both_same o p ≡ true → (v : Value) × (o ≡ Some v) × (p ≡ Some v)
both_from None None e = absurd cc
both_from None (Some w) e = absurd cc
both_from (Some v) None e = absurd cc
both_from (Some v) (Some w) e = (v, refl, ap Some (sym ((Decides-value v w).0 e)))

both_to : (o p : Option Value) (v : Value) → o ≡ Some v → p ≡ Some v → both_same o p ≡ true
both_to o p v x y = ap₂ both_same x y ∙ (Decides-value v v).1 refl

-- the values of one attribute more
abbrev with_value : Option Value → Option (List Value) → Option (List Value)
with_value o p = option_and_then (λ v. option_map (λ vs. v ∷ vs) p) o

parts_of : (o : Option Value) (p : Option (List Value)) (key : List Value) → with_value o p ≡ Some key → (v : Value) × (vs : List Value) × (o ≡ Some v) × (p ≡ Some vs) × (key ≡ v ∷ vs)
parts_of None p key e = absurd cc
parts_of (Some v) None key e = absurd cc
parts_of (Some v) (Some vs) key e = (v, vs, refl, refl, cc)

pub keys_from : (schema : Declared) (a b : Event) (names : List Name) → list_all (same_attr schema a b) names ≡ true → (key : List Value) × (values_at schema names a ≡ Some key) × (values_at schema names b ≡ Some key)
keys_from schema a b [] e = ([], refl, refl)
keys_from schema a b (n ∷ ns) e =
    let s = and_from (same_attr schema a b n) (list_all (same_attr schema a b) ns) e in
    let v = both_from (attr_value schema a n.text) (attr_value schema b n.text) s.0 in
    let vs = keys_from schema a b ns s.1 in
    (v.0 ∷ vs.0, ap₂ with_value v.1 vs.1, ap₂ with_value v.2 vs.2)

pub keys_to : (schema : Declared) (a b : Event) (names : List Name) (key : List Value) → values_at schema names a ≡ Some key → values_at schema names b ≡ Some key → list_all (same_attr schema a b) names ≡ true
keys_to schema a b [] key x y = refl
keys_to schema a b (n ∷ ns) key x y =
    let p = parts_of (attr_value schema a n.text) (values_at schema ns a) key x in
    let q = parts_of (attr_value schema b n.text) (values_at schema ns b) key y in
    let same : p.0 ∷ p.1 ≡ q.0 ∷ q.1 = sym p.4 ∙ q.4 in
    let head : q.0 ≡ p.0 = cc in
    let tail : q.1 ≡ p.1 = cc in
    and_to (same_attr schema a b n) (list_all (same_attr schema a b) ns)
    (both_to (attr_value schema a n.text) (attr_value schema b n.text) p.0 p.2 (q.2 ∙ ap Some head))
    (keys_to schema a b ns p.1 p.3 (q.3 ∙ ap Some tail))

reads_from : (schema : Declared) (q : Query) (event : Event) → query_reads schema q event ≡ true → Contains (query_types schema q.streams) event.ty
reads_from schema q event e =
    let s = among_any (λ ty. ty == event.ty) (query_types schema q.streams) e in
    contains_from event.ty (query_types schema q.streams) (subst (λ (ty : ℕ). Among ty (query_types schema q.streams)) ((Decides-eqb s.0 event.ty).0 s.2) s.1)

reads_to : (schema : Declared) (q : Query) (event : Event) → Contains (query_types schema q.streams) event.ty → query_reads schema q event ≡ true
reads_to schema q event h = any_among (λ ty. ty == event.ty) event.ty (query_types schema q.streams) (among_from event.ty (query_types schema q.streams) h) ((Decides-eqb event.ty event.ty).1 refl)

pub some_from : (test : Event → Bool) (o : Option Event) → option_map_or test o false ≡ true → (event : Event) × (o ≡ Some event) × (test event ≡ true)
some_from test None e = absurd cc
some_from test (Some x) e = (x, refl, e)

listed_from : (schema : Declared) (q : Query) (events : List Event) (end p : ℕ) (o : Option Event) → slice_get events end ≡ o → Among p (option_map_or (λ there. below (shares_at schema q events there) (length events)) o []) → IsOfSubstream schema q events end p
listed_from schema q events end p None at h = absurd h
listed_from schema q events end p (Some there) at h =
    let b = below_from (shares_at schema q events there) (length events) p h in
    let s = some_from (λ here. shares schema q here there) (slice_get events p) b.1 in
    let r = and_from (query_reads schema q s.0) (query_reads schema q there && list_all (same_attr schema s.0 there) q.partition) s.2 in
    let t = and_from (query_reads schema q there) (list_all (same_attr schema s.0 there) q.partition) r.1 in
    let k = keys_from schema s.0 there q.partition t.1 in
    record {
      here = s.0;
      there = there;
      key = k.0;
      here_is = s.1;
      there_is = at;
      here_has = (reads_from schema q s.0 r.0, k.1);
      there_has = (reads_from schema q there t.0, k.2);
    }

-- A position that is listed is of the substream,
pub positions_from : (schema : Declared) (q : Query) (events : List Event) (end p : ℕ) → Contains (substream_positions schema q events end) p → IsOfSubstream schema q events end p
positions_from schema q events end p h = listed_from schema q events end p (slice_get events end) refl (among_from p (substream_positions schema q events end) h)

-- and each of the substream is listed.
pub positions_to : (schema : Declared) (q : Query) (events : List Event) (end p : ℕ) → IsOfSubstream schema q events end p → Contains (substream_positions schema q events end) p
positions_to schema q events end p i =
    let shared : shares schema q i.here i.there ≡ true =
    and_to (query_reads schema q i.here) (query_reads schema q i.there && list_all (same_attr schema i.here i.there) q.partition) (reads_to schema q i.here i.here_has.0)
    (and_to (query_reads schema q i.there) (list_all (same_attr schema i.here i.there) q.partition) (reads_to schema q i.there i.there_has.0) (keys_to schema i.here i.there q.partition i.key i.here_has.1 i.there_has.1)) in
    let passes : shares_at schema q events i.there p ≡ true = ap (λ o. option_map_or (λ here. shares schema q here i.there) o false) i.here_is ∙ shared in
    let listed : Among p (below (shares_at schema q events i.there) (length events)) = below_to (shares_at schema q events i.there) (length events) p (slice_get_within events p i.here i.here_is) passes in
    contains_from p (substream_positions schema q events end)
    (subst (λ (o : Option Event). Among p (option_map_or (λ there. below (shares_at schema q events there) (length events)) o [])) (sym i.there_is) listed)
