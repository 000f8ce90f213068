-- Rows that are looked at: those that wait for nothing, or for a query that may have an open match.
use Rattle.std.proofs.Common.{◌≡◌, refl, sym, ap, subst, ◌∙◌, ℕ, ◌+◌, ◌<◌, ◌≤◌, ◌⊎◌, inl, inr, Bool, true, false, ◌||◌, eqb, if◌then◌else◌, List, [], ◌∷◌, ◌++◌, length, take, slice_index_or, Contains, arith}
use Rattle.std.proofs.lemmas.Bool.{false≢true}
use Rattle.std.proofs.lemmas.List.Elements.{filter-append, Contains-push, Contains-push_cases, Contains-append_left, Contains-append_right, Contains-append_cases}
use Rattle.std.proofs.lemmas.List.{take_more, take_all}
use Rattle.cer_base.specs.Bits.{has}
use Rattle.stream_schema.specs.declared.Event.{Event}
use Rattle.predicate_bits.specs.Ranges.{AsksFor}
use Rattle.query_index.specs.declared.rows.LeafRow.{LeafRow}
use Rattle.query_index.specs.declared.rows.IndexedLeaf.{IndexedLeaf}
use Rattle.query_index.specs.declared.rows.TheConstants.{NONE}
use Rattle.query_index.specs.declared.index.Index.{Index}
use Rattle.query_index.specs.TextPrefilters.{AsksToOpen}
use Rattle.query_index.specs.Rows.{Table, IsRowOf, IsRowBelow, AreBelow, HaveReader, AreReaders, WaitAlike, is_awake, awake, Marks}
use Rattle.query_index.specs.Index.{gathered, AreIndexes, Suffice}
use Rattle.query_index.proofs.Listed.{marks_more, marks_past}
use Rattle.query_index.proofs.Indexed.{gathered_push, marks_sufficed, same_suffice}

pub awake_first : (open_queries : List Bool) (row : LeafRow) (rows : List LeafRow) → is_awake open_queries row ≡ true → awake open_queries (row ∷ rows) ≡ row ∷ awake open_queries rows
awake_first open_queries row rows is = ap (λ b. if b then row ∷ awake open_queries rows else awake open_queries rows) is

pub asleep_first : (open_queries : List Bool) (row : LeafRow) (rows : List LeafRow) → is_awake open_queries row ≡ false → awake open_queries (row ∷ rows) ≡ awake open_queries rows
asleep_first open_queries row rows is = ap (λ b. if b then row ∷ awake open_queries rows else awake open_queries rows) is

first_or_later : (r : LeafRow) (rows : List LeafRow) (row : LeafRow) → Contains (r ∷ rows) row → (r ≡ row) ⊎ Contains rows row
first_or_later r rows row h = elim (Contains-append_cases (r ∷ []) rows row h) [
  | inl one ↦ elim (Contains-push_cases [] r row one) [ inl none ↦ absurd (let l = none.1 in omega arith) | inr same ↦ inl same ]
  | inr later ↦ inr later
]

-- what is listed and looked at, and the other way round
there_awake : (open_queries : List Bool) (rows : List LeafRow) (row : LeafRow) → Contains rows row → is_awake open_queries row ≡ true → Contains (awake open_queries rows) row
there_awake open_queries [] row h is = absurd (let l = h.1 in omega arith)
there_awake open_queries (r ∷ rows) row h is = by (is_awake open_queries r) refl (first_or_later r rows row h) (λ later. there_awake open_queries rows row later is)
  where
    by : (b : Bool) → is_awake open_queries r ≡ b → (r ≡ row) ⊎ Contains rows row → (Contains rows row → Contains (awake open_queries rows) row) → Contains (awake open_queries (r ∷ rows)) row
    by true e (inl same) rest = subst (λ rs. Contains rs row) (sym (awake_first open_queries r rows e)) (Contains-append_left (r ∷ []) (awake open_queries rows) row (subst (Contains (r ∷ [])) same (Contains-push [] r)))
    by true e (inr later) rest = subst (λ rs. Contains rs row) (sym (awake_first open_queries r rows e)) (Contains-append_right (r ∷ []) (awake open_queries rows) row (rest later))
    by false e (inl same) rest = absurd (false≢true (sym e ∙ (ap (is_awake open_queries) same ∙ is)))
    by false e (inr later) rest = subst (λ rs. Contains rs row) (sym (asleep_first open_queries r rows e)) (rest later)

from_awake : (open_queries : List Bool) (rows : List LeafRow) (row : LeafRow) → Contains (awake open_queries rows) row → Contains rows row × (is_awake open_queries row ≡ true)
from_awake open_queries [] row h = absurd (let l = h.1 in omega arith)
from_awake open_queries (r ∷ rows) row h = by (is_awake open_queries r) refl h (from_awake open_queries rows row)
  where
    by : (b : Bool) → is_awake open_queries r ≡ b → Contains (awake open_queries (r ∷ rows)) row → (Contains (awake open_queries rows) row → Contains rows row × (is_awake open_queries row ≡ true)) → Contains (r ∷ rows) row × (is_awake open_queries row ≡ true)
    by true e h rest = elim (first_or_later r (awake open_queries rows) row (subst (λ rs. Contains rs row) (awake_first open_queries r rows e) h)) [
      | inl same ↦ (subst (Contains (r ∷ rows)) same (Contains-append_left (r ∷ []) rows r (Contains-push [] r)), ap (is_awake open_queries) (sym same) ∙ e)
      | inr later ↦ (let p = rest later in (Contains-append_right (r ∷ []) rows row p.0, p.1))
    ]
    by false e h rest =
        let p = rest (subst (λ rs. Contains rs row) (asleep_first open_queries r rows e) h) in
        (Contains-append_right (r ∷ []) rows row p.0, p.1)

-- What suffices of some rows, suffices of those that are looked at.
suffice_awake : (open_queries : List Bool) (leaves : List IndexedLeaf) (list some : List LeafRow) (event : Event) → Suffice leaves list event some → Suffice leaves (awake open_queries list) event (awake open_queries some)
suffice_awake open_queries leaves list some event s = record {
  within = λ r h. (let p = from_awake open_queries some r h in there_awake open_queries list r (s.within r p.0) p.1);
  others = λ r h. (
      let p = from_awake open_queries list r h in
      elim (s.others r p.0) [ inl there ↦ inl (there_awake open_queries some r there p.1) | inr none ↦ inr none ]
      );
}

pub awake_sufficed : (open_queries : List Bool) (list some : List LeafRow) (leaves : List IndexedLeaf) (event : Event) (before after : List Bool) (had have : List (List Bool)) → Suffice leaves list event some → Marks (awake open_queries some) leaves event before after had have → Marks (awake open_queries list) leaves event before after had have
awake_sufficed open_queries list some leaves event before after had have s m = marks_sufficed (awake open_queries list) (awake open_queries some) leaves event before after had have (suffice_awake open_queries leaves list some event s) m

append_none : (xs : List LeafRow) → xs ++ [] ≡ xs
append_none [] = refl
append_none (x ∷ xs) = ap (λ ys. x ∷ ys) (append_none xs)

module _ (open_queries : List Bool) (i : ℕ) (rows : List LeafRow) (e : LeafRow) (leaves : List IndexedLeaf) (event : Event) (before mid after : List Bool) (had half have : List (List Bool)) (inside : i < length rows) (was : Marks (awake open_queries (take i rows)) leaves event before mid had half) where
  abbrev row : LeafRow
  row = slice_index_or rows i e

  more : awake open_queries (take (i + 1) rows) ≡ awake open_queries (take i rows) ++ awake open_queries (row ∷ [])
  more = ap (awake open_queries) (take_more rows i e inside) ∙ filter-append (is_awake open_queries) (take i rows) (row ∷ [])

  -- one row more, which is looked at
  pub awake_next : is_awake open_queries row ≡ true → Marks (row ∷ []) leaves event mid after half have → Marks (awake open_queries (take (i + 1) rows)) leaves event before after had have
  awake_next is one = subst (λ rs. Marks rs leaves event before after had have) (sym (more ∙ ap (λ rs. awake open_queries (take i rows) ++ rs) (awake_first open_queries row [] is))) (marks_more (awake open_queries (take i rows)) (row ∷ []) leaves event before mid after had half have was one)

-- and one which is not, or whose range the event is not in, or whose text it does not have
pub past_next : (open_queries : List Bool) (i : ℕ) (rows : List LeafRow) (e : LeafRow) (leaves : List IndexedLeaf) (event : Event) (count : ℕ) (before mid : List Bool) (had half : List (List Bool)) → i < length rows → Marks (awake open_queries (take i rows)) leaves event before mid had half → IsRowBelow count leaves (slice_index_or rows i e) → ((holds : Event → Bool) → AsksFor (slice_index_or rows i e).range holds → AsksToOpen (slice_index_or rows i e).text_prefilter holds → is_awake open_queries (slice_index_or rows i e) ≡ true → holds event ≡ false) → Marks (awake open_queries (take (i + 1) rows)) leaves event before mid had half
past_next open_queries i rows e leaves event count before mid had half inside was below none = by (is_awake open_queries row) refl
  where
    row : LeafRow
    row = slice_index_or rows i e

    by : (b : Bool) → is_awake open_queries row ≡ b → Marks (awake open_queries (take (i + 1) rows)) leaves event before mid had half
    by true is = awake_next open_queries i rows e leaves event before mid mid had half half inside was is (marks_past count row leaves event mid half below (λ holds asks opens. none holds asks opens is))
    by false is =
        subst (λ rs. Marks rs leaves event before mid had half)
        (sym (ap (awake open_queries) (take_more rows i e inside) ∙ filter-append (is_awake open_queries) (take i rows) (row ∷ []) ∙ ap (λ rs. awake open_queries (take i rows) ++ rs) (asleep_first open_queries row [] is) ∙ append_none (awake open_queries (take i rows))))
        was

pub awake_all : (open_queries : List Bool) (i : ℕ) (rows : List LeafRow) (leaves : List IndexedLeaf) (event : Event) (before after : List Bool) (had have : List (List Bool)) → length rows ≤ i → Marks (awake open_queries (take i rows)) leaves event before after had have → Marks (awake open_queries rows) leaves event before after had have
awake_all open_queries i rows leaves event before after had have end h = subst (λ rs. Marks (awake open_queries rs) leaves event before after had have) (take_all i rows end) h

-- the rows of one index more
pub awake_index : (open_queries : List Bool) (indexes : List Index) (k : ℕ) (d : Index) (leaves : List IndexedLeaf) (event : Event) (before mid after : List Bool) (had half have : List (List Bool)) → k < length indexes → Marks (awake open_queries (gathered (take k indexes))) leaves event before mid had half → Marks (awake open_queries (slice_index_or indexes k d).rows.items) leaves event mid after half have → Marks (awake open_queries (gathered (take (k + 1) indexes))) leaves event before after had have
awake_index open_queries indexes k d leaves event before mid after had half have inside a b =
    subst (λ xs. Marks xs leaves event before after had have)
    (sym (ap (λ is. awake open_queries (gathered is)) (take_more indexes k d inside) ∙ ap (awake open_queries) (gathered_push (take k indexes) (slice_index_or indexes k d)) ∙ filter-append (is_awake open_queries) (gathered (take k indexes)) (slice_index_or indexes k d).rows.items))
    (marks_more (awake open_queries (gathered (take k indexes))) (awake open_queries (slice_index_or indexes k d).rows.items) leaves event before mid after had half have a b)

pub awake_indexes : (open_queries : List Bool) (indexes : List Index) (k : ℕ) (leaves : List IndexedLeaf) (event : Event) (before after : List Bool) (had have : List (List Bool)) → length indexes ≤ k → Marks (awake open_queries (gathered (take k indexes))) leaves event before after had have → Marks (awake open_queries (gathered indexes)) leaves event before after had have
awake_indexes open_queries indexes k leaves event before after had have end h = subst (λ xs. Marks (awake open_queries (gathered xs)) leaves event before after had have) (take_all k indexes end) h

-- What the rows of the indexes of the event's type mark is what the table says.
pub found_awake : (open_queries : List Bool) (rows : List (List LeafRow)) (ls leaves : List IndexedLeaf) (count : ℕ) (table : Table) (event : Event) (before now : List Bool) (had have : List (List Bool)) (list : List Index) → record { rows = rows; leaves = ls; count = count } ≡ table → leaves ≡ ls → AreIndexes leaves (slice_index_or rows event.ty []) list → Marks (awake open_queries (gathered list)) leaves event before now had have → Marks (awake open_queries (slice_index_or table.rows event.ty [])) table.leaves event before now had have
found_awake open_queries rows ls leaves count table event before now had have list is leaves_is are marks =
    subst (λ (t : Table). Marks (awake open_queries (slice_index_or t.rows event.ty [])) t.leaves event before now had have) is
    (subst (λ x. Marks (awake open_queries (slice_index_or rows event.ty [])) x event before now had have) leaves_is
    (awake_sufficed open_queries (slice_index_or rows event.ty []) (gathered list) leaves event before now had have (same_suffice leaves (slice_index_or rows event.ty []) (gathered list) event are.rows) marks))

-- What is put into the set of a query that was not marked before: since its rows of one type wait alike, all of its leaves that read.
pub awake_read : (open_queries : List Bool) (rows : List (List LeafRow)) (leaves : List IndexedLeaf) (count : ℕ) (event : Event) (before after : List Bool) (had have : List (List Bool)) → AreBelow count rows leaves → WaitAlike rows leaves → Marks (awake open_queries (slice_index_or rows event.ty [])) leaves event before after had have → (query : ℕ) → has before query ≡ false → has after query ≡ true → AreReaders rows leaves query event (slice_index_or have query [])
awake_read open_queries rows leaves count event before after had have below alike m query fresh marked = record {
  each = λ k h. m.read query k (record { row = h.0.row; listed = there_awake open_queries (slice_index_or rows event.ty []) h.0.row h.0.listed (as_awake h.0); leaf = h.0.leaf; at = h.0.at; numbered = h.0.numbered; holds = h.0.holds }, h.1);
  only = λ k is. elim (m.read_only query k marked is) [
    | inl was ↦ absurd (false≢true (sym fresh ∙ was.0))
    | inr h ↦ (record { row = h.0.row; listed = (from_awake open_queries (slice_index_or rows event.ty []) h.0.row h.0.listed).0; leaf = h.0.leaf; at = h.0.at; numbered = h.0.numbered; holds = h.0.holds }, h.1)
  ];
}
  where
    own : (x : HaveReader (slice_index_or rows event.ty []) leaves query event) → IsRowOf query leaves x.row
    own x =
        let b = below event.ty x.row x.listed in
        let same : b.of.leaf ≡ x.leaf = (let both = sym b.of.at ∙ x.at in cc) in
        subst (λ n. IsRowOf n leaves x.row) (sym b.of.numbered ∙ (ap (λ (l : IndexedLeaf). l.query) same ∙ x.numbered)) b.of

    -- one that was looked at, and reads
    looked_at : (x : HaveReader (slice_index_or rows event.ty []) leaves query event) × (is_awake open_queries x.row ≡ true)
    looked_at = elim (m.only query marked) [
      | inl was ↦ absurd (false≢true (sym fresh ∙ was))
      | inr h ↦ (
          let p = from_awake open_queries (slice_index_or rows event.ty []) h.row h.listed in
          (record { row = h.row; listed = p.0; leaf = h.leaf; at = h.at; numbered = h.numbered; holds = h.holds }, p.1)
          )
    ]

    as_awake : (x : HaveReader (slice_index_or rows event.ty []) leaves query event) → is_awake open_queries x.row ≡ true
    as_awake x = ap (λ w. eqb w NONE || has open_queries w) (alike event.ty query x.row looked_at.0.row x.listed looked_at.0.listed (own x) (own looked_at.0)) ∙ looked_at.1

-- what is marked is marked by a row that is listed
pub only_listed : (open_queries : List Bool) (rows : List (List LeafRow)) (leaves : List IndexedLeaf) (event : Event) (before after : List Bool) (had have : List (List Bool)) → Marks (awake open_queries (slice_index_or rows event.ty [])) leaves event before after had have → (k : ℕ) → has after k ≡ true → (has before k ≡ true) ⊎ HaveReader (slice_index_or rows event.ty []) leaves k event
only_listed open_queries rows leaves event before after had have m k is = elim (m.only k is) [
  | inl was ↦ inl was
  | inr h ↦ inr (record { row = h.row; listed = (from_awake open_queries (slice_index_or rows event.ty []) h.row h.listed).0; leaf = h.leaf; at = h.at; numbered = h.numbered; holds = h.holds })
]

-- what is listed, looked at, and reads is marked
pub marked_awake : (open_queries : List Bool) (rows : List (List LeafRow)) (leaves : List IndexedLeaf) (event : Event) (before after : List Bool) (had have : List (List Bool)) → Marks (awake open_queries (slice_index_or rows event.ty [])) leaves event before after had have → (k : ℕ) (h : HaveReader (slice_index_or rows event.ty []) leaves k event) → is_awake open_queries h.row ≡ true → has after k ≡ true
marked_awake open_queries rows leaves event before after had have m k h is = m.marked k (record { row = h.row; listed = there_awake open_queries (slice_index_or rows event.ty []) h.row h.listed is; leaf = h.leaf; at = h.at; numbered = h.numbered; holds = h.holds })
