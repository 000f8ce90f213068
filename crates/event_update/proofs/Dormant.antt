-- Dormant lists. For callers of the crate too.
use Rattle.std.proofs.Common.{◌≡◌, ℕ, zero, suc, ◌<◌, ℤ, Bool, true, false, not, ◌&&◌, cond, List, [], ◌∷◌, ◌++◌, map, take, refl, sym, ap, subst, ◌∙◌, ◌⊎◌, inl, inr, All, Contains, Option, Some, None, option_map, option_and_then, arith, slice_get, ◌||◌}
use Rattle.std.specs.Prelude.{int_le, if◌then◌else◌}
use Rattle.std.specs.List.{list_any}
use Rattle.std.proofs.Math.Bool.{and-false}
use Rattle.std.proofs.Math.Path.{fun_ext}
use Rattle.std.proofs.lemmas.Option.{get_or_from_slice_get}
use Rattle.std.proofs.lemmas.List.Elements.{All-nil, All-cons, All-head, All-tail, All-weaker, All-contains, Contains-append_left, Contains-append_right}
use Rattle.cer_base.specs.Bits.{has}
use Rattle.cer_base.specs.declared.node.Stamp.{Stamp}
use Rattle.cer_base.specs.declared.node.Root.{Root}
use Rattle.cer_base.specs.declared.node.Node.{Node}
use Rattle.cer_base.specs.Members.{SetTree, Start, Extended, United, Member, members, with_position}
use Rattle.cer_base.specs.Nodes.{tree}
use Rattle.cer_base.specs.Repeats.{HasNoRepeats}
use Rattle.cer_base.proofs.Repeats.{HasNoRepeats-back}
use Rattle.cea_determinise.specs.declared.cea.Cea.{Cea}
use Rattle.cea_determinise.specs.declared.cea.Phase.{Phase}
use Rattle.cea_determinise.specs.declared.table.TransitionKey.{TransitionKey}
use Rattle.cea_determinise.specs.declared.table.Successors.{Successors}
use Rattle.cea_determinise.specs.Runs.{LeafSet, Automaton, RunState, start, candidates, skip_insensitive, agrees, readers, minds_next, waits_at_once, has_leaf, successor, next, accepts}
use Rattle.cea_determinise.specs.Strict.{Standing, begin, next_standing, phase_after}
use Rattle.cea_determinise.specs.Cea.{automaton_of_cea, standing}
use Rattle.cea_determinise.specs.LazyDfa.{Table, event_class_at, standing_at, AreSuccessors, IsSound}
use Rattle.cea_determinise.proofs.Growth.{sets_at-later, if_found_right}
use Rattle.cea_determinise.proofs.SomeLeaf.{none_below}
use Rattle.union_lists.specs.Lists.{IsUnionList, IsList, trees, members_of}
use Rattle.event_update.specs.Advance.{step, steps, advance, place_if, on_members}
use Rattle.event_update.specs.Reach.{Seen, Has, all_of}
use Rattle.event_update.specs.Stands.{IsBefore, member_rows, seen, IsLater, Stands, CanAdvance}
use Rattle.event_update.specs.Update.{side, next_in, cached_in, AreSame, Discovers, GrowsBy, IsAdvancedBy, accepted_entries}
use Rattle.event_update.specs.Dormancy.{does_accept, HasNoReader, IsDormantState, AreDormant}
use Rattle.event_update.proofs.Narrow.{here, cons_cases}
use Rattle.event_update.proofs.Advance.{reaches_more, reaches_less, has_placed, unmapped}
use Rattle.event_update.proofs.SameRows.{same_has, same_sym}
use Rattle.event_update.proofs.Placed.{rows_stay}
use Rattle.event_update.proofs.Cached.{number_later}

-- runs over an event that no leaf can read

ReadsNone : LeafSet → Type 0
ReadsNone bits = (k : ℕ) → bits k ≡ false

none_fresh : (a : Automaton) (s : RunState) (bits : LeafSet) (mark : Bool) (k : ℕ) → bits k ≡ false → readers a s bits mark k ≡ false
none_fresh a s bits mark k none = ap (λ b. candidates a s k && (b && agrees mark (a.marked k))) none ∙ and-false (candidates a s k)

-- it has a successor only through leaves that wait
no_next : (a : Automaton) (s : RunState) (bits : LeafSet) (mark : Bool) → ((k : ℕ) → bits k ≡ false) → ((k : ℕ) → not mark && skip_insensitive a s k ≡ false) → next a s bits mark ≡ None
no_next a s bits mark quiet none = ap (λ b. cond b (Some (successor a s bits mark)) None) (none_below a.size (λ k. readers a s bits mark k && minds_next a k || (not mark && skip_insensitive a s k || readers a s bits mark k && waits_at_once a k)) (λ k. rw (none_fresh a s bits mark k (quiet k), none k) refl))

no_standing : (a : Automaton) (strict : Bool) (s t : Standing) (bits : LeafSet) (mark : Bool) → next a s.sets bits mark ≡ None → next_standing a strict s bits mark ≡ Some t → ⊥
no_standing a strict s t bits mark none goes = by (phase_after strict s.phase mark) goes
  where
    by : (o : Option Phase) → option_and_then (λ p. option_map (λ t. record { sets = t; phase = p }) (next a s.sets bits mark)) o ≡ Some t → ⊥
    by None e = absurd cc
    by (Some p) e = let both = sym e ∙ ap (option_map (λ t. record { sets = t; phase = p })) none in absurd cc

pub never_marked : (a : Automaton) (strict : Bool) (s t : Standing) (bits : LeafSet) → ((k : ℕ) → bits k ≡ false) → next_standing a strict s bits true ≡ Some t → ⊥
never_marked a strict s t bits quiet goes = no_standing a strict s t bits true (no_next a s.sets bits true quiet (λ k. refl)) goes

pub never_begins : (a : Automaton) (strict : Bool) (t : Standing) (bits : LeafSet) (mark : Bool) → ((k : ℕ) → bits k ≡ false) → next_standing a strict begin bits mark ≡ Some t → ⊥
never_begins a strict t bits mark quiet goes = no_standing a strict begin t bits mark (no_next a start bits mark quiet (λ k. and-false (not mark))) goes

-- what comes after it does not accept
pub not_accepting : (a : Automaton) (strict : Bool) (s t : Standing) (bits : LeafSet) (mark : Bool) → ((k : ℕ) → bits k ≡ false) → next_standing a strict s bits mark ≡ Some t → accepts a t.sets ≡ false
not_accepting a strict s t bits mark quiet goes = by (phase_after strict s.phase mark) goes
  where
    of : Option Standing → Bool
    of None = false
    of (Some r) = accepts a r.sets

    none : accepts a (successor a s.sets bits mark) ≡ false
    none = none_below a.size (λ k. (readers a s.sets bits mark k && minds_next a k) && a.last k) (λ k. ap (λ b. (b && minds_next a k) && a.last k) (none_fresh a s.sets bits mark k (quiet k)))

    some_case : (b : Bool) (p : Phase) → option_map (λ (q : RunState). let r : Standing = record { sets = q; phase = p } in r) (cond b (Some (successor a s.sets bits mark)) None) ≡ Some t → accepts a t.sets ≡ false
    some_case true p e = sym (ap of e) ∙ none
    some_case false p e = absurd cc

    by : (o : Option Phase) → option_and_then (λ p. option_map (λ t. record { sets = t; phase = p }) (next a s.sets bits mark)) o ≡ Some t → accepts a t.sets ≡ false
    by None e = absurd cc
    by (Some p) e = some_case (has_leaf a (successor a s.sets bits mark)) p e

-- dormant lists

rest_of : (t : Table) (nodes : List Node) (rows : List (ℕ × List Root)) (n : ℕ) (m : Member) → AreDormant t rows → Has (member_rows nodes rows) n m → IsDormantState t n
rest_of t nodes [] n m rest has = absurd has
rest_of t nodes (r ∷ rows) n m rest has = elim has [
  | inl at ↦ subst (IsDormantState t) at.0 (All-head (λ (q : ℕ × List Root). IsDormantState t q.0) r rows rest)
  | inr later ↦ rest_of t nodes rows n m (All-tail (λ (q : ℕ × List Root). IsDormantState t q.0) r rows rest) later
]

goes_on : (t : Table) (bits : List Bool) (n : ℕ) → HasNoReader bits → IsDormantState t n → next_standing (automaton_of_cea t.cea) t.cea.strict (standing_at t.states n) (has bits) false ≡ Some (standing_at t.states n)
goes_on t bits n quiet rest =
    let none : has bits ≡ (λ k. false) = fun_ext quiet in
    ap (λ (f : LeafSet). next_standing (automaton_of_cea t.cea) t.cea.strict (standing_at t.states n) f false) none ∙ rest.stays

pub dormant_stand : (t : Table) (low : ℤ) (xs : List Seen) (stamp : Stamp) (bits : List Bool) (nodes : List Node) (rows : List (ℕ × List Root)) → HasNoReader bits → AreDormant t rows → IsLater stamp xs → Stands t low xs nodes rows → Stands t low (xs ++ seen stamp bits ∷ []) nodes rows
dormant_stand t low xs stamp bits nodes rows quiet rest later st = record {
  sound = λ n m in_row. reaches_more a t.cea.strict xs x (at n) (at n) m m later (st.sound n m in_row) (inr (goes_on t bits n quiet (rest_of t nodes rows n m rest in_row), refl));
  complete = λ s m reaches keeps. (
      let o = reaches_less a t.cea.strict xs x s m later reaches in
      elim o.extends [
        | inl mark ↦ absurd (never_marked a t.cea.strict o.state s x.bits quiet mark.0)
        | inr past ↦ elim o.was [
          | inl old ↦ still s m (st.complete o.state o.member old (subst (λ (q : Stamp). int_le low q.clock ≡ true) o.same_start keeps)) past.0 past.1
          | inr new ↦ absurd (never_begins a t.cea.strict s x.bits false quiet (subst (λ (q : Standing). next_standing a t.cea.strict q x.bits false ≡ Some s) new.0 past.0))
        ]
      ]
      );
  distinct = st.distinct;
  lists = st.lists;
  states = st.states;
  ordered = st.ordered;
  narrow = st.narrow;
} where
  a : Automaton
  a = automaton_of_cea t.cea

  x : Seen
  x = seen stamp bits

  at : ℕ → Standing
  at = standing_at t.states

  some_one : {q s : Standing} → Some q ≡ Some s → q ≡ s
  some_one e = cc

  still : (s : Standing) (m : Member) {was : Standing} {old : Member} → ((n : ℕ) × (at n ≡ was) × Has (member_rows nodes rows) n old) → next_standing a t.cea.strict was x.bits false ≡ Some s → m ≡ old → (n : ℕ) × (at n ≡ s) × Has (member_rows nodes rows) n m
  still s m w goes same =
      let stays = goes_on t bits w.0 quiet (rest_of t nodes rows w.0 _ rest w.2) in
      let moved : next_standing a t.cea.strict (at w.0) x.bits false ≡ Some s = ap (λ (q : Standing). next_standing a t.cea.strict q x.bits false) w.1 ∙ goes in
      let both : Some (at w.0) ≡ Some s = sym stays ∙ moved in
      (w.0, some_one both, subst (Has (member_rows nodes rows) w.0) (sym same) w.2)

pub dormant_stay : (old new : Table) (from : List ℕ) (bits : List Bool) (rows : List (ℕ × List Root)) → Discovers old from bits new → AreDormant old rows → AreDormant new rows
dormant_stay old new from bits rows d rest = All-weaker (λ (r : ℕ × List Root). IsDormantState old r.0) (λ (r : ℕ × List Root). IsDormantState new r.0) (λ r h. one r.0 h) rows rest
  where
    one : (n : ℕ) → IsDormantState old n → IsDormantState new n
    one n h =
        let le = h.is_state in
        let more = number_later old new from bits d in
        let same : standing_at new.states n ≡ standing_at old.states n = ap standing (sets_at-later old.states new.states d.more n d.states h.is_state) in
        record {
          is_state = omega arith;
          stays = subst (λ (c : Cea). next_standing (automaton_of_cea c) c.strict (standing_at new.states n) (λ k. false) false ≡ Some (standing_at new.states n)) (sym d.cea)
              (subst (λ (s : Standing). next_standing (automaton_of_cea old.cea) old.cea.strict s (λ k. false) false ≡ Some s) (sym same) h.stays);
        }

pub dormant_accept_none : (t : Table) (rows : List (ℕ × List Root)) → AreDormant t rows → accepted_entries t rows ≡ []
dormant_accept_none t [] rest = refl
dormant_accept_none t (r ∷ rows) rest =
    let one = All-head (λ (q : ℕ × List Root). IsDormantState t q.0) r rows rest in
    let none = not_accepting (automaton_of_cea t.cea) t.cea.strict (standing_at t.states r.0) (standing_at t.states r.0) (λ k. false) false (λ k. refl) one.stays in
    ap (λ b. (if b then r.1 else []) ++ accepted_entries t rows) none ∙ dormant_accept_none t rows (All-tail (λ (q : ℕ × List Root). IsDormantState t q.0) r rows rest)

-- without an accepting state there is no entry of one
pub none_accepted : (t : Table) (rows : List (ℕ × List Root)) → list_any (does_accept t) (map (λ (r : ℕ × List Root). r.0) rows) ≡ false → accepted_entries t rows ≡ []
none_accepted t [] none = refl
none_accepted t (r ∷ rows) none = go (does_accept t r.0) none (none_accepted t rows)
  where
    others : Bool
    others = list_any (does_accept t) (map (λ (r : ℕ × List Root). r.0) rows)

    go : (b : Bool) → b || others ≡ false → (others ≡ false → accepted_entries t rows ≡ []) → (if b then r.1 else []) ++ accepted_entries t rows ≡ []
    go true e later = absurd cc
    go false e later = later e

-- members and their rows

first_member : (t : SetTree) → (m : Member) × (rest : List Member) × (members t ≡ m ∷ rest)
first_member (Start s) = (record { start = s; positions = [] }, [], refl)
first_member (Extended p t) = let r = first_member t in (with_position p r.0, map (with_position p) r.1, ap (map (with_position p)) r.2)
first_member (United l r) = let f = first_member l in (f.0, f.1 ++ members r, ap (λ ms. ms ++ members r) f.2)

-- a list has a first member
pub list_member : (nodes : List Node) (entries : List Root) → IsList (trees nodes entries) → (m : Member) × (rest : List Member) × (members_of nodes entries ≡ m ∷ rest)
list_member nodes [] h = absurd h
list_member nodes (e ∷ es) h = let f = first_member (tree nodes e.id) in (f.0, f.1 ++ members_of nodes es, ap (λ ms. ms ++ members_of nodes es) f.2)

in_all : (rows : List (ℕ × List Member)) (n : ℕ) (m : Member) → Has rows n m → Contains (all_of rows) m
in_all [] n m has = absurd has
in_all (r ∷ rows) n m has = elim has [
  | inl at ↦ Contains-append_left r.1 (all_of rows) m at.1
  | inr later ↦ Contains-append_right r.1 (all_of rows) m (in_all rows n m later)
]

apart : {X : Type 0} (xs ys : List X) (x : X) → HasNoRepeats (xs ++ ys) → Contains xs x → Contains ys x → ⊥
apart [] ys x once one other = let k = one.1 in omega arith
apart (z ∷ xs) ys x once one other = elim (cons_cases z x xs one) [
  | inl same ↦ once.0 (subst (Contains (xs ++ ys)) (sym same) (Contains-append_right xs ys x other))
  | inr later ↦ apart xs ys x once.1 later other
]

one_row : (rows : List (ℕ × List Member)) (n k : ℕ) (m : Member) → HasNoRepeats (all_of rows) → Has rows n m → Has rows k m → n ≡ k
one_row [] n k m once h g = absurd h
one_row (r ∷ rows) n k m once h g = elim h [
  | inl a ↦ elim g [
    | inl b ↦ sym a.0 ∙ b.0
    | inr later ↦ absurd (apart r.1 (all_of rows) m once a.1 (in_all rows k m later))
  ]
  | inr c ↦ elim g [
    | inl b ↦ absurd (apart r.1 (all_of rows) m once b.1 (in_all rows n m c))
    | inr later ↦ one_row rows n k m (HasNoRepeats-back r.1 (all_of rows) once) c later
  ]
]

-- where a member of an older event goes: unmarked, to the unmarked successor

CameFrom : (ℕ → Bool → Option ℕ) → List (ℕ × List Member) → ℕ → Member → Type 0
CameFrom next rs k m = (n : ℕ) × Has rs n m × (next n false ≡ Some k)

placed_from : (o : Option ℕ) (k : ℕ) (x : List Member) (m : Member) (rows : List (ℕ × List Member)) → Has (place_if (λ xs ys. xs ++ ys) o x rows) k m → Has rows k m ⊎ ((o ≡ Some k) × Contains x m)
placed_from None k x m rows h = inl h
placed_from (Some n) k x m rows h = elim (has_placed n k x m rows h) [ inl old ↦ inl old | inr new ↦ inr (ap (λ i. Some i) new.0, new.1) ]

never_longer : (pos : ℕ) (x : List Member) (m : Member) → All (λ p. p < pos) m.positions → Contains (map (with_position pos) x) m → ⊥
never_longer pos x m below has =
    let w = unmapped (with_position pos) x m has in
    let head = All-head (λ p. p < pos) pos w.0.positions (subst (All (λ p. p < pos)) (sym (ap (λ (k : Member). k.positions) w.2)) below) in
    omega arith

steps_from : (stamp : Stamp) (next : ℕ → Bool → Option ℕ) (k : ℕ) (m : Member) (rs rows : List (ℕ × List Member)) → All (λ p. p < stamp.pos) m.positions → Has (steps (on_members stamp) next rs rows) k m → Has rows k m ⊎ ((n : ℕ) × Has rs n m × (next n false ≡ Some k))
steps_from stamp next k m [] rows below h = inl h
steps_from stamp next k m (r ∷ rs) rows below h = elim (steps_from stamp next k m rs (step (on_members stamp) next r rows) below h) [
  | inl now ↦ elim (placed_from (next r.0 false) k r.1 m (place_if (on_members stamp).add (next r.0 true) ((on_members stamp).mark r.1) rows) now) [
    | inl old ↦ elim (placed_from (next r.0 true) k (map (with_position stamp.pos) r.1) m rows old) [ inl before ↦ inl before | inr mark ↦ absurd (never_longer stamp.pos r.1 m below mark.1) ]
    | inr past ↦ inr (r.0, inl (refl, past.1), past.0)
  ]
  | inr later ↦ inr (later.0, inr later.1, later.2)
]

-- a member that was in a row and is in it after the work has stayed
stayed : (stamp : Stamp) (next : ℕ → Bool → Option ℕ) (rows : List (ℕ × List Member)) (n : ℕ) (m : Member) → HasNoRepeats (all_of rows) → IsBefore stamp.pos m → Has rows n m → Has (advance (on_members stamp) next rows) n m → next n false ≡ Some n
stayed stamp next rows n m once before has h = elim (steps_from stamp next n m ((0, record { start = stamp; positions = [] } ∷ []) ∷ rows) [] before.positions h) [
  | inl none ↦ absurd none
  | inr from ↦ elim from.1 [
    | inl first ↦ elim (cons_cases (record { start = stamp; positions = [] }) m [] first.1) [
      | inl same ↦ let s = ap (λ (k : Member). k.start.pos) same in let lt = before.start in absurd (omega arith)
      | inr none ↦ absurd (let k = none.1 in omega arith)
    ]
    | inr later ↦ subst (λ i. next i false ≡ Some n) (one_row rows from.0 n m once later has) from.2
  ]
]

pub some_from : {A B : Type 0} (f : A → Option B) (o : Option A) (b : B) → option_and_then f o ≡ Some b → (a : A) × (o ≡ Some a) × (f a ≡ Some b)
some_from f None b e = absurd cc
some_from f (Some a) b e = (a, refl, e)

-- a state that is its own unmarked successor, as the table tells
at_rest : (t : Table) (event_class n : ℕ) (bits : List Bool) → HasNoReader bits → IsSound t → slice_get t.event_classes event_class ≡ Some bits → next_in t event_class n false ≡ Some n → IsDormantState t n
at_rest t event_class n bits quiet sound of goes =
    let key : TransitionKey = record { state = n; event_class = event_class } in
    let w = some_from (λ (s : Successors). side s false) (cached_in t event_class n) n goes in
    let right : AreSuccessors t.cea t.states t.event_classes key w.0 = if_found_right t.cea t.states t.event_classes key t.transitions (Some w.0) (sym w.1) sound.transitions in
    let leaves : event_class_at t.event_classes event_class ≡ bits = get_or_from_slice_get t.event_classes event_class bits [] of in
    let none : has (event_class_at t.event_classes event_class) ≡ (λ k. false) = ap has leaves ∙ fun_ext quiet in
    record {
      is_state = right.state;
      stays = ap (λ (f : LeafSet). next_standing (automaton_of_cea t.cea) t.cea.strict (standing_at t.states n) f false) (sym none) ∙ sym right.unmarked.exact ∙ ap (option_map (standing_at t.states)) w.2;
    }

pub unchanged_rest : (before after : Table) (bits : List Bool) (stamp : Stamp) (old new : List Node) (rows : List (ℕ × List Root)) → HasNoReader bits → IsSound after → CanAdvance before stamp old rows → GrowsBy stamp old new → IsAdvancedBy after bits stamp old rows new rows → AreDormant after rows
unchanged_rest before after bits stamp old new rows quiet sound can grows is = go rows can.lists (λ n m has. has)
  where
    next_of : ℕ → Bool → Option ℕ
    next_of = next_in after is.event_class

    all_rows : List (ℕ × List Member)
    all_rows = member_rows old rows

    same : AreSame all_rows (advance (on_members stamp) next_of all_rows)
    same = same_sym (advance (on_members stamp) next_of all_rows) all_rows (subst (AreSame (advance (on_members stamp) next_of all_rows)) (rows_stay old new grows.more grows.appended rows can.lists) is.advanced.members)

    one : (n : ℕ) (m : Member) → Has all_rows n m → IsDormantState after n
    one n m has = at_rest after is.event_class n bits quiet sound is.of_event_class (stayed stamp next_of all_rows n m can.distinct (All-contains (IsBefore stamp.pos) (all_of all_rows) m can.before (in_all all_rows n m has)) has (same_has all_rows (advance (on_members stamp) next_of all_rows) n m same has))

    go : (some : List (ℕ × List Root)) → All (λ (r : ℕ × List Root). IsUnionList old r.1) some → ((n : ℕ) (m : Member) → Has (member_rows old some) n m → Has all_rows n m) → AreDormant after some
    go [] lists within = All-nil (λ (r : ℕ × List Root). IsDormantState after r.0)
    go (r ∷ some) lists within =
        let f = list_member old r.1 (All-head (λ (q : ℕ × List Root). IsUnionList old q.1) r some lists).list in
        All-cons (λ (q : ℕ × List Root). IsDormantState after q.0) r some
        (one r.0 f.0 (within r.0 f.0 (inl (refl, subst (λ ms. Contains ms f.0) (sym f.2) (here f.0 f.1)))))
        (go some (All-tail (λ (q : ℕ × List Root). IsUnionList old q.1) r some lists) (λ n m has. within n m (inr has)))

-- whether some number passes a test, number by number

pub none_more : (f : ℕ → Bool) (ns : List ℕ) (k n : ℕ) → slice_get ns k ≡ Some n → list_any f (take k ns) ≡ false → f n ≡ false → list_any f (take (suc k) ns) ≡ false
none_more f [] k n at none one = absurd cc
none_more f (m ∷ ns) zero n at none one = (let same : m ≡ n = cc in ap (λ i. f i || false) same ∙ ap (λ b. b || false) one)
none_more f (m ∷ ns) (suc k) n at none one = go (f m) none (none_more f ns k n at)
  where
    go : (b : Bool) → b || list_any f (take k ns) ≡ false → (list_any f (take k ns) ≡ false → f n ≡ false → list_any f (take (suc k) ns) ≡ false) → b || list_any f (take (suc k) ns) ≡ false
    go true e later = absurd cc
    go false e later = later e one

pub some_there : (f : ℕ → Bool) (ns : List ℕ) (k n : ℕ) → slice_get ns k ≡ Some n → f n ≡ true → list_any f ns ≡ true
some_there f [] k n at one = absurd cc
some_there f (m ∷ ns) zero n at one = (let same : m ≡ n = cc in ap (λ i. f i || list_any f ns) same ∙ ap (λ b. b || list_any f ns) one)
some_there f (m ∷ ns) (suc k) n at one = go (f m) (some_there f ns k n at one)
  where
    go : (b : Bool) → list_any f ns ≡ true → b || list_any f ns ≡ true
    go true e = refl
    go false e = e
