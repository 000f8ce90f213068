-- The sets of finishers and the steps of a run, turn by turn.
use Rattle.std.proofs.Common.{◌≡◌, refl, sym, ap, ap₂, subst, ◌∙◌, ℕ, zero, suc, ◌+◌, ◌<◌, ◌≤◌, ◌⊎◌, inl, inr, Bool, true, false, not, ◌&&◌, ◌||◌, List, [], ◌∷◌, ◌++◌, length, drop, reverse, get_or, arith, append_assoc, append-nil, add-one, drop-cons}
use Rattle.std.proofs.lemmas.Bool.{and_parts, or_cases, false≢true, not-true}
use Rattle.std.proofs.lemmas.List.{drop_all, reverse-append, length-reverse}
use Rattle.cer_base.specs.Bits.{has}
use Rattle.cea_determinise.specs.Runs.{Automaton, some_below}
use Rattle.cea_determinise.specs.Cea.{IsSet}
use Rattle.cea_compile.specs.Paths.{Step}
use Rattle.match_explain.specs.declared.turns.Turn.{Turn}
use Rattle.match_explain.specs.declared.finishing.Ahead.{Ahead}
use Rattle.match_explain.specs.declared.moves.Last.{Last}
use Rattle.match_explain.specs.declared.moves.Last.TheVariants.{Start, Leaf as At}
use Rattle.match_explain.specs.declared.moves.Age.{Age}
use Rattle.match_explain.specs.declared.moves.Age.TheVariants.{Just, Earlier}
use Rattle.match_explain.specs.Searching.{may_read, passed, has_begun, can_finish, Goes, finished, reading, passing, AreFinishers, IsAhead, IsLeafBelow}
use Rattle.match_explain.proofs.Following.{same_below}
use Rattle.match_explain.proofs.Beginning.{reads_on, passes_on}

-- the set has the readers of the turn that can finish after it
abbrev pub IsFinisherSet : Automaton → Turn → List Turn → List Bool → Type 0
IsFinisherSet a t ts set = (k : ℕ) → k < a.size → has set k ≡ (has t.readers k && can_finish a (At Just k) ts)

finishers_are : (a : Automaton) (t : Turn) (ts : List Turn) (o : Ahead) (set : List Bool) → IsAhead a ts o → ((k : ℕ) → has set k ≡ (has t.readers k && has o.just k)) → IsFinisherSet a t ts set
finishers_are a t ts o set h members k less = members k ∙ ap (λ b. has t.readers k && b) (h.just k less)

-- what a leaf can do over one turn more
one_more : (a : Automaton) (age : Age) (t : Turn) (ts : List Turn) (o : Ahead) (set : List Bool) (k : ℕ) → IsAhead a ts o → IsFinisherSet a t ts set → k < a.size → (some_below a.size (λ j. may_read a (At age k) j && has set j) || (not t.marked && has o.earlier k)) ≡ can_finish a (At age k) (t ∷ ts)
one_more a age t ts o set k h f less =
    ap₂ (λ x y. x || y)
    (same_below (λ j. may_read a (At age k) j && has set j) (reads_on a (At age k) t ts) a.size (λ j l. ap (λ b. may_read a (At age k) j && b) (f j l)))
    (ap (λ b. not t.marked && b) (h.earlier k less))

ahead_cons : (a : Automaton) (t : Turn) (ts : List Turn) (o : Ahead) (set just earlier : List Bool) → IsAhead a ts o → IsFinisherSet a t ts set →
    ((k : ℕ) → k < a.size → has just k ≡ (some_below a.size (λ j. may_read a (At Just k) j && has set j) || (not t.marked && has o.earlier k))) → IsSet a.size just →
    ((k : ℕ) → k < a.size → has earlier k ≡ (some_below a.size (λ j. may_read a (At Earlier k) j && has set j) || (not t.marked && has o.earlier k))) → IsSet a.size earlier →
    IsAhead a (t ∷ ts) (record { just = just; earlier = earlier })
ahead_cons a t ts o set just earlier h f j js e es = record {
  just = λ k less. j k less ∙ one_more a Just t ts o set k h f less;
  earlier = λ k less. e k less ∙ one_more a Earlier t ts o set k h f less;
  just_set = js;
  earlier_set = es;
}

reverse_push : (sets : List (List Bool)) (set : List Bool) → reverse (sets ++ set ∷ []) ≡ set ∷ reverse sets
reverse_push sets set = reverse-append sets (set ∷ [])

gone_cons : (a : Automaton) (t : Turn) (ts : List Turn) (o : Ahead) (sets : List (List Bool)) (set just earlier : List Bool) → IsAhead a ts o → AreFinishers a ts (reverse sets) → IsSet a.size set → ((k : ℕ) → has set k ≡ (has t.readers k && has o.just k)) →
    ((k : ℕ) → k < a.size → has just k ≡ (some_below a.size (λ j. may_read a (At Just k) j && has set j) || (not t.marked && has o.earlier k))) → IsSet a.size just →
    ((k : ℕ) → k < a.size → has earlier k ≡ (some_below a.size (λ j. may_read a (At Earlier k) j && has set j) || (not t.marked && has o.earlier k))) → IsSet a.size earlier →
    IsAhead a (t ∷ ts) (record { just = just; earlier = earlier }) × AreFinishers a (t ∷ ts) (reverse (sets ++ set ∷ []))
gone_cons a t ts o sets set just earlier h are s members j js e es =
    let f = finishers_are a t ts o set h members in (
      ahead_cons a t ts o set just earlier h f j js e es,
      subst (AreFinishers a (t ∷ ts)) (sym (reverse_push sets set)) (f, s, are),
    )

-- One turn more, from the end.
pub gone_more : (a : Automaton) (turns : List Turn) (i n : ℕ) (t : Turn) (o : Ahead) (sets after : List (List Bool)) (set just earlier : List Bool) → n ≡ suc i → i < length turns → t ≡ get_or turns i t → after ≡ sets ++ set ∷ [] → IsAhead a (drop n turns) o → AreFinishers a (drop n turns) (reverse sets) → IsSet a.size set → ((k : ℕ) → has set k ≡ (has t.readers k && has o.just k)) →
    ((k : ℕ) → k < a.size → has just k ≡ (some_below a.size (λ j. may_read a (At Just k) j && has set j) || (not t.marked && has o.earlier k))) → IsSet a.size just →
    ((k : ℕ) → k < a.size → has earlier k ≡ (some_below a.size (λ j. may_read a (At Earlier k) j && has set j) || (not t.marked && has o.earlier k))) → IsSet a.size earlier →
    IsAhead a (drop i turns) (record { just = just; earlier = earlier }) × AreFinishers a (drop i turns) (reverse after)
gone_more a turns i n t o sets after set just earlier next less is pushed h are s members j js e es =
    let h' = subst (λ m. IsAhead a (drop m turns) o) next h in
    let are' = subst (λ m. AreFinishers a (drop m turns) (reverse sets)) next are in
    let split : drop i turns ≡ t ∷ drop (suc i) turns = drop-cons turns i t less ∙ ap (λ x. x ∷ drop (suc i) turns) (sym is) in
    subst (λ ts. IsAhead a ts (record { just = just; earlier = earlier }) × AreFinishers a ts (reverse after)) (sym split)
    (subst (λ ss. IsAhead a (t ∷ drop (suc i) turns) (record { just = just; earlier = earlier }) × AreFinishers a (t ∷ drop (suc i) turns) (reverse ss)) (sym pushed)
    (gone_cons a t (drop (suc i) turns) o sets set just earlier h' are' s members j js e es))

as_many : (a : Automaton) (ts : List Turn) (fs : List (List Bool)) → AreFinishers a ts fs → length ts ≡ length fs
as_many a [] [] h = refl
as_many a [] (f ∷ fs) h = absurd h
as_many a (t ∷ ts) [] h = absurd h
as_many a (t ∷ ts) (f ∷ fs) h = ap suc (as_many a ts fs h.2)

pub as_many_sets : (a : Automaton) (ts : List Turn) (sets : List (List Bool)) → AreFinishers a ts (reverse sets) → length ts ≡ length sets
as_many_sets a ts sets h = as_many a ts (reverse sets) h ∙ length-reverse sets

set_at : (a : Automaton) (ts : List Turn) (fs : List (List Bool)) (i : ℕ) (d : Turn) → AreFinishers a ts fs → i < length ts → IsFinisherSet a (get_or ts i d) (drop (suc i) ts) (get_or fs i [])
set_at a [] fs i d h less = absurd (omega arith)
set_at a (t ∷ ts) [] i d h less = absurd h
set_at a (t ∷ ts) (f ∷ fs) zero d h less = h.0
set_at a (t ∷ ts) (f ∷ fs) (suc i) d h less = set_at a ts fs i d h.2 (omega arith)

-- The run so far: what read last can finish over the turns from i on, and each way to do so finishes the whole.
pub record IsUnderWay (a : Automaton) (turns : List Turn) (i : ℕ) (last : Last) (steps : List Step) : Type 0 where
  pub below : IsLeafBelow a.size last
  pub can : can_finish a last (drop i turns) ≡ true
  pub goes : (w : List Step) → Goes a last (drop i turns) w → Goes a Start turns (steps ++ w)

pub under_way : (a : Automaton) (turns : List Turn) → can_finish a Start turns ≡ true → IsUnderWay a turns 0 Start []
under_way a turns h = record { below = tt; can = h; goes = λ w g. g }

-- A leaf reads the turn's event,
pub reads_more : (a : Automaton) (turns : List Turn) (i : ℕ) (d : Turn) (last : Last) (steps : List Step) (sets : List (List Bool)) (j : ℕ) → AreFinishers a turns sets → i < length turns → IsUnderWay a turns i last steps → j < a.size → may_read a last j ≡ true → has (get_or sets i []) j ≡ true →
    IsUnderWay a turns (i + 1) (At Just j) (steps ++ record { leaf = j; position = (get_or turns i d).position } ∷ [])
reads_more a turns i d last steps sets j are less u b m h =
    subst (λ n. IsUnderWay a turns n (At Just j) (steps ++ record { leaf = j; position = (get_or turns i d).position } ∷ [])) (sym (add-one i)) record {
      below = b;
      can = both.1;
      goes = λ w g.
          subst (Goes a Start turns) (sym (append_assoc steps (record { leaf = j; position = (get_or turns i d).position } ∷ []) w))
          (u.goes (record { leaf = j; position = (get_or turns i d).position } ∷ w) (subst (λ ts. Goes a last ts (record { leaf = j; position = (get_or turns i d).position } ∷ w)) (sym (drop-cons turns i d less)) (reading b m both.0 g)));
    }
  where
    both : (has (get_or turns i d).readers j ≡ true) × (can_finish a (At Just j) (drop (suc i) turns) ≡ true)
    both = and_parts (has (get_or turns i d).readers j) (can_finish a (At Just j) (drop (suc i) turns)) (sym (set_at a turns sets i d are less j b) ∙ h)

-- the same, under the names of what comes after
pub reads_to : (a : Automaton) (turns : List Turn) (i : ℕ) (d : Turn) (last after : Last) (steps all : List Step) (s : Step) (sets : List (List Bool)) (j : ℕ) → AreFinishers a turns sets → i < length turns → IsUnderWay a turns i last steps → j < a.size → may_read a last j ≡ true → has (get_or sets i []) j ≡ true →
    after ≡ At Just j → all ≡ steps ++ s ∷ [] → s ≡ record { leaf = j; position = (get_or turns i d).position } → IsUnderWay a turns (i + 1) after all
reads_to a turns i d last after steps all s sets j are less u b m h e f g =
    subst (λ l. IsUnderWay a turns (i + 1) l all) (sym e)
    (subst (IsUnderWay a turns (i + 1) (At Just j)) (sym (f ∙ ap (λ x. steps ++ x ∷ []) g))
    (reads_more a turns i d last steps sets j are less u b m h))

passes_below : (size : ℕ) (last : Last) → IsLeafBelow size last → IsLeafBelow size (passed last)
passes_below size Start h = h
passes_below size (At age k) h = h

-- or it is passed over.
passes_at : (a : Automaton) (turns : List Turn) (i : ℕ) (d : Turn) (last : Last) (steps : List Step) (sets : List (List Bool)) → AreFinishers a turns sets → i < length turns → IsUnderWay a turns i last steps → some_below a.size (λ j. may_read a last j && has (get_or sets i []) j) ≡ false →
    IsUnderWay a turns (i + 1) (passed last) steps
passes_at a turns i d last steps sets are less u none =
    subst (λ n. IsUnderWay a turns n (passed last) steps) (sym (add-one i)) record {
      below = passes_below a.size last u.below;
      can = rest.1;
      goes = λ w g. u.goes w (subst (λ ts. Goes a last ts w) (sym (drop-cons turns i d less)) (passing begun.0 (not-true (get_or turns i d).marked rest.0) g));
    }
  where
    can : can_finish a last (get_or turns i d ∷ drop (suc i) turns) ≡ true
    can = subst (λ us. can_finish a last us ≡ true) (drop-cons turns i d less) u.can

    no_reader : some_below a.size (reads_on a last (get_or turns i d) (drop (suc i) turns)) ≡ false
    no_reader = same_below (reads_on a last (get_or turns i d) (drop (suc i) turns)) (λ j. may_read a last j && has (get_or sets i []) j) a.size (λ j l. ap (λ b. may_read a last j && b) (sym (set_at a turns sets i d are less j l))) ∙ none

    second : (some_below a.size (reads_on a last (get_or turns i d) (drop (suc i) turns)) ≡ true) ⊎ (passes_on a last (get_or turns i d) (drop (suc i) turns) ≡ true) → passes_on a last (get_or turns i d) (drop (suc i) turns) ≡ true
    second (inl h) = absurd (false≢true (sym no_reader ∙ h))
    second (inr h) = h

    begun : (has_begun last ≡ true) × ((not (get_or turns i d).marked && can_finish a (passed last) (drop (suc i) turns)) ≡ true)
    begun = and_parts (has_begun last) (not (get_or turns i d).marked && can_finish a (passed last) (drop (suc i) turns)) (second (or_cases (some_below a.size (reads_on a last (get_or turns i d) (drop (suc i) turns))) (passes_on a last (get_or turns i d) (drop (suc i) turns)) can))

    rest : (not (get_or turns i d).marked ≡ true) × (can_finish a (passed last) (drop (suc i) turns) ≡ true)
    rest = and_parts (not (get_or turns i d).marked) (can_finish a (passed last) (drop (suc i) turns)) begun.1

pub passes_to : (a : Automaton) (turns : List Turn) (i : ℕ) (last after : Last) (steps all : List Step) (sets : List (List Bool)) → AreFinishers a turns sets → i < length turns → IsUnderWay a turns i last steps → some_below a.size (λ j. may_read a last j && has (get_or sets i []) j) ≡ false →
    after ≡ passed last → all ≡ steps → IsUnderWay a turns (i + 1) after all
passes_to a [] i last after steps all sets are less u none e f = absurd (omega arith)
passes_to a (t ∷ ts) i last after steps all sets are less u none e f =
    subst (λ l. IsUnderWay a (t ∷ ts) (i + 1) l all) (sym e)
    (subst (IsUnderWay a (t ∷ ts) (i + 1) (passed last)) (sym f)
    (passes_at a (t ∷ ts) i t last steps sets are less u none))

-- After the last turn the steps are those of the whole.
pub all_gone : (a : Automaton) (turns : List Turn) (i : ℕ) (last : Last) (steps : List Step) → length turns ≤ i → IsUnderWay a turns i last steps → Goes a Start turns steps
all_gone a turns i last steps le u =
    let over : drop i turns ≡ [] = drop_all i turns le in
    subst (Goes a Start turns) (append-nil steps)
    (u.goes [] (subst (λ ts. Goes a last ts []) (sym over) (finished (subst (λ ts. can_finish a last ts ≡ true) over u.can))))

-- whether a run can begin
pub begin_is : (a : Automaton) (turns : List Turn) (sets : List (List Bool)) (b : Bool) → AreFinishers a turns sets → 0 < length turns → b ≡ some_below a.size (λ j. may_read a Start j && has (get_or sets 0 []) j) → b ≡ can_finish a Start turns
begin_is a [] sets b are some e = absurd (omega arith)
begin_is a (t ∷ ts) [] b are some e = absurd are
begin_is a (t ∷ ts) (f ∷ fs) b are some e =
    e ∙ (same_below (λ j. may_read a Start j && has f j) (reads_on a Start t ts) a.size (λ j l. ap (λ c. may_read a Start j && c) (are.0 j l)) ∙ or_nothing (some_below a.size (reads_on a Start t ts)))
  where
    or_nothing : (c : Bool) → c ≡ (c || false)
    or_nothing true = refl
    or_nothing false = refl

pub no_turns : (a : Automaton) (turns : List Turn) → length turns ≡ 0 → false ≡ can_finish a Start turns
no_turns a [] e = refl
no_turns a (t ∷ ts) e = absurd (omega arith)
