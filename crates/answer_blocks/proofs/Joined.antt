-- Blocks one after another.
use Rattle.std.proofs.Common.{◌≡◌, ℕ, zero, suc, ◌+◌, ◌-◌, ◌<◌, ◌≤◌, List, [], ◌∷◌, ◌++◌, length, take, drop, Option, Some, None, IsPermutation, refl, sym, ◌∙◌, ap, subst, append_assoc, arith, flat_map}
use Rattle.std.specs.Prelude.{slice_get}
use Rattle.std.proofs.lemmas.List.{append-nil, take_more, take_all, take-append-drop, length-take}
use Rattle.std.proofs.lemmas.Option.{get_or_from_slice_get}
use Rattle.std.proofs.Math.Seq.{drop-cons}
use Rattle.std.proofs.lemmas.List.Sorted.{IsPermutation-refl}
use Rattle.stream_schema.specs.Types.{Declared}
use Rattle.stream_schema.specs.declared.Event.{Event}
use Rattle.cel_terms.specs.declared.Query.{Query}
use Rattle.cel_terms.specs.Answers.{Answer, AreAnswersAt}
use Rattle.cer_base.specs.Repeats.{HasNoRepeats}
use Rattle.query_engine.specs.Engine.{EngineState, StandsFor}
use Rattle.answer_text.specs.declared.Order.{Order}
use Rattle.answer_text.specs.declared.Order.TheVariants.{Walk, Sorted}
use Rattle.answer_text.specs.Output.{line, AreInOrder, IsBlock, AreBlocks}
use Rattle.answer_blocks.specs.Wanted.{wanted, AreWanted}
use Rattle.answer_blocks.specs.Blocks.{HasBlock, HasBlocks}
use Rattle.answer_blocks.proofs.Blocks.{wanted_once, block_of_wanted, some_blocks_are}

one_block : (order : Order) (schema : Declared) (number : ℕ) (q : Query) (events : List Event) (end : ℕ) (bytes : List ℕ) →
    IsBlock order schema number q events end bytes → AreBlocks order schema number (q ∷ []) events end bytes
one_block order schema number q events end bytes h = (bytes, [], h, refl, sym (append-nil bytes))

blocks_append : (order : Order) (schema : Declared) (m n : ℕ) (xs ys : List Query) (events : List Event) (end : ℕ) (front back : List ℕ) → n ≡ m + length xs →
    AreBlocks order schema m xs events end front → AreBlocks order schema n ys events end back → AreBlocks order schema m (xs ++ ys) events end (front ++ back)
blocks_append order schema m n [] ys events end front back at h k =
    let same : n ≡ m = omega (arith, at) in
    subst (λ (l : List ℕ). AreBlocks order schema m ys events end (l ++ back)) (sym h) (subst (λ (i : ℕ). AreBlocks order schema i ys events end back) same k)
blocks_append order schema m n (x ∷ xs) ys events end front back at h k =
    let next : n ≡ (m + 1) + length xs = omega (arith, at) in (
      h.0,
      h.1 ++ back,
      h.2,
      blocks_append order schema (m + 1) n xs ys events end h.1 back next h.3 k,
      ap (λ (l : List ℕ). l ++ back) h.4 ∙ append_assoc h.0 h.1 back,
    )

pub item_at : (xs : List Query) (k : ℕ) → k < length xs → (q : Query) × (slice_get xs k ≡ Some q)
item_at [] k within = absurd (omega arith)
item_at (x ∷ xs) zero within = (x, refl)
item_at (x ∷ xs) (suc k) within = item_at xs k (omega arith)

-- A block more,
pub blocks_more : (order : Order) (engine : EngineState) (P Q R : List ℕ → Type 0) (k : ℕ) → k < length engine.queries →
    HasBlocks order engine (take k engine.queries) P → HasBlock order engine (k + 1) Q →
    ((front back : List ℕ) → P front → Q back → R (front ++ back)) → HasBlocks order engine (take (k + 1) engine.queries) R
blocks_more order engine P Q R k within h g join = record {
  blocks = λ events stands.
      let queries = engine.queries in
      let item = item_at queries k within in
      let one_less : (k + 1) - 1 ≡ k = omega arith in
      let before = h.blocks events stands in
      let here = g.block events item.0 stands (ap (slice_get queries) one_less ∙ item.1) in
      let more : take (k + 1) queries ≡ take k queries ++ item.0 ∷ [] =
      take_more queries k item.0 within ∙ ap (λ (q : Query). take k queries ++ q ∷ []) (get_or_from_slice_get queries k item.0 item.0 item.1) in
      let long : length (take k queries) ≡ k = omega (arith, length-take k queries) in
      let number : k + 1 ≡ 1 + length (take k queries) = omega (arith, long) in (
        before.0 ++ here.0,
        subst (λ (qs : List Query). AreBlocks order engine.schema 1 qs events (length events - 1) (before.0 ++ here.0)) (sym more)
            (blocks_append order engine.schema 1 (k + 1) (take k queries) (item.0 ∷ []) events (length events - 1) before.0 here.0 number before.1
            (one_block order engine.schema (k + 1) item.0 events (length events - 1) here.0 here.1)),
        join before.0 here.0 before.2 here.2,
      );
}

-- and those of the later queries, where it is the last that was begun.
pub blocks_cut : (order : Order) (engine : EngineState) (P Q R : List ℕ → Type 0) (k : ℕ) → k < length engine.queries →
    HasBlocks order engine (take k engine.queries) P → HasBlock order engine (k + 1) Q →
    ((front back rest : List ℕ) → P front → Q back → R (front ++ (back ++ rest))) → HasBlocks order engine engine.queries R
blocks_cut order engine P Q R k within h g join = record {
  blocks = λ events stands.
      let queries = engine.queries in
      let end = length events - 1 in
      let item = item_at queries k within in
      let one_less : (k + 1) - 1 ≡ k = omega arith in
      let before = h.blocks events stands in
      let here = g.block events item.0 stands (ap (slice_get queries) one_less ∙ item.1) in
      let later = some_blocks_are order engine.schema ((k + 1) + 1) (drop (suc k) queries) events end in
      let next : drop k queries ≡ item.0 ∷ drop (suc k) queries =
      drop-cons queries k item.0 within ∙ ap (λ (q : Query). q ∷ drop (suc k) queries) (get_or_from_slice_get queries k item.0 item.0 item.1) in
      let whole : take k queries ++ item.0 ∷ drop (suc k) queries ≡ queries =
      ap (λ (qs : List Query). take k queries ++ qs) (sym next) ∙ take-append-drop k queries in
      let long : length (take k queries) ≡ k = omega (arith, length-take k queries) in
      let number : k + 1 ≡ 1 + length (take k queries) = omega (arith, long) in
      let behind : AreBlocks order engine.schema (k + 1) (item.0 ∷ drop (suc k) queries) events end (here.0 ++ later.0) = (here.0, later.0, here.1, later.1, refl) in (
        before.0 ++ (here.0 ++ later.0),
        subst (λ (qs : List Query). AreBlocks order engine.schema 1 qs events end (before.0 ++ (here.0 ++ later.0))) whole
            (blocks_append order engine.schema 1 (k + 1) (take k queries) (item.0 ∷ drop (suc k) queries) events end before.0 (here.0 ++ later.0) number before.1 behind),
        join before.0 here.0 later.0 before.2 here.2,
      );
}

-- No query has been begun,
pub no_blocks : (order : Order) (engine : EngineState) (P : List ℕ → Type 0) → P [] → HasBlocks order engine (take 0 engine.queries) P
no_blocks order engine P h = record { blocks = λ events stands. ([], refl, h) }

-- or all are done.
pub all_blocks : (order : Order) (engine : EngineState) (P : List ℕ → Type 0) (k : ℕ) → length engine.queries ≤ k →
    HasBlocks order engine (take k engine.queries) P → HasBlocks order engine engine.queries P
all_blocks order engine P k past h = subst (λ (qs : List Query). HasBlocks order engine qs P) (take_all k engine.queries past) h

-- The lines of what was pulled are a block.
pub block_pulled : (order : Order) (engine : EngineState) (number end : ℕ) (given answers : List Answer) (P : List ℕ → Type 0) →
    AreWanted engine number given → IsPermutation given answers → (HasNoRepeats given → AreInOrder order answers) →
    ((events : List Event) → StandsFor engine events → end ≡ length events - 1) → P (flat_map (line number end) answers) → HasBlock order engine number P
block_pulled order engine number end given answers P are moved ordered at_end h = record {
  block = λ events q stands at.
      let w = are.are events q stands at in
      let wanted_moved : IsPermutation (wanted q.any w.0) answers = subst (λ (l : List Answer). IsPermutation l answers) w.2 moved in
      let once : HasNoRepeats given = subst HasNoRepeats (sym w.2) (wanted_once q.any w.0 w.1.once) in (
        flat_map (line number end) answers,
        subst (λ (e : ℕ). IsBlock order engine.schema number q events (length events - 1) (flat_map (line number e) answers)) (sym (at_end events stands))
            (block_of_wanted order engine.schema number q events (length events - 1) w.0 answers w.1 wanted_moved (ordered once)),
        h,
      );
}

pub none_wanted : (any : Option ℕ) → wanted any [] ≡ []
none_wanted None = refl
none_wanted (Some zero) = refl
none_wanted (Some (suc n)) = refl

pub none_in_order : (order : Order) → AreInOrder order []
none_in_order Walk = tt
none_in_order Sorted = λ i j a b less p q. absurd (cc)

-- Where there is no answer, no line is the block.
pub no_block : (order : Order) (engine : EngineState) (number : ℕ) (P : List ℕ → Type 0) →
    ((events : List Event) (q : Query) → StandsFor engine events → slice_get engine.queries (number - 1) ≡ Some q → AreAnswersAt engine.schema q events (length events - 1) []) →
    P [] → HasBlock order engine number P
no_block order engine number P none h = record {
  block = λ events q stands at.
      let moved : IsPermutation (wanted q.any []) [] = subst (λ (l : List Answer). IsPermutation l []) (sym (none_wanted q.any)) (IsPermutation-refl []) in
      ([], block_of_wanted order engine.schema number q events (length events - 1) [] [] (none events q stands at) moved (none_in_order order), h);
}
