-- What a sink has taken once a cursor gave so many answers.
use Rattle.std.proofs.Common.{◌≡◌, ℕ, ◌+◌, ◌-◌, ◌<◌, ◌≤◌, Bool, true, false, List, [], ◌∷◌, ◌++◌, length, map, take, drop, reverse, Option, Result, Ok, Err, IsTrue, ◌↔◌, refl, sym, ◌∙◌, ap, ap₂, subst, append_assoc, arith, rules, flat_map}
use Rattle.std.proofs.lemmas.Grind.{flat_map-append}
use Rattle.std.specs.Prelude.{nat_le}
use Rattle.std.proofs.lemmas.Bool.{le-leb, leb-true, false_from_ne_true}
use Rattle.std.proofs.lemmas.List.{append-nil, length-append, length-drop, length-reverse, take_all, drop_all}
use Rattle.std.proofs.lemmas.List.Sums.{sum_by-cons, sum_by-append}
use Rattle.std.proofs.Math.Seq.{take-append_seam, drop-append_seam, take-append-add}
use Rattle.cer_base.specs.declared.OrMemory.{OrMemory}
use Rattle.cer_base.specs.declared.node.Stamp.{Stamp}
use Rattle.cer_base.specs.Members.{Member}
use Rattle.cer_outside.specs.Bytes.{TookAll}
use Rattle.cel_terms.specs.Answers.{Answer}
use Rattle.answer_text.specs.Output.{line}
use Rattle.query_engine.specs.Bounds.{delay}
use Rattle.query_engine.specs.Holding.{answer_of}
use Rattle.answer_blocks.specs.RowSteps.{delay_of, delays}
use Rattle.answer_blocks.specs.SinkBytes.{TookBy}
use Rattle.answer_blocks.proofs.Writing.{took_none, all_after, error_after}
use Rattle.command_session.specs.SessionModel.{end_line, more_line, pull_end, pull_text}

-- So many answers were given of all, their lines were taken, and each took its delay at most.
pub record Gave (query end : ℕ) (first now : Option (List ℕ)) (all left : List Answer) (n before after : ℕ) : Type 0 where
  pub answers : List Answer
  pub split : all ≡ answers ++ left
  pub long : length answers ≡ n
  pub took : TookAll first now (flat_map (line query end) answers)
  pub within : after ≤ before + delays answers

pub gave_none : (query end : ℕ) (now : Option (List ℕ)) (all : List Answer) (steps : ℕ) → Gave query end now now all all 0 steps steps
gave_none query end now all steps = record { answers = []; split = refl; long = refl; took = took_none now; within = omega arith }

delays_more : (answers : List Answer) (a : Answer) → delays (answers ++ a ∷ []) ≡ delays answers + delay_of a
delays_more answers a =
    let both = sum_by-append delay_of answers (a ∷ []) in
    let one = sum_by-cons delay_of a [] in
    omega (arith, both, one)

-- the delay of an answer goes by how many positions it has
delay_back : (m : Member) → delay_of (answer_of m) ≡ delay (length m.positions)
delay_back m = ap delay (length-reverse m.positions)

-- One more is given,
pub gave_more : (query end : ℕ) (first middle last : Option (List ℕ)) (all left later : List Answer) (n before steps after : ℕ) (a : Answer) →
    Gave query end first middle all left n before steps → left ≡ a ∷ later → TookAll middle last (line query end a) → after ≤ steps + delay_of a →
    Gave query end first last all later (n + 1) before after
gave_more query end first middle last all left later n before steps after a gave next took within =
    let f = line query end in
    let one : flat_map f (gave.answers ++ a ∷ []) ≡ flat_map f gave.answers ++ f a =
    flat_map-append f gave.answers (a ∷ []) ∙ ap (λ (l : List ℕ). flat_map f gave.answers ++ l) (append-nil (f a)) in record {
      answers = gave.answers ++ a ∷ [];
      split = gave.split ∙ ap (λ (l : List Answer). gave.answers ++ l) next ∙ sym (append_assoc gave.answers (a ∷ []) later);
      long = omega (arith, length-append gave.answers (a ∷ []), gave.long);
      took = subst (λ (l : List ℕ). TookAll first last l) (sym one) (all_after first middle last (flat_map f gave.answers) (f a) gave.took took);
      within = omega (arith, delays_more gave.answers a, gave.within, within);
    }

-- and these are the first of all.
pub gave_first : (query end : ℕ) (first now : Option (List ℕ)) (all left : List Answer) (n before after : ℕ) (g : Gave query end first now all left n before after) →
    take n all ≡ g.answers
gave_first query end first now all left n before after g =
    ap (λ (l : List Answer). take n l) g.split ∙ (ap (λ (k : ℕ). take k (g.answers ++ left)) (sym g.long) ∙ take-append_seam g.answers left)

gave_rest : (query end : ℕ) (first now : Option (List ℕ)) (all left : List Answer) (n before after : ℕ) (g : Gave query end first now all left n before after) →
    left ≡ drop n all
gave_rest query end first now all left n before after g =
    sym (ap (λ (l : List Answer). drop n l) g.split ∙ (ap (λ (k : ℕ). drop k (g.answers ++ left)) (sym g.long) ∙ drop-append_seam g.answers left))

-- What is said of the first n of all answers, once they were given.
pub record Given (query end : ℕ) (first now : Option (List ℕ)) (all left : List Answer) (n before after : ℕ) : Type 0 where
  pub took : TookAll first now (flat_map (line query end) (take n all))
  pub rest : left ≡ drop n all
  pub within : after ≤ before + (delays (take n all) + 1)

pub given_n : (query end : ℕ) (first now : Option (List ℕ)) (all left : List Answer) (n before after : ℕ) →
    Gave query end first now all left n before after → Given query end first now all left n before after
given_n query end first now all left n before after g =
    let same = gave_first query end first now all left n before after g in record {
      took = subst (λ (l : List Answer). TookAll first now (flat_map (line query end) l)) (sym same) g.took;
      rest = gave_rest query end first now all left n before after g;
      within = omega (arith, ap delays same, g.within);
    }

-- Where fewer are left, all are given.
pub given_all : (query end : ℕ) (first now : Option (List ℕ)) (all left later : List Answer) (n k before steps after : ℕ) → k ≤ n →
    Gave query end first now all left k before steps → left ≡ [] → later ≡ [] → after ≤ steps + 1 →
    Given query end first now all later n before after
given_all query end first now all left later n k before steps after fits g none done within =
    let whole : all ≡ g.answers = g.split ∙ (ap (λ (l : List Answer). g.answers ++ l) none ∙ append-nil g.answers) in
    let long : length all ≤ n = omega (arith, ap length whole, g.long) in
    let same : take n all ≡ g.answers = take_all n all long ∙ whole in record {
      took = subst (λ (l : List Answer). TookAll first now (flat_map (line query end) l)) (sym same) g.took;
      rest = done ∙ sym (drop_all n all long);
      within = omega (arith, ap delays same, g.within, within);
    }

-- the first n answers, with one that is not given yet
first_with : (all answers later : List Answer) (n k : ℕ) (a : Answer) → all ≡ answers ++ a ∷ later → length answers ≡ k → k < n →
    take n all ≡ (answers ++ a ∷ []) ++ take (n - (k + 1)) later
first_with all answers later n k a split long fits =
    let count : n ≡ length (answers ++ a ∷ []) + (n - (k + 1)) = omega (arith, length-append answers (a ∷ []), long, fits) in
    ap₂ (λ (m : ℕ) (l : List Answer). take m l) count (split ∙ sym (append_assoc answers (a ∷ []) later)) ∙ take-append-add (answers ++ a ∷ []) later (n - (k + 1))

-- What is said where a line could not be written.
pub record Stopped (query end : ℕ) (first now : Option (List ℕ)) (all : List Answer) {F : Type 0} (e : OrMemory F) (n before after : ℕ) : Type 0 where
  pub took : TookBy {T = Unit {0}} first now (flat_map (line query end) (take n all)) (Err e)
  pub within : after ≤ before + (delays (take n all) + 1)

pub given_some : {F : Type 0} (query end : ℕ) (first middle last : Option (List ℕ)) (all left later : List Answer) (n k before steps after : ℕ) (a : Answer) (e : OrMemory F) → k < n →
    Gave query end first middle all left k before steps → left ≡ a ∷ later → TookBy {T = Unit {0}} middle last (line query end a) (Err e) → after ≤ steps + delay_of a →
    Stopped query end first last all e n before after
given_some query end first middle last all left later n k before steps after a e fits g next took within =
    let f = line query end in
    let rest = take (n - (k + 1)) later in
    let same = first_with all g.answers later n k a (g.split ∙ ap (λ (l : List Answer). g.answers ++ l) next) g.long fits in
    let whole : flat_map f (take n all) ≡ (flat_map f g.answers ++ f a) ++ flat_map f rest =
    ap (flat_map f) same ∙ (flat_map-append f (g.answers ++ a ∷ []) rest ∙ ap (λ (l : List ℕ). l ++ flat_map f rest) (flat_map-append f g.answers (a ∷ []) ∙ ap (λ (l : List ℕ). flat_map f g.answers ++ l) (append-nil (f a)))) in
    let cost : delays (take n all) ≡ (delays g.answers + delay_of a) + delays rest =
    ap delays same ∙ (sum_by-append delay_of (g.answers ++ a ∷ []) rest ∙ ap (λ (m : ℕ). m + delays rest) (delays_more g.answers a)) in record {
      took = error_after first middle last (flat_map f g.answers) (f a) (flat_map f rest) (flat_map f (take n all)) e whole g.took took;
      within = omega (arith, cost, g.within, within);
    }

-- The next answer, by the positions that are lent, with its delay.
pub record IsNext (start : ℕ) (lent : List ℕ) (left later : List Answer) (steps after : ℕ) : Type 0 where
  pub next : left ≡ record { start = start; marks = reverse lent } ∷ later
  pub within : after ≤ steps + delay_of (record { start = start; marks = reverse lent })

pub is_next : (start : Stamp) (path lent : List ℕ) (rest later : List Member) (steps after : ℕ) → lent ≡ path →
    rest ≡ record { start = start; positions = path } ∷ later → after ≤ steps + delay (length path) →
    IsNext start.pos lent (map answer_of rest) (map answer_of later) steps after
is_next start path lent rest later steps after same is within =
    let m : Member = record { start = start; positions = path } in record {
      next = ap (map answer_of) is ∙ ap (λ (p : List ℕ). record { start = start.pos; marks = reverse p } ∷ map answer_of later) (sym same);
      within = omega (arith, delay_back m, ap (λ (p : List ℕ). delay_of (record { start = start.pos; marks = reverse p })) same, within);
    }

-- The line of an answer names the query by an equal number.
pub named : (number query end : ℕ) (middle last : Option (List ℕ)) (a : Answer) → number ≡ query →
    TookAll middle last (line number end a) → TookAll middle last (line query end a)
named number query end middle last a same took = subst (λ (n : ℕ). TookAll middle last (line n end a)) same took

pub named_stop : {F : Type 0} (number query end : ℕ) (middle last : Option (List ℕ)) (a : Answer) (e : OrMemory F) → number ≡ query →
    TookBy {T = Unit {0}} middle last (line number end a) (Err e) → TookBy {T = Unit {0}} middle last (line query end a) (Err e)
named_stop number query end middle last a e same took = subst (λ (n : ℕ). TookBy {T = Unit {0}} middle last (line n end a) (Err e)) same took

-- Where the turns are over, as many were given.
pub given_end : (query end : ℕ) (first now : Option (List ℕ)) (all left : List Answer) (n k before after : ℕ) → k ≤ n → n ≤ k →
    Gave query end first now all left k before after → Given query end first now all left n before after
given_end query end first now all left n k before after low high g =
    let same : k ≡ n = omega (arith, low, high) in
    given_n query end first now all left n before after (subst (λ (m : ℕ). Gave query end first now all left m before after) same g)

-- WHETHER ANSWERS ARE LEFT

-- all of the one, and then the other
pub both_by : {F : Type 0} (first middle last : Option (List ℕ)) (xs ys : List ℕ) (result : Result (Unit {0}) (OrMemory F)) → TookAll first middle xs →
    TookBy middle last ys result → TookBy first last (xs ++ ys) result
both_by first middle last xs ys (Ok done) p q = all_after first middle last xs ys p q
both_by first middle last xs ys (Err e) p q = error_after first middle last xs ys [] (xs ++ ys) e (sym (append-nil (xs ++ ys))) p q

none_of : (rest : List Member) → map answer_of rest ≡ [] → rest ≡ []
none_of [] e = refl
none_of (m ∷ rest) e = absurd (omega (arith, ap length e))

end_is : (n : ℕ) (all : List Answer) → drop n all ≡ [] → pull_end n all ≡ end_line
end_is n all none = rw (le-leb (length all) n (omega (arith, length-drop n all, ap length none))) refl

more_is : (n : ℕ) (all : List Answer) → (drop n all ≡ [] → ⊥) → pull_end n all ≡ more_line
more_is n all some = rw (false_from_ne_true (nat_le (length all) n) (λ e. some (drop_all n all (leb-true (length all) n e)))) refl

pub pulled : {F : Type 0} (query end n : ℕ) (first middle last : Option (List ℕ)) (all : List Answer) (rest : List Member) (is_done : Bool) (result : Result (Unit {0}) (OrMemory F)) →
    TookAll first middle (flat_map (line query end) (take n all)) → map answer_of rest ≡ drop n all → (IsTrue is_done ↔ (rest ≡ [])) →
    (is_done ≡ true → TookBy middle last end_line result) → (is_done ≡ false → TookBy middle last more_line result) →
    TookBy first last (pull_text query end n all) result
pulled query end n first middle last all rest true result took left done ended more =
    let none : drop n all ≡ [] = sym left ∙ ap (map answer_of) (done.0 (search rules)) in
    both_by first middle last (flat_map (line query end) (take n all)) (pull_end n all) result took
    (subst (λ (l : List ℕ). TookBy middle last l result) (sym (end_is n all none)) (ended refl))
pulled query end n first middle last all rest false result took left done ended more =
    let some : drop n all ≡ [] → ⊥ = λ none. (let t = done.1 (none_of rest (left ∙ none)) in search (rules, t)) in
    both_by first middle last (flat_map (line query end) (take n all)) (pull_end n all) result took
    (subst (λ (l : List ℕ). TookBy middle last l result) (sym (more_is n all some)) (more refl))
