-- A step of a session as steps of the engine's model.
use Rattle.std.proofs.Common.{◌≡◌, ℕ, zero, suc, ◌<◌, List, [], ◌∷◌, ◌++◌, length, map, take, drop, remove, refl, sym, subst, ap, ◌∙◌, Bool, Some, arith}
use Rattle.std.specs.Prelude.{slice_get, slice_set, position}
use Rattle.std.proofs.lemmas.List.{map-append, take-append-drop}
use Rattle.std.proofs.lemmas.List.Sorted.{IsPermutation-refl}
use Rattle.std.specs.List.Sorted.{IsPermutation}
use Rattle.stream_schema.specs.Types.{Declared}
use Rattle.cel_terms.specs.declared.Query.{Query}
use Rattle.cel_terms.specs.Answers.{Answer}
use Rattle.query_engine.specs.EngineModel as engine
use Rattle.command_session.specs.declared.command.ScriptCommand.{ScriptCommand}
use Rattle.command_session.specs.declared.command.ScriptCommand.TheVariants as command
use Rattle.command_session.specs.SessionModel.{SessionModel, IsStep, has_number}
use Rattle.command_session.specs.EngineSteps.{unnumbered, without_numbers, Talk, IsTalk, AreSteps, NoStep, OneMore}

module _ {A : Type 0} where
  -- an element that is written again
  same_set : (xs : List A) (k : ℕ) (x y : A) → slice_get xs k ≡ Some x → y ≡ x → slice_set xs k y ≡ xs
  same_set [] k x y p e = refl
  same_set (z ∷ xs) zero x y p e = let first : y ≡ z = cc in ap (λ w. w ∷ xs) first
  same_set (z ∷ xs) (suc k) x y p e = ap (λ ys. z ∷ ys) (same_set xs k x y p e)

  -- one that was written is read,
  get_set : (xs : List A) (k : ℕ) (x y : A) → slice_get xs k ≡ Some x → slice_get (slice_set xs k y) k ≡ Some y
  get_set [] k x y p = absurd cc
  get_set (z ∷ xs) zero x y p = refl
  get_set (z ∷ xs) (suc k) x y p = get_set xs k x y p

  -- and written again leaves the last one
  set_set : (xs : List A) (k : ℕ) (x y : A) → slice_set (slice_set xs k x) k y ≡ slice_set xs k y
  set_set [] k x y = refl
  set_set (z ∷ xs) zero x y = refl
  set_set (z ∷ xs) (suc k) x y = ap (λ ys. z ∷ ys) (set_set xs k x y)

  found_inside : (p : A → Bool) (xs : List A) (k : ℕ) → position p xs ≡ Some k → k < length xs
  found_inside p xs k e = grind (arith, e)

module _ {A B : Type 0} (f : A → B) where
  get_mapped : (xs : List A) (k : ℕ) (x : A) → slice_get xs k ≡ Some x → slice_get (map f xs) k ≡ Some (f x)
  get_mapped [] k x p = absurd cc
  get_mapped (z ∷ xs) zero x p = let first : z ≡ x = cc in ap (λ w. Some (f w)) first
  get_mapped (z ∷ xs) (suc k) x p = get_mapped xs k x p

  set_mapped : (xs : List A) (k : ℕ) (x : A) → map f (slice_set xs k x) ≡ slice_set (map f xs) k (f x)
  set_mapped [] k x = refl
  set_mapped (z ∷ xs) zero x = refl
  set_mapped (z ∷ xs) (suc k) x = ap (λ ys. f z ∷ ys) (set_mapped xs k x)

  length_mapped : (xs : List A) → length (map f xs) ≡ length xs
  length_mapped [] = refl
  length_mapped (x ∷ xs) = ap suc (length_mapped xs)

  remove_mapped : (xs : List A) (k : ℕ) → map f (remove xs k) ≡ remove (map f xs) k
  remove_mapped [] zero = refl
  remove_mapped [] (suc k) = refl
  remove_mapped (z ∷ xs) zero = refl
  remove_mapped (z ∷ xs) (suc k) = ap (λ ys. f z ∷ ys) (remove_mapped xs k)

module _ (schema : Declared) (queries : List Query) where
  -- so many answers are pulled, one after the other
  pulls : (given others : List Answer) (m : engine.EngineModel) (k : ℕ) (cursor : engine.OpenCursor) → slice_get m.cursors k ≡ Some cursor → cursor.left ≡ given ++ others →
      AreSteps schema queries m (map (λ answer. (engine.Pull k, engine.Gives answer)) given) (engine.with_left m k cursor others)
  pulls [] others m k cursor here left =
      let same : record cursor { left = others } ≡ cursor = ap (λ answers. record cursor { left = answers }) (sym left) in
      subst (AreSteps schema queries m []) (ap (λ cursors. record m { cursors = cursors }) (sym (same_set m.cursors k cursor (record cursor { left = others }) here same))) (NoStep m)
  pulls (a ∷ given) others m k cursor here left =
      let rest : engine.OpenCursor = record cursor { left = given ++ others } in
      let next : engine.EngineModel = engine.with_left m k cursor (given ++ others) in
      let step : engine.IsStep schema queries m (engine.Pull k) (engine.Gives a) next =
      engine.Given m k cursor a (given ++ others) here (subst (λ (answers : List Answer). IsPermutation cursor.left answers) left (IsPermutation-refl cursor.left)) in
      let more = pulls given others next k rest (get_set m.cursors k cursor rest here) refl in
      let twice : engine.with_left next k rest others ≡ engine.with_left m k cursor others = ap (λ cursors. record m { cursors = cursors }) (set_set m.cursors k rest (record cursor { left = others })) in
      OneMore m next (engine.with_left m k cursor others) (engine.Pull k) (engine.Gives a) _ step (subst (AreSteps schema queries next (map (λ answer. (engine.Pull k, engine.Gives answer)) given)) twice more)

  only : (a b c : engine.EngineModel) (command : engine.Command) (reply : engine.Reply) → b ≡ c → engine.IsStep schema queries a command reply b → AreSteps schema queries a ((command, reply) ∷ []) c
  only a b c command reply e step = OneMore a b c command reply [] step (subst (AreSteps schema queries b []) e (NoStep b))

  -- Each command of a session.
  pub talked : (c : ScriptCommand) (old new : SessionModel) (bytes : List ℕ) → IsStep schema queries c old new bytes →
      (talk : Talk) × IsTalk c old talk × AreSteps schema queries (without_numbers old) talk (without_numbers new)
  talked (command.Event event) old new bytes s =
      (_, refl, only (without_numbers old) (engine.with_event (without_numbers old) event) (without_numbers new) (engine.Take event) engine.Done (sym (ap without_numbers s.after)) (engine.Taken (without_numbers old) event s.in_time))
  talked (command.OpenAt query number) old new bytes s =
      let added : engine.with_cursor (without_numbers old) query s.answers ≡ without_numbers new =
      sym (ap without_numbers s.after ∙ ap (λ cursors. record { events = old.events; cursors = cursors }) (map-append unnumbered old.cursors _)) in
      (_, refl, only (without_numbers old) (engine.with_cursor (without_numbers old) query s.answers) (without_numbers new) (engine.Begin query) engine.Done added (engine.Begun (without_numbers old) query s.q s.answers s.one s.numbered s.seen s.are))
  talked (command.Pull number n) old new bytes s =
      let cut : s.cursor.left ≡ take n s.cursor.left ++ drop n s.cursor.left = sym (take-append-drop n s.cursor.left) in
      let there = get_mapped unnumbered old.cursors s.place s.cursor s.at in
      let written : engine.with_left (without_numbers old) s.place (unnumbered s.cursor) (drop n s.cursor.left) ≡ without_numbers new =
      sym (ap without_numbers s.after ∙ ap (λ cursors. record { events = old.events; cursors = cursors }) (set_mapped unnumbered old.cursors s.place (record s.cursor { left = drop n s.cursor.left }))) in (
        _,
        (s.place, s.cursor, s.here, s.at, refl),
        subst (AreSteps schema queries (without_numbers old) (map (λ answer. (engine.Pull s.place, engine.Gives answer)) (take n s.cursor.left))) written
            (pulls (take n s.cursor.left) (drop n s.cursor.left) (without_numbers old) s.place (unnumbered s.cursor) there cut),
      )
  talked (command.Drop number) old new bytes s =
      let inside = found_inside (has_number number) old.cursors s.place s.here in
      let long = length_mapped unnumbered old.cursors in
      let gone : engine.without_cursor (without_numbers old) s.place ≡ without_numbers new =
      sym (ap without_numbers s.after ∙ ap (λ cursors. record { events = old.events; cursors = cursors }) (remove_mapped unnumbered old.cursors s.place)) in
      (_, (s.place, s.here, refl), only (without_numbers old) (engine.without_cursor (without_numbers old) s.place) (without_numbers new) (engine.Drop s.place) engine.Done gone (engine.Dropped (without_numbers old) s.place (omega arith)))
  talked command.Compact old new bytes s =
      (_, refl, only (without_numbers old) (without_numbers old) (without_numbers new) engine.Compact engine.Done (sym (ap without_numbers s.0)) (engine.Compacted (without_numbers old)))
