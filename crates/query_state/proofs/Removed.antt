-- Keys without lists are removed, one after the other.
use Rattle.std.proofs.Common.{◌≡◌, ◌≢◌, ℕ, ◌+◌, ◌-◌, ◌<◌, ◌≤◌, ◌⊎◌, inl, inr, Bool, true, false, List, [], ◌∷◌, length, map, take, refl, sym, ap, subst, ◌∙◌, Option, Some, None, slice_get, get_or, arith}
use Rattle.std.specs.Prelude.{option_map, cond, ◌==◌, nat_lt, swap_remove, slice_set, slice_index_or}
use Rattle.std.proofs.lemmas.Bool.{eqb-true, eqb-false, ltb-true, ltb-false}
use Rattle.std.proofs.lemmas.Option.{slice_get-map, slice_get-get_or, slice_get_within}
use Rattle.std.proofs.lemmas.List.{take-map, map-set, get_or-map, length-map}
use Rattle.stream_schema.specs.declared.Value.{Value}
use Rattle.query_standing.specs.Kept.{Rows}
use Rattle.query_standing.specs.Giving.{AreRemoved, renumbered}
use Rattle.query_standing.proofs.GivingOne.{shorter, came, given_one}
use Rattle.query_state.specs.declared.lists.Lists.{Lists}
use Rattle.query_state.specs.Dropping.{rows_of, HaveLists}

rows : Lists → Rows
rows l = l.active.entries

-- what a key's place has
row_at : (ls : List Lists) (n : ℕ) (l : Lists) → n < length ls → l ≡ get_or ls n l → slice_get (rows_of ls) n ≡ Some l.active.entries
row_at ls n l less is =
    let one = slice_get-map (λ (x : Lists). x.active.entries) ls n in
    let two = slice_get-get_or ls n l less in
    one ∙ ap (λ (o : Option Lists). option_map (λ (x : Lists). x.active.entries) o) (two ∙ ap (λ x. Some x) (sym is))

-- a key whose lists are none
pub none_at : (ls : List Lists) (n count : ℕ) (l : Lists) → n < length ls → l ≡ get_or ls n l → count ≡ length (get_or ls n l).active.entries → nat_lt 0 count ≡ false → slice_get (rows_of ls) n ≡ Some []
none_at ls n count l less is len none = row_at ls n l less is ∙ ap (λ x. Some x) (empty l.active.entries (let z = ltb-false 0 count none in let e : count ≡ length l.active.entries = len ∙ ap (λ (x : Lists). length x.active.entries) (sym is) in omega arith))
  where
    empty : (xs : Rows) → length xs ≤ 0 → xs ≡ []
    empty [] h = refl
    empty (x ∷ xs) h = absurd (omega arith)

-- one whose lists are some has not none
pub some_at : (ls : List Lists) (n count : ℕ) (l : Lists) → n < length ls → l ≡ get_or ls n l → count ≡ length (get_or ls n l).active.entries → nat_lt 0 count ≡ true → slice_get (rows_of ls) n ≡ Some [] → ⊥
some_at ls n count l less is len some none =
    let same : l.active.entries ≡ [] = (let both = sym (row_at ls n l less is) ∙ none in cc) in
    let long = ap (λ (xs : Rows). length xs) same in
    let more = ltb-true 0 count some in
    let e : count ≡ length l.active.entries = len ∙ ap (λ (x : Lists). length x.active.entries) (sym is) in
    omega arith

-- the last key's lists take a place
moved_rows : (ls : List Lists) (n : ℕ) (l : Lists) → n < length ls → rows_of (swap_remove ls n l) ≡ swap_remove (rows_of ls) n l.active.entries
moved_rows ls n l less =
    let f = λ (x : Lists). x.active.entries in
    let last = length ls - 1 in
    let moved = slice_set ls n (slice_index_or ls last l) in
    let one : take last (map f moved) ≡ map f (take last moved) = take-map f last moved in
    let two : map f moved ≡ slice_set (map f ls) n (f (slice_index_or ls last l)) = map-set f ls n (slice_index_or ls last l) in
    let three : slice_index_or (map f ls) last (f l) ≡ f (slice_index_or ls last l) = get_or-map f ls last l (f l) (omega arith) in
    let long : length (map f ls) ≡ length ls = length-map ls f in
    sym one ∙ (ap (take last) (two ∙ ap (λ (x : Rows). slice_set (map f ls) n x) (sym three))
    ∙ ap (λ k. take (k - 1) (slice_set (map f ls) n (slice_index_or (map f ls) (k - 1) (f l)))) (sym long))

module _ (keys new_keys : List (List Value)) (ls new : List Lists) (number : ℕ) (told after : Option ℕ) (l : Lists) where
  -- one key is removed
  pub record IsOne : Type 0 where
    pub count : length keys ≡ length ls
    pub none : slice_get (rows_of ls) number ≡ Some []
    pub untold : told ≡ Some number → ⊥
    pub keys_are : (key : List Value) → new_keys ≡ swap_remove keys number key
    pub lists_are : new ≡ swap_remove ls number l
    pub told_is : after ≡ renumbered (length ls - 1) number told

  pub one_given : IsOne → AreRemoved keys (rows_of ls) told new_keys (rows_of new) after
  one_given h =
      let f = λ (x : Lists). x.active.entries in
      let long : length (rows_of ls) ≡ length ls = length-map ls f in
      let within = slice_get_within (rows_of ls) number [] h.none in
      let given = given_one keys (rows_of ls) told number [] l.active.entries (let c = h.count in omega arith) h.none h.untold in
      let moved : rows_of new ≡ swap_remove (rows_of ls) number l.active.entries = ap rows_of h.lists_are ∙ moved_rows ls number l (omega arith) in
      subst (λ ks. AreRemoved keys (rows_of ls) told ks (rows_of new) after) (sym (h.keys_are []))
      (subst (λ rs. AreRemoved keys (rows_of ls) told (swap_remove keys number []) rs after) (sym moved)
      (subst (λ o. AreRemoved keys (rows_of ls) told (swap_remove keys number []) (swap_remove (rows_of ls) number l.active.entries) o) (sym (h.told_is ∙ ap (λ n. renumbered (n - 1) number told) (sym h.count))) given))

  pub one_count : IsOne → length new_keys ≡ length new
  one_count h =
      let long : length (rows_of ls) ≡ length ls = length-map ls (λ (x : Lists). x.active.entries) in
      let within = slice_get_within (rows_of ls) number [] h.none in
      let c = h.count in
      let a = shorter keys number [] (omega arith) in
      let b = shorter ls number l (omega arith) in
      ap (λ (xs : List (List Value)). length xs) (h.keys_are []) ∙ ((let z = a in omega arith) ∙ ap (λ (xs : List Lists). length xs) (sym h.lists_are))

  pub one_kept : IsOne → HaveLists (number + 1) (rows_of ls) told → HaveLists number (rows_of new) after
  one_kept h have n le is =
      let long : length (rows_of ls) ≡ length ls = length-map ls (λ (x : Lists). x.active.entries) in
      let within = slice_get_within (rows_of ls) number [] h.none in
      let moved : rows_of new ≡ swap_remove (rows_of ls) number l.active.entries = ap rows_of h.lists_are ∙ moved_rows ls number l (omega arith) in
      h.told_is ∙ go (came (rows_of ls) number l.active.entries n [] within (subst (λ rs. slice_get rs n ≡ Some []) moved is))
    where
      at_last : (b : Bool) → (length ls - 1 == length ls - 1) ≡ b → cond b number (length ls - 1) ≡ number
      at_last true e = refl
      at_last false e = absurd (eqb-false (length ls - 1) (length ls - 1) e refl)

      other : (b : Bool) → (n == length ls - 1) ≡ b → n + 1 < length ls → cond b number n ≡ n
      other false e less = refl
      other true e less = let same = eqb-true n (length ls - 1) e in absurd (omega arith)

      go : (n + 1 < length (rows_of ls)) × (((n ≡ number) × (slice_get (rows_of ls) (length (rows_of ls) - 1) ≡ Some [])) ⊎ ((n ≢ number) × (slice_get (rows_of ls) n ≡ Some []))) → renumbered (length ls - 1) number told ≡ Some n
      go (less, inl a) =
          let long : length (rows_of ls) ≡ length ls = length-map ls (λ (x : Lists). x.active.entries) in
          let e = a.0 in
          let last : told ≡ Some (length ls - 1) = have (length ls - 1) (omega arith) (subst (λ k. slice_get (rows_of ls) (k - 1) ≡ Some []) long a.1) in
          ap (renumbered (length ls - 1) number) last ∙ ap (λ x. Some x) (at_last (length ls - 1 == length ls - 1) refl ∙ sym e)
      go (less, inr a) =
          let long : length (rows_of ls) ≡ length ls = length-map ls (λ (x : Lists). x.active.entries) in
          let apart = a.0 in
          let own : told ≡ Some n = have n (more le apart) a.1 in
          ap (renumbered (length ls - 1) number) own ∙ ap (λ x. Some x) (other (n == length ls - 1) refl (omega arith))
        where
          more : number ≤ n → n ≢ number → number + 1 ≤ n
          more le apart = omega arith

-- what is said of the number of the key that stayed, of the number that was told
pub given_told : (keys new : List (List Value)) (lists new_lists : List Rows) (told stays now result : Option ℕ) → ((told ≡ None → ⊥) → stays ≡ told) → (told ≡ None → result ≡ None) → ((told ≡ None → ⊥) → result ≡ now) →
    AreRemoved keys lists stays new new_lists now → AreRemoved keys lists told new new_lists result
given_told keys new lists new_lists None stays now result same none some g =
    subst (AreRemoved keys lists None new new_lists) (sym (none refl)) (record { distinct = g.distinct; lists = g.lists; stays = g.stays; gone = g.gone; here = tt })
given_told keys new lists new_lists (Some n) stays now result same none some g =
    let told : Some n ≡ None → ⊥ = λ e. absurd cc in
    subst (AreRemoved keys lists (Some n) new new_lists) (sym (some told)) (subst (λ o. AreRemoved keys lists o new new_lists now) (same told) g)
