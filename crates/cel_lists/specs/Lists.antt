-- The valuations of a formula as lists: what each step of the evaluation computes.
-- Nobody needs to believe these; the public contracts speak of the meaning alone.
use Rattle.std.specs.Prelude.{ℕ, zero, suc, Bool, true, false, not, ◌&&◌, ◌||◌, if◌then◌else◌, nat_lt, List, [], ◌∷◌, ◌++◌, map, filter, length, Option, Some, None, slice_get, bytes_eq, fold}
use Rattle.std.specs.List.{list_any, list_all, filter_map, flat_map}
use Rattle.std.specs.Option.{option_map_or}
use Rattle.stream_schema.specs.Types.{Declared}
use Rattle.stream_schema.specs.declared.Event.{Event}
use Rattle.cel_terms.specs.declared.Pred.{Pred}
use Rattle.cel_terms.specs.declared.Filter.{Filter, On, All', Any', Row_of-Filter, end_of-Filter, more_of-Filter}
use Rattle.cel_terms.specs.declared.Postfix.{Postfix}
use Rattle.cel_terms.specs.declared.Postfix.TheVariants.{Plus, NextPlus, Named, Keep}
use Rattle.cel_terms.specs.declared.Formula.{Formula, Of, Chain', Linked', Either', Post', Under', Row_of-Formula, end_of-Formula, more_of-Formula, Row_of-Link, end_of-Link, more_of-Link}
use Rattle.cel_terms.specs.declared.Link.{Link, out-Link}
use Rattle.cel_terms.specs.Predicate.{holds}
use Rattle.cel_terms.specs.Meaning.{Bound, Valuation, event_type_name, lists_name, with_name, only_names}
use Rattle.cel_lists.specs.declared.Match.{Match}

abbrev pub is_between : ℕ → ℕ → ℕ → Bool
is_between from to p = nat_lt from p && nat_lt p to

-- whether the one position may follow the other, where tight with none of the substream between
abbrev pub may_follow : List ℕ → Bool → ℕ → ℕ → Bool
may_follow positions tight from to = nat_lt from to && not (tight && list_any (is_between from to) positions)

abbrev pub joined : Match → Match → Match
joined a b = record { start = a.start; end = b.end; bounds = a.bounds ++ b.bounds }

abbrev pub join_if : List ℕ → Bool → Match → Match → Option Match
join_if positions tight a b = if may_follow positions tight a.end b.start then Some (joined a b) else None

abbrev pub in_sequence : List ℕ → Bool → List Match → List Match → List Match
in_sequence positions tight first second = flat_map (λ a. filter_map (join_if positions tight a) second) first

-- so many times and once more, each after the one before
abbrev pub times : List ℕ → Bool → List Match → ℕ → List Match
times positions tight part zero = part
times positions tight part (suc n) = in_sequence positions tight part (times positions tight part n)

-- at most so many times and once more
abbrev pub up_to : List ℕ → Bool → List Match → ℕ → List Match
up_to positions tight part zero = part
up_to positions tight part (suc n) = up_to positions tight part n ++ times positions tight part (suc n)

-- what a postfix does to the names of a position
abbrev pub change : Postfix → List (List ℕ) → List (List ℕ)
change Plus names = names
change NextPlus names = names
change (Named name) names = with_name name.text names
change (Keep kept) names = only_names kept names

abbrev pub changed_bound : Postfix → Bound → Bound
changed_bound p b = record { position = b.position; names = change p b.names }

abbrev pub changed : Postfix → Match → Match
changed p m = record { start = m.start; end = m.end; bounds = map (changed_bound p) m.bounds }

abbrev pub is_of_type : Declared → List ℕ → Event → Bool
is_of_type schema name event = option_map_or (λ n. bytes_eq n name) (event_type_name schema event) false

abbrev pub single : List ℕ → ℕ → Match
single name position = record { start = position; end = position; bounds = record { position = position; names = name ∷ [] } ∷ [] }

abbrev pub single_at : Declared → List Event → List ℕ → ℕ → Option Match
single_at schema events name position =
    if option_map_or (is_of_type schema name) (slice_get events position) false then Some (single name position) else None

abbrev pub singles : Declared → List Event → List ℕ → List ℕ → List Match
singles schema events positions name = filter_map (single_at schema events name) positions

-- whether the predicate holds of the event there, where the name's set has the position
abbrev pub passes : Declared → List Event → List ℕ → Pred → Bound → Bool
passes schema events name pred b =
    not (lists_name b.names name) || option_map_or (holds schema pred) (slice_get events b.position) true

abbrev mutual
  pub meets : Declared → List Event → Filter → Valuation → Bool
  meets schema events (On name pred) v = list_all (passes schema events name.text pred) v
  meets schema events (All' s filters) v = meets_all schema events filters v
  meets schema events (Any' s filters) v = meets_any schema events filters v

  pub meets_all : Declared → List Event → {m : _} → Row_of-Filter m → Valuation → Bool
  meets_all schema events end_of-Filter v = true
  meets_all schema events (more_of-Filter c rest) v = meets schema events c v && meets_all schema events rest v

  pub meets_any : Declared → List Event → {m : _} → Row_of-Filter m → Valuation → Bool
  meets_any schema events end_of-Filter v = false
  meets_any schema events (more_of-Filter c rest) v = meets schema events c v || meets_any schema events rest v

abbrev pub filtered : Declared → List Event → List Match → Filter → List Match
filtered schema events part c = filter (λ m. meets schema events c m.bounds) part

abbrev pub after_postfix : List Event → List ℕ → List Match → Postfix → List Match
after_postfix events positions part Plus = up_to positions false part (length events)
after_postfix events positions part NextPlus = up_to positions true part (length events)
after_postfix events positions part (Named name) = map (changed (Named name)) part
after_postfix events positions part (Keep kept) = map (changed (Keep kept)) part

-- the valuations of a formula with their intervals
abbrev mutual
  pub matches_of : Declared → List Event → List ℕ → Formula → List Match
  matches_of schema events positions (Of name) = singles schema events positions name.text
  matches_of schema events positions (Chain' s parts) = matches_of_first schema events positions parts
  matches_of schema events positions (Linked' p first s links) = matches_of_links schema events positions (matches_of schema events positions first) links
  matches_of schema events positions (Either' s choices) = matches_of_choices schema events positions choices
  matches_of schema events positions (Post' p base postfixes) = fold (after_postfix events positions) (matches_of schema events positions base) postfixes.items
  matches_of schema events positions (Under' p base filters) = fold (filtered schema events) (matches_of schema events positions base) filters.items

  pub matches_of_first : Declared → List Event → List ℕ → {m : _} → Row_of-Formula m → List Match
  matches_of_first schema events positions end_of-Formula = []
  matches_of_first schema events positions (more_of-Formula f rest) = matches_of_chain schema events positions (matches_of schema events positions f) rest

  pub matches_of_chain : Declared → List Event → List ℕ → {m : _} → List Match → Row_of-Formula m → List Match
  matches_of_chain schema events positions before end_of-Formula = before
  matches_of_chain schema events positions before (more_of-Formula f rest) = matches_of_chain schema events positions (in_sequence positions false before (matches_of schema events positions f)) rest

  pub matches_of_links : Declared → List Event → List ℕ → {m : _} → List Match → Row_of-Link m → List Match
  matches_of_links schema events positions before end_of-Link = before
  matches_of_links schema events positions before (more_of-Link tight next rest) = matches_of_links schema events positions (in_sequence positions tight before (matches_of schema events positions next)) rest

  pub matches_of_choices : Declared → List Event → List ℕ → {m : _} → Row_of-Formula m → List Match
  matches_of_choices schema events positions end_of-Formula = []
  matches_of_choices schema events positions (more_of-Formula f rest) = matches_of schema events positions f ++ matches_of_choices schema events positions rest

-- the formulas one after another
abbrev pub listed_chain : Declared → List Event → List ℕ → List Formula → List Match
listed_chain schema events positions [] = []
listed_chain schema events positions (f ∷ fs) = fold (λ before g. in_sequence positions false before (matches_of schema events positions g)) (matches_of schema events positions f) fs

-- the links one after another, after what stands before them
abbrev pub listed_links : Declared → List Event → List ℕ → List Match → List Link → List Match
listed_links schema events positions = fold (λ before l. in_sequence positions (out-Link l).tight before (matches_of schema events positions (out-Link l).next))

-- those of each formula
abbrev pub listed_choices : Declared → List Event → List ℕ → List Formula → List Match
listed_choices schema events positions = flat_map (matches_of schema events positions)
