-- What a keeper has of the events that came.
use Rattle.std.proofs.Common.{◌≡◌, ℕ, ◌+◌, ℤ, false, List, [], ◌∷◌, ◌++◌, filter, length, Option, refl, sym, ap, ap₂, ◌∙◌, subst, arith, append_assoc}
use Rattle.std.specs.Prelude.{fold}
use Rattle.std.proofs.Math.Path.{fun_ext}
use Rattle.std.proofs.lemmas.List.{append-nil, map-append}
use Rattle.stream_schema.specs.Types.{Declared}
use Rattle.stream_schema.specs.declared.Event.{Event}
use Rattle.cel_terms.specs.declared.Query.{Query}
use Rattle.checkpoint_text.specs.declared.history.EventAt.{EventAt}
use Rattle.checkpoint_text.specs.declared.keeping.KeptLine.{KeptLine}
use Rattle.checkpoint_text.specs.QueryClocks.{some_falls, NoneFallsAfter, NoneFalls}
use Rattle.checkpoint_text.specs.LastClocks.{last_clocks, next_clocks}
use Rattle.checkpoint_text.specs.Keeping.{Keeper, needed, with_event}
use Rattle.checkpoint_text.specs.KeepLaws.{keeping, placed_lines_from, placed_lines, events_of, kept_lines}
use Rattle.checkpoint_text.proofs.Falling.{any_back_is, next_are}
use Rattle.checkpoint_text.proofs.Needs.{needed_on, any_needs_is}

-- the keeper once these lines have come
abbrev pub kept_of : Declared → List Query → ℕ → List KeptLine → Keeper
kept_of schema queries n lines = record {
  schema = schema;
  queries = queries;
  positions = n;
  lines = needed schema queries (last_clocks schema queries (events_of lines)) lines;
  lasts = last_clocks schema queries (events_of lines);
}

-- the same from its last clocks
abbrev with_lasts : Declared → List Query → ℕ → List KeptLine → List (Option ℤ) → Keeper
with_lasts schema queries n lines lasts = record { schema = schema; queries = queries; positions = n; lines = needed schema queries lasts lines; lasts = lasts }

one_more : (schema : Declared) (queries : List Query) (n : ℕ) (before : List KeptLine) (line : KeptLine) → line.at.position ≡ n → some_falls schema queries (events_of before) line.at ≡ false →
    with_event (kept_of schema queries n before) line.at.event line.text ≡ kept_of schema queries (n + 1) (before ++ line ∷ [])
one_more schema queries n before line at level =
    let lasts = last_clocks schema queries (events_of before) in
    let e : EventAt = record { position = n; event = line.at.event } in
    let same : e ≡ line.at = ap (λ p. record { position = p; event = line.at.event }) (sym at) in
    let this : KeptLine = record { at = e; text = line.text } in
    let is : this ≡ line = ap (λ (x : EventAt). record { at = x; text = line.text }) same in
    let quiet : some_falls schema queries (events_of before) e ≡ false = ap (some_falls schema queries (events_of before)) same ∙ level in
    let next : next_clocks schema queries lasts e ≡ last_clocks schema queries (events_of (before ++ line ∷ [])) =
    next_are schema queries (events_of before) e ∙ ap (λ (x : EventAt). last_clocks schema queries (events_of before ++ x ∷ [])) same ∙ ap (last_clocks schema queries) (sym (map-append (λ (l : KeptLine). l.at) before (line ∷ []))) in
    ap (λ (ls : List KeptLine). record { schema = schema; queries = queries; positions = n + 1; lines = ls; lasts = next_clocks schema queries lasts e })
    (needed_on schema queries lasts e before (this ∷ []) (any_back_is schema queries (events_of before) e ∙ quiet) ∙ ap (λ (l : KeptLine). needed schema queries (next_clocks schema queries lasts e) (before ++ l ∷ [])) is)
    ∙ ap (with_lasts schema queries (n + 1) (before ++ line ∷ [])) next

pub keep_on : (schema : Declared) (queries : List Query) (n : ℕ) (before : List KeptLine) (came : List (Event × List ℕ)) → NoneFallsAfter schema queries (events_of before) (events_of (placed_lines_from n came)) →
    fold (λ keeper e. with_event keeper e.0 e.1) (kept_of schema queries n before) came ≡ kept_of schema queries (n + length came) (before ++ placed_lines_from n came)
keep_on schema queries n before [] level =
    let now : n ≡ n + 0 = omega arith in
    ap₂ (kept_of schema queries) now (sym (append-nil before))
keep_on schema queries n before (e ∷ came) level =
    let line : KeptLine = record { at = record { position = n; event = e.0 }; text = e.1 } in
    let more : n + 1 + length came ≡ n + length (e ∷ came) = omega arith in
    let P : List EventAt → Type 0 = λ es. NoneFallsAfter schema queries es (events_of (placed_lines_from (n + 1) came)) in
    ap (λ keeper. fold (λ keeper e. with_event keeper e.0 e.1) keeper came) (one_more schema queries n before line refl level.0)
    ∙ keep_on schema queries (n + 1) (before ++ line ∷ []) came (subst P (sym (map-append (λ (l : KeptLine). l.at) before (line ∷ []))) level.1)
    ∙ ap₂ (kept_of schema queries) more (append_assoc before (line ∷ []) (placed_lines_from (n + 1) came))

pub keepers_keep : (schema : Declared) (queries : List Query) (came : List (Event × List ℕ)) → NoneFalls schema queries (events_of (placed_lines came)) →
    ((keeping schema queries came).lines ≡ kept_lines schema queries (placed_lines came)) × ((keeping schema queries came).positions ≡ length came)
keepers_keep schema queries came level =
    let all : keeping schema queries came ≡ kept_of schema queries (0 + length came) (placed_lines came) = keep_on schema queries 0 [] came level in
    let count : 0 + length came ≡ length came = omega arith in (
      ap (λ (k : Keeper). k.lines) all ∙ ap (λ test. filter test (placed_lines came)) (fun_ext (λ (l : KeptLine). any_needs_is schema queries (events_of (placed_lines came)) l.at)),
      ap (λ (k : Keeper). k.positions) all ∙ count,
    )
