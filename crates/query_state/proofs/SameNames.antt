-- Queries that name the same streams read the same types, and those that are partitioned by the same attributes have keys at
-- the same places.
use Rattle.std.proofs.Common.{◌≡◌, ℕ, Bool, List, [], ◌∷◌, ◌++◌, refl, ap, ap₂, ◌∙◌, Option, option_map, option_and_then}
use Rattle.std.specs.Prelude.{◌==◌}
use Rattle.std.specs.List.{list_any}
use Rattle.stream_schema.specs.Types.{Declared}
use Rattle.stream_schema.specs.Names.{attr_at}
use Rattle.stream_schema.specs.declared.AttrAt.{AttrAt}
use Rattle.cel_terms.specs.declared.Name.{Name}
use Rattle.cel_terms.specs.declared.Query.{Query}
use Rattle.cel_terms.specs.Answers.{query_types, types_of_stream}
use Rattle.query_state.specs.KeyPlaces.{places_in, AreKeyPlaces}
use Rattle.query_state.specs.QueryStates.{AreTypesRead, texts_of}

types_alike : (schema : Declared) (one other : List Name) → texts_of one ≡ texts_of other → query_types schema one ≡ query_types schema other
types_alike schema [] [] e = refl
types_alike schema [] (m ∷ ms) e = absurd cc
types_alike schema (n ∷ ns) [] e = absurd cc
types_alike schema (n ∷ ns) (m ∷ ms) e =
    let head : n.text ≡ m.text = cc in
    let tail : texts_of ns ≡ texts_of ms = cc in
    ap₂ (λ text types. types_of_stream schema.streams text ++ types) head (types_alike schema ns ms tail)

places_alike : (schema : Declared) (ty : ℕ) (one other : List Name) → texts_of one ≡ texts_of other → places_in schema one ty ≡ places_in schema other ty
places_alike schema ty [] [] e = refl
places_alike schema ty [] (m ∷ ms) e = absurd cc
places_alike schema ty (n ∷ ns) [] e = absurd cc
places_alike schema ty (n ∷ ns) (m ∷ ms) e =
    let head : n.text ≡ m.text = cc in
    let tail : texts_of ns ≡ texts_of ms = cc in
    ap₂ (λ text (rest : Option (List ℕ)). option_and_then (λ (at : AttrAt). option_map (λ (ps : List ℕ). at.index ∷ ps) rest) (attr_at schema ty text)) head (places_alike schema ty ns ms tail)

-- what the table tells of one query it tells of each other over the same streams
pub read_alike : (schema : Declared) (p q : Query) (table : List Bool) → texts_of p.streams ≡ texts_of q.streams → AreTypesRead schema p table → AreTypesRead schema q table
read_alike schema p q table same told ty less = told ty less ∙ ap (λ types. list_any (λ t. t == ty) types) (types_alike schema p.streams q.streams same)

-- and of each other that is partitioned by the same attributes
pub keyed_alike : (schema : Declared) (p q : Query) (table : List (Option (List ℕ))) → texts_of p.partition ≡ texts_of q.partition → AreKeyPlaces schema p table → AreKeyPlaces schema q table
keyed_alike schema p q table same told ty less = told ty less ∙ places_alike schema ty p.partition q.partition same
