-- What the text that a leaf asks for opens with.
use Rattle.std.specs.Prelude.{◌≡◌, ℕ, ◌<◌, Bool, true, ◌&&◌, eqb, List, length, Some, slice_get, slice_index_or}
use Rattle.stream_schema.specs.declared.Event.{Event}
use Rattle.stream_schema.specs.declared.Value.TheVariants as value
use Rattle.query_index.specs.declared.text_prefilters.TextPrefilter.{TextPrefilter}
use Rattle.query_index.specs.declared.text_prefilters.TheConstants.{NOWHERE}

-- the text has this length and this first byte, which is 0 for the empty text
abbrev pub opens : TextPrefilter → List ℕ → Bool
opens o text = eqb (length text) o.length && eqb (slice_index_or text 0 0) o.first

-- where the test holds, the text at the prefilter's place, if there is one, opens so; what is nowhere asks for nothing
abbrev pub AsksToOpen : TextPrefilter → (Event → Bool) → Type 0
AsksToOpen o holds = (event : Event) (text : List ℕ) → o.place < NOWHERE → holds event ≡ true → slice_get event.values o.place ≡ Some (value.Text text) → opens o text ≡ true
