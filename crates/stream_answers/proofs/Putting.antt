-- The blocks of one position, put after what is held.
use Rattle.std.proofs.Common.{◌≡◌, ℕ, List, [], ◌++◌, take, drop, Option, Some, None, Result, Ok, Err, refl, sym, ◌∙◌, ap, subst}
use Rattle.std.proofs.lemmas.List.{append-nil, take-append-drop}
use Rattle.cer_base.specs.declared.OrMemory.{OrMemory}
use Rattle.cer_base.specs.declared.OrMemory.TheVariants.{Fault, Memory}
use Rattle.stream_schema.specs.Types.{Declared}
use Rattle.stream_schema.specs.declared.Event.{Event}
use Rattle.cel_terms.specs.declared.Query.{Query}
use Rattle.answer_text.specs.declared.Order.{Order}
use Rattle.answer_text.specs.declared.Order.TheVariants.{Walk}
use Rattle.answer_text.specs.Output.{AreBlocks}
use Rattle.answer_blocks.specs.SinkBytes.{TookPrefix, TookBy}
use Rattle.answer_blocks.proofs.Blocks.{some_blocks_are}
use Rattle.stream_answers.specs.Gathering.{OutputState, PassesOn, Passed}
use Rattle.stream_answers.proofs.Portions.{took_none}

-- lines that are written at once
walk_memory : (before after : Option (List ℕ)) (came : List ℕ) → TookPrefix before after came → (rest : List ℕ) × PassesOn before after [] came [] rest
walk_memory None after came took = (came, record { written = []; took = took; whole = refl })
walk_memory (Some b) None came took = absurd took
walk_memory (Some b) (Some a) came took =
    (drop took.count came, record { written = take took.count came; took = ap Some took.took; whole = sym (take-append-drop took.count came) })

pub passed_walk : {T F : Type 0} (before after : Option (List ℕ)) (came : List ℕ) (result : Result T (OrMemory F)) → TookBy before after came result → Passed before after [] came [] result
passed_walk before after came (Ok done) took = record { written = came; took = took; whole = sym (append-nil came) }
passed_walk before after came (Err (Fault f)) took = took
passed_walk before after came (Err Memory) took = walk_memory before after came took

pub walk_put : {T F : Type 0} (schema : Declared) (queries : List Query) (events : List Event) (end : ℕ) (order : Order) (buffer : List ℕ) (s : OutputState) (before after : Option (List ℕ)) (result : Result T (OrMemory F)) →
    record { order = order; buffer = buffer } ≡ s → order ≡ Walk → (order ≡ Walk → buffer ≡ []) →
    (bytes : List ℕ) × AreBlocks Walk schema 1 queries events end bytes × TookBy before after bytes result →
    (bytes : List ℕ) × AreBlocks s.order schema 1 queries events end bytes × Passed before after s.buffer bytes buffer result
walk_put schema queries events end order buffer s before after result view is empty put =
    let P : OutputState → Type 0 = λ g. (bytes : List ℕ) × AreBlocks g.order schema 1 queries events end bytes × Passed before after g.buffer bytes buffer result in
    let B : Order → Type 0 = λ o. AreBlocks o schema 1 queries events end put.0 in
    let H : List ℕ → Type 0 = λ h. Passed before after h put.0 h result in
    subst P view (put.0, subst B (sym is) put.1, subst H (sym (empty is)) (passed_walk before after put.0 result put.2))

-- memory ran out, and all that was held is
pub kept_put : (schema : Declared) (queries : List Query) (events : List Event) (end : ℕ) (order : Order) (buffer now : List ℕ) (s : OutputState) (before : Option (List ℕ)) →
    record { order = order; buffer = buffer } ≡ s → now ≡ buffer →
    (bytes : List ℕ) × AreBlocks s.order schema 1 queries events end bytes × ((rest : List ℕ) × PassesOn before before s.buffer bytes now rest)
kept_put schema queries events end order buffer now s before view kept =
    let some = some_blocks_are s.order schema 1 queries events end in
    let same : s.buffer ≡ buffer = sym (ap (λ (g : OutputState). g.buffer) view) in
    (some.0, some.1, (some.0, record { written = []; took = took_none before; whole = ap (λ h. h ++ some.0) (same ∙ sym kept) }))
