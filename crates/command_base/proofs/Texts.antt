-- The query text that was read, and the one that the host has: the answer is the same.
use Rattle.std.proofs.Common.{◌≡◌, ℕ, ◌≤◌, List, length, take, min, Err, sym, ◌∙◌, ap, subst, arith}
use Rattle.std.proofs.lemmas.List.{take_all, length-take}
use Rattle.cer_base.specs.declared.OrMemory.{OrMemory}
use Rattle.cer_base.specs.declared.OrMemory.TheVariants.{Fault, Memory}
use Rattle.cer_base.specs.Answers.{OnFault}
use Rattle.stream_schema.specs.Types.{Declared}
use Rattle.ceql_grammar.specs.declared.faults.QueryError.{QueryError}
use Rattle.ceql_grammar.specs.Texts.{WhereAnswered}
use Rattle.ceql_parser.specs.QueryTrees.{QueryTree}
use Rattle.cer_outside.specs.Content.{Content, Untold, Missing, Holds, OfOpened}
use Rattle.ceql_parser.specs.QueryTexts.{TextAnswer, IsAnswerOfText, too_long, short}
use Rattle.command_base.specs.Accepted.{IsRefusedText}
use Rattle.command_base.specs.SourceBytes.{AreFirstOf}

-- the answer of a text is that of its first bytes
answer_whole : (text read : List ℕ) (answer : TextAnswer) → read ≡ take 1048577 text → IsAnswerOfText read answer → IsAnswerOfText text answer
answer_whole text read answer first (too_long long is) =
    let cut : length read ≡ min 1048577 (length text) = ap length first ∙ length-take 1048577 text in
    too_long (omega arith) is
answer_whole text read answer first (short few rest) =
    let cut : length read ≡ min 1048577 (length text) = ap length first ∙ length-take 1048577 text in
    let small : length text ≤ 1048577 = omega arith in
    let same : read ≡ text = first ∙ take_all 1048577 text small in
    let P : List ℕ → Type 0 = λ w. IsAnswerOfText w answer in
    subst P same (short few rest)

-- of a file that was opened
pub answer_opened : (content : Content) (read : List ℕ) (answer : TextAnswer) → AreFirstOf 1048577 content read → IsAnswerOfText read answer → OfOpened content (λ text. IsAnswerOfText text answer)
answer_opened Untold read answer first is = tt
answer_opened Missing read answer first is = first
answer_opened (Holds text) read answer first is = answer_whole text read answer first is

-- a refusal that is the answer of a text
pub refused_in : (T E : Type 0) (view : T → Declared × List QueryTree) (text : List ℕ) (refusal : OrMemory QueryError) → WhereAnswered {X = T} view (Err refusal) (λ answer. IsAnswerOfText text answer) →
    OnFault {T = E} (Err refusal) (λ error. IsRefusedText text error.fault error.place)
refused_in T E view text (Fault error) found = found
refused_in T E view text Memory found = tt

-- the bytes by another name
pub first_as : (content : Content) (x y : List ℕ) → x ≡ y → AreFirstOf 1048577 content y → AreFirstOf 1048577 content x
first_as content x y same first = let P : List ℕ → Type 0 = AreFirstOf 1048577 content in subst P (sym same) first
