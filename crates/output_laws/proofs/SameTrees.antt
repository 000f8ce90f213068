-- The answers and the output of queries are told by their trees. For callers of the crate too.
use Rattle.std.proofs.Common.{◌≡◌, refl, sym, ap, ◌∙◌, ℕ, List, [], ◌∷◌, map}
use Rattle.stream_schema.specs.Types.{Declared}
use Rattle.stream_schema.specs.declared.Event.{Event}
use Rattle.cel_terms.specs.declared.Query.{Query}
use Rattle.cel_terms.specs.Answers.{Answer, IsAnswer}
use Rattle.answer_text.specs.declared.Order.{Order}
use Rattle.answer_text.specs.Output.{IsBlock, AreBlocks, IsOutputOf, IsOutput}
use Rattle.ceql_parser.specs.QueryTrees.{QueryTree, query_tree}
use Rattle.output_laws.specs.QueryWords.{words_in, words_of}
use Rattle.output_laws.proofs.SameWords as words

one_wording : (q r : Query) → query_tree q ≡ query_tree r → words_of q ≡ words_of r
one_wording q r same = ap words_in same

words_of_trees : (queries : List Query) → map words_in (map query_tree queries) ≡ map words_of queries
words_of_trees [] = refl
words_of_trees (q ∷ qs) = ap (λ (rest : List QueryTree). words_of q ∷ rest) (words_of_trees qs)

wordings : (queries others : List Query) → map query_tree queries ≡ map query_tree others → map words_of queries ≡ map words_of others
wordings queries others same = sym (words_of_trees queries) ∙ ap (λ (trees : List QueryTree). map words_in trees) same ∙ words_of_trees others

pub same_answers : (schema : Declared) (q r : Query) (events : List Event) (end : ℕ) (answer : Answer) → query_tree q ≡ query_tree r → IsAnswer schema q events end answer → IsAnswer schema r events end answer
same_answers schema q r events end answer same = words.same_answers schema q r events end answer (one_wording q r same)

pub same_block : (order : Order) (schema : Declared) (number : ℕ) (q r : Query) (events : List Event) (end : ℕ) (bytes : List ℕ) → query_tree q ≡ query_tree r → IsBlock order schema number q events end bytes → IsBlock order schema number r events end bytes
same_block order schema number q r events end bytes same = words.same_block order schema number q r events end bytes (one_wording q r same)

pub same_blocks : (order : Order) (schema : Declared) (number : ℕ) (queries others : List Query) (events : List Event) (end : ℕ) (bytes : List ℕ) → map query_tree queries ≡ map query_tree others → AreBlocks order schema number queries events end bytes → AreBlocks order schema number others events end bytes
same_blocks order schema number queries others events end bytes same = words.same_blocks order schema number queries others events end bytes (wordings queries others same)

pub same_output_of : (n : ℕ) (order : Order) (schema : Declared) (queries others : List Query) (events : List Event) (bytes : List ℕ) → map query_tree queries ≡ map query_tree others → IsOutputOf n order schema queries events bytes → IsOutputOf n order schema others events bytes
same_output_of n order schema queries others events bytes same = words.same_output_of n order schema queries others events bytes (wordings queries others same)

-- Queries with the same trees have the same output.
pub same_output : (order : Order) (schema : Declared) (queries others : List Query) (events : List Event) (bytes : List ℕ) → map query_tree queries ≡ map query_tree others → IsOutput order schema queries events bytes → IsOutput order schema others events bytes
same_output order schema queries others events bytes same = words.same_output order schema queries others events bytes (wordings queries others same)
