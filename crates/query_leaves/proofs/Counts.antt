-- A formula's tree has as many leaves as are counted.
use Rattle.std.proofs.Common.{◌≡◌, refl, sym, ap, ap₂, ◌∙◌, ℕ, ◌+◌, ◌*◌, Bool, true, false, List, [], ◌∷◌, length, Option, Some, None, arith, length-append, mul_assoc, mul-one, mul-add}
use Rattle.cel_terms.specs.declared.Name.{Name}
use Rattle.cel_terms.specs.declared.Query.{Query}
use Rattle.cel_terms.specs.declared.Postfix.{Postfix}
use Rattle.cel_terms.specs.declared.Postfix.TheVariants.{Plus, NextPlus, Named, Keep}
use Rattle.cel_terms.specs.declared.Filter.{Filter, On, All', Any', Row_of-Filter, end_of-Filter, more_of-Filter}
use Rattle.cel_terms.specs.declared.Formula.{Formula, Of, Chain', Linked', Either', Post', Under', Row_of-Formula, end_of-Formula, more_of-Formula, Row_of-Link, end_of-Link, more_of-Link}
use Rattle.cel_terms.specs.Checked.{weight, product_of_weights, sum_of_weights, times_weights, leaf_count, leaf_count_of_all, leaf_count_of_links}
use Rattle.query_leaves.specs.LeafTree.{LeafTree, leaf, none, sequence, either, plus}
use Rattle.query_leaves.specs.Expand.{Occurrence, at_leaves, rename_leaf, test_leaf, filtered, filtered_by_all, filtered_by_any, under_all, one_or_more, postfixed, postfixed_by_all, expand, expand_chain, expand_on, expand_links, expand_choices, selected_tree, tree_of}
use Rattle.query_leaves.specs.Leaves.{occurrences}
use Rattle.cel_terms.specs.Meaning.{with_name, only_names}

abbrev size : LeafTree Occurrence → ℕ
size t = length (occurrences t)

at_leaves_size : (g : Occurrence → Occurrence) (t : LeafTree Occurrence) → size (at_leaves g t) ≡ size t
at_leaves_size g (leaf l) = refl
at_leaves_size g none = refl
at_leaves_size g (sequence u a b) = let x = at_leaves_size g a in let y = at_leaves_size g b in omega (arith, length-append (occurrences (at_leaves g a)) (occurrences (at_leaves g b)), length-append (occurrences a) (occurrences b))
at_leaves_size g (either a b) = let x = at_leaves_size g a in let y = at_leaves_size g b in omega (arith, length-append (occurrences (at_leaves g a)) (occurrences (at_leaves g b)), length-append (occurrences a) (occurrences b))
at_leaves_size g (plus u a) = at_leaves_size g a

times : (n a b : ℕ) → (n * a) * b ≡ n * (a * b)
times n a b = mul_assoc n a b

mutual
  filtered_size : (c : Filter) (t : LeafTree Occurrence) → size (filtered c t) ≡ size t * weight c
  filtered_size (On name pred) t = at_leaves_size (test_leaf name.text pred) t ∙ sym (mul-one (size t))
  filtered_size (All' s cs) t = all_size cs t
  filtered_size (Any' s cs) t = any_size cs t

  all_size : {m : _} (cs : Row_of-Filter m) (t : LeafTree Occurrence) → size (filtered_by_all cs t) ≡ size t * product_of_weights cs
  all_size end_of-Filter t = sym (mul-one (size t))
  all_size (more_of-Filter c cs) t = all_size cs (filtered c t) ∙ (ap (λ n. n * product_of_weights cs) (filtered_size c t) ∙ times (size t) (weight c) (product_of_weights cs))

  any_size : {m : _} (cs : Row_of-Filter m) (t : LeafTree Occurrence) → size (filtered_by_any cs t) ≡ size t * sum_of_weights cs
  any_size end_of-Filter t = omega arith
  any_size (more_of-Filter c cs) t = length-append (occurrences (filtered c t)) (occurrences (filtered_by_any cs t)) ∙ (ap₂ (λ x y. x + y) (filtered_size c t) (any_size cs t) ∙ sym (mul-add (size t) (weight c) (sum_of_weights cs)))

under_size : (cs : List Filter) (t : LeafTree Occurrence) → size (under_all cs t) ≡ times_weights (size t) cs
under_size [] t = refl
under_size (c ∷ cs) t = under_size cs (filtered c t) ∙ ap (λ n. times_weights n cs) (filtered_size c t)

repeated_size : (tight : Bool) (t : LeafTree Occurrence) → size (one_or_more tight t) ≡ size t
repeated_size tight (leaf l) = refl
repeated_size tight none = refl
repeated_size tight (sequence u a b) = refl
repeated_size tight (either a b) = refl
repeated_size tight (plus u a) = refl

postfixed_size : (p : Postfix) (t : LeafTree Occurrence) → size (postfixed p t) ≡ size t
postfixed_size Plus t = repeated_size false t
postfixed_size NextPlus t = repeated_size true t
postfixed_size (Named name) t = at_leaves_size (rename_leaf (with_name name.text)) t
postfixed_size (Keep names) t = at_leaves_size (rename_leaf (only_names names)) t

all_postfixed_size : (ps : List Postfix) (t : LeafTree Occurrence) → size (postfixed_by_all ps t) ≡ size t
all_postfixed_size [] t = refl
all_postfixed_size (p ∷ ps) t = all_postfixed_size ps (postfixed p t) ∙ postfixed_size p t

mutual
  pub expand_size : (f : Formula) → size (expand f) ≡ leaf_count f
  expand_size (Of name) = refl
  expand_size (Chain' s parts) = chain_size parts
  expand_size (Linked' p first s links) = links_size (expand first) links ∙ ap (λ n. n + leaf_count_of_links links) (expand_size first)
  expand_size (Either' s choices) = choices_size choices
  expand_size (Post' p base postfixes) = all_postfixed_size postfixes.items (expand base) ∙ expand_size base
  expand_size (Under' p base filters) = under_size filters.items (expand base) ∙ ap (λ n. times_weights n filters.items) (expand_size base)

  chain_size : {m : _} (fs : Row_of-Formula m) → size (expand_chain fs) ≡ leaf_count_of_all fs
  chain_size end_of-Formula = refl
  chain_size (more_of-Formula f rest) = on_size (expand f) rest ∙ ap (λ n. n + leaf_count_of_all rest) (expand_size f)

  on_size : {m : _} (t : LeafTree Occurrence) (fs : Row_of-Formula m) → size (expand_on t fs) ≡ size t + leaf_count_of_all fs
  on_size t end_of-Formula = omega arith
  on_size t (more_of-Formula f rest) = let x = on_size (sequence false t (expand f)) rest in let y = expand_size f in omega (arith, length-append (occurrences t) (occurrences (expand f)))

  links_size : {m : _} (t : LeafTree Occurrence) (ls : Row_of-Link m) → size (expand_links t ls) ≡ size t + leaf_count_of_links ls
  links_size t end_of-Link = omega arith
  links_size t (more_of-Link u f rest) = let x = links_size (sequence u t (expand f)) rest in let y = expand_size f in omega (arith, length-append (occurrences t) (occurrences (expand f)))

  choices_size : {m : _} (fs : Row_of-Formula m) → size (expand_choices fs) ≡ leaf_count_of_all fs
  choices_size end_of-Formula = refl
  choices_size (more_of-Formula f rest) = length-append (occurrences (expand f)) (occurrences (expand_choices rest)) ∙ ap₂ (λ x y. x + y) (expand_size f) (choices_size rest)

selected_size : (select : Option (List Name)) (t : LeafTree Occurrence) → size (selected_tree select t) ≡ size t
selected_size None t = refl
selected_size (Some names) t = at_leaves_size (rename_leaf (only_names names)) t

pub query_size : (q : Query) → size (tree_of q) ≡ leaf_count q.formula
query_size q = selected_size q.select (expand q.formula) ∙ expand_size q.formula
