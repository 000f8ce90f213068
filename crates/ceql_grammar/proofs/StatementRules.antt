-- Statements are read exactly.
use Rattle.std.proofs.Common.{◌≡◌, refl, sym, subst, ℕ, suc, Bool, true, false, List, [], ◌∷◌, ◌++◌, arith, append_assoc}
use Rattle.std.specs.Prelude.{codes, Option, Some, None}
use Rattle.cer_base.specs.declared.Location.{Location}
use Rattle.ceql_lexer.specs.declared.Token.{Token}
use Rattle.cel_terms.specs.declared.Name.{Name}
use Rattle.cel_terms.specs.declared.Window.{Window}
use Rattle.cel_terms.specs.declared.Window.TheVariants.{Free, Events, Clock}
use Rattle.ceql_grammar.specs.declared.terms.NumberAt.{NumberAt}
use Rattle.ceql_grammar.specs.WordsAndSigns.{Is, among, is, is_name_token}
use Rattle.ceql_grammar.specs.Trees.{FilterTree, FormulaTree}
use Rattle.ceql_grammar.specs.Formulas.{AreNames}
use Rattle.ceql_grammar.specs.Statements.{StatementTree, select, IsMode, not_strict, IsAny, not_any, any, IsSelectList, star, IsPartitionClause, no_partition, IsWithinClause, free, IsStatement, declares_event, declares_stream, selects}
use Rattle.ceql_grammar.specs.RuleForms.{Rule, Test, Stops, Bind, bound, NoTokens, Mapped, mapped, One, one, Either, left, right}
use Rattle.ceql_grammar.specs.RuleReaders as reading
use Rattle.ceql_grammar.specs.RuleReaders.{FormulaParts, parts_tree, continues_statement}
use Rattle.ceql_grammar.proofs.RuleReaders.{Goes, Reads, Filled, Shuns, Begins, reads_bind, begins_one, shuns_ends, stops_ends, shuns_nothing}
use Rattle.ceql_grammar.proofs.Fixpoints.{reads_other, reads_fewer, begins_bind, begins_as, shuns_apart, shuns_mapped}
use Rattle.ceql_grammar.proofs.ExclusiveTests.{disjoint, apart, within, name_apart, a_sign, a_word}
use Rattle.ceql_grammar.proofs.ReaderForms.{none as no_mark, word_rule, led_rule, reads_led, reads_branch, shuns_either, shuns_other, shuns_led, begins_other, begins_either, begins_led}
use Rattle.ceql_grammar.proofs.NameRules.{comma_marks, some_names, reads_names}
use Rattle.ceql_grammar.proofs.SequenceRules.{pair_rule, a_pair, to_formula, from_formula, bare_marks, filtered_marks, goes_filters, goes_filtered}
use Rattle.ceql_grammar.proofs.FormulaRules.{reads_formula}
use Rattle.ceql_grammar.proofs.DeclarationRules.{begin_marks, stops_end, reads_ended, declaration_rule, a_declaration, reads_declaration, to_declared, from_attrs}
use Rattle.ceql_grammar.proofs.SelectRules.{goes_mode, reads_mode, goes_any, reads_any, goes_selection, shuns_selection, reads_selection, goes_partition, partition_rule, from_partition, reads_partition, goes_within, from_within, reads_within}

-- WHAT STANDS BEHIND EACH PART

shuns_bind_at : {X Y : Type 0} (R : Rule X) (S : X → Rule Y) (e : Goes X) (d : Goes Y) (c : Test) → Shuns R e c → ((x : X) → Shuns (S x) d (e x)) → (xs zs : List Token) (y : Y) → Bind R S xs y → Stops (d y) zs → Stops c (xs ++ zs)
shuns_bind_at R S e d c h k _ zs _ (bound {xs} {ys} {x} {y} r s) stop = subst (Stops c) (sym (append_assoc xs ys zs)) (h.shuns xs (ys ++ zs) x r ((k x).shuns ys zs y s stop))

shuns_bind : {X Y : Type 0} (R : Rule X) (S : X → Rule Y) (e : Goes X) (d : Goes Y) (c : Test) → Shuns R e c → ((x : X) → Shuns (S x) d (e x)) → Shuns (Bind R S) d c
shuns_bind R S e d c h k = record { shuns = shuns_bind_at R S e d c h k }

any_shuns_at : (mark : List ℕ) → ((t : Token) → is (codes "ANY") t ≡ true → is mark t ≡ false) → (xs zs : List Token) (n : Option NumberAt) → IsAny xs n → Stops (is mark) zs → Stops (is mark) (xs ++ zs)
any_shuns_at mark out _ zs _ not_any s = s
any_shuns_at mark out _ zs _ (any {t} e i) s = out t e

any_shuns : (mark : List ℕ) → ((t : Token) → is (codes "ANY") t ≡ true → is mark t ≡ false) → Shuns IsAny (λ _. is mark) (is mark)
any_shuns mark out = record { shuns = any_shuns_at mark out }

-- after a window a statement ends
within_shuns : (marks : List (List ℕ)) → disjoint (codes "WITHIN" ∷ []) marks ≡ true → disjoint begin_marks marks ≡ true → Shuns IsWithinClause (λ _. continues_statement) (among marks)
within_shuns marks e f = shuns_other (Either (led_rule (codes "WITHIN") _) (NoTokens Free)) IsWithinClause (λ _. continues_statement) (among marks) from_within
    (shuns_either (led_rule (codes "WITHIN") _) (NoTokens Free) (λ _. continues_statement) (among marks) (shuns_led (codes "WITHIN") marks _ (λ _. continues_statement) e) (shuns_nothing Free (λ _. continues_statement) (among marks) (stops_end marks f)))

partition_shuns : (marks : List (List ℕ)) → disjoint (codes "PARTITION" ∷ []) marks ≡ true → Shuns IsPartitionClause (λ _. among marks) (among marks)
partition_shuns marks e = shuns_other partition_rule IsPartitionClause (λ _. among marks) (among marks) from_partition
    (shuns_either (led_rule (codes "PARTITION") _) (NoTokens []) (λ _. among marks) (among marks) (shuns_led (codes "PARTITION") marks _ (λ _. among marks) e) (shuns_nothing [] (λ _. among marks) (among marks) (λ ts s. s)))

within_ends : (w : Window) (ts : List Token) → Stops continues_statement ts → Stops (goes_within w) ts
within_ends Free ts s = stops_end (codes "WITHIN" ∷ []) refl ts s
within_ends (Events n) ts s = stops_ends {X = ℕ} 0 ts
within_ends (Clock a n) ts s = stops_ends {X = ℕ} 0 ts

-- THE PARTS OF A SELECT

abbrev made : Location → Bool → Option NumberAt → Option (List Name) → List Name → FormulaParts → List Name → Window → StatementTree
made place strict number list ns f ps w = select (record { strict = strict; any = number; counted = None; select = list; streams = ns; formula = parts_tree f; partition = ps; window = w; place = place })

abbrev tail_rule : Location → Bool → Option NumberAt → Option (List Name) → List Name → FormulaParts → List Name → Rule StatementTree
tail_rule place strict number list ns f ps = Mapped (made place strict number list ns f ps) IsWithinClause

abbrev condition_rule : Rule FormulaParts
condition_rule = led_rule (codes "WHERE") pair_rule

abbrev streams_rule : Rule (List Name)
streams_rule = led_rule (codes "FROM") AreNames

abbrev scope_rule : Location → Bool → Option NumberAt → Option (List Name) → List Name → Rule StatementTree
scope_rule place strict number list ns = Bind condition_rule (λ f. Bind IsPartitionClause (tail_rule place strict number list ns f))

abbrev source_rule : Location → Bool → Option NumberAt → Option (List Name) → Rule StatementTree
source_rule place strict number list = Bind streams_rule (scope_rule place strict number list)

abbrev list_rule : Location → Bool → Option NumberAt → Rule StatementTree
list_rule place strict number = Bind IsSelectList (source_rule place strict number)

abbrev counted_rule : Location → Bool → Rule StatementTree
counted_rule place strict = Bind IsAny (list_rule place strict)

abbrev selected_rule : Location → Rule StatementTree
selected_rule place = Bind IsMode (counted_rule place)

abbrev place_of : Token → Location
place_of t = t.place

abbrev select_rule : Rule StatementTree
select_rule = Bind (One (is (codes "SELECT")) place_of) selected_rule

a_condition : Filled condition_rule
a_condition = record { tokens = _; value = _; derived = bound (one {t = a_word (codes "WHERE")} refl) a_pair.derived }

a_tail : (place : Location) (strict : Bool) (number : Option NumberAt) (list : Option (List Name)) (ns : List Name) (f : FormulaParts) (ps : List Name) → Filled (tail_rule place strict number list ns f ps)
a_tail place strict number list ns f ps = record { tokens = []; value = _; derived = mapped free }

a_scope : (place : Location) (strict : Bool) (number : Option NumberAt) (list : Option (List Name)) (ns : List Name) → Filled (scope_rule place strict number list ns)
a_scope place strict number list ns = record { tokens = _; value = _; derived = bound a_condition.derived (bound no_partition (a_tail place strict number list ns a_condition.value []).derived) }

a_source : (place : Location) (strict : Bool) (number : Option NumberAt) (list : Option (List Name)) → Filled (source_rule place strict number list)
a_source place strict number list = record { tokens = _; value = _; derived = bound (bound (one {t = a_word (codes "FROM")} refl) some_names.derived) (a_scope place strict number list some_names.value).derived }

a_list : (place : Location) (strict : Bool) (number : Option NumberAt) → Filled (list_rule place strict number)
a_list place strict number = record { tokens = _; value = _; derived = bound (star {t = a_sign (codes "*")} refl) (a_source place strict number None).derived }

filtered_shuns : (place : Location) (strict : Bool) (number : Option NumberAt) (list : Option (List Name)) (ns : List Name) (f : FormulaParts) (marks : List (List ℕ)) → disjoint (codes "PARTITION" ∷ []) marks ≡ true → disjoint (codes "WITHIN" ∷ []) marks ≡ true → disjoint begin_marks marks ≡ true → Shuns (Bind IsPartitionClause (tail_rule place strict number list ns f)) (λ _. continues_statement) (among marks)
filtered_shuns place strict number list ns f marks d e g = shuns_bind IsPartitionClause (tail_rule place strict number list ns f) (λ _. among marks) (λ _. continues_statement) (among marks) (partition_shuns marks d)
    (λ ps. shuns_mapped (made place strict number list ns f ps) IsWithinClause (λ _. continues_statement) (among marks) (within_shuns marks e g))

behind_formula : (place : Location) (strict : Bool) (number : Option NumberAt) (list : Option (List Name)) (ns : List Name) (f : FormulaParts) (cs : List FilterTree) → Shuns (Bind IsPartitionClause (tail_rule place strict number list ns f)) (λ _. continues_statement) (goes_filters cs)
behind_formula place strict number list ns f [] = filtered_shuns place strict number list ns f bare_marks refl refl refl
behind_formula place strict number list ns f (c ∷ cs) = filtered_shuns place strict number list ns f filtered_marks refl refl refl

behind_partition : (place : Location) (strict : Bool) (number : Option NumberAt) (list : Option (List Name)) (ns : List Name) (f : FormulaParts) (qs ps : List Name) → Shuns (tail_rule place strict number list ns f qs) (λ _. continues_statement) (goes_partition ps)
behind_partition place strict number list ns f qs [] = shuns_mapped (made place strict number list ns f qs) IsWithinClause (λ _. continues_statement) (among (codes "PARTITION" ∷ [])) (within_shuns (codes "PARTITION" ∷ []) refl refl)
behind_partition place strict number list ns f qs (p ∷ ps) = shuns_ends (tail_rule place strict number list ns f qs) (λ _. continues_statement)

reads_condition : (a : Test) (m : ℕ) → Reads a m condition_rule goes_filtered reading.condition
unfolding reading.condition
reads_condition a m = reads_fewer a condition_rule goes_filtered m (suc m) reading.condition (omega arith)
    (reads_led a (is (codes "WHERE")) reading.no_value (λ _. pair_rule) goes_filtered m (λ _. reading.formula) (a_word (codes "WHERE")) refl (λ _. a_pair) (λ _. reads_formula m))

reads_scope : (a : Test) (m : ℕ) (place : Location) (strict : Bool) (number : Option NumberAt) (list : Option (List Name)) (ns : List Name) → Reads a m (scope_rule place strict number list ns) (λ _. continues_statement) (reading.scope place strict number list ns)
unfolding reading.scope
reads_scope a m place strict number list ns = reads_bind a condition_rule (λ f. Bind IsPartitionClause (tail_rule place strict number list ns f)) goes_filtered (λ _. continues_statement) m reading.condition _
    (λ f. behind_formula place strict number list ns f f.1)
    (λ f. record { tokens = _; value = _; derived = bound no_partition (a_tail place strict number list ns f []).derived })
    (reads_condition a m)
    (λ f. reads_bind (goes_filtered f) IsPartitionClause (tail_rule place strict number list ns f) goes_partition (λ _. continues_statement) m reading.partition _
    (λ ps. behind_partition place strict number list ns f ps ps)
    (a_tail place strict number list ns f)
    (reads_partition (goes_filtered f) m)
    (λ ps. reads_ended (goes_partition ps) (made place strict number list ns f ps) IsWithinClause goes_within m reading.within within_ends (reads_within (goes_partition ps) m)))

reads_streams : (a : Test) (m : ℕ) → Reads a m streams_rule (λ _. among comma_marks) reading.streams
unfolding reading.streams
reads_streams a m = reads_fewer a streams_rule (λ _. among comma_marks) m (suc m) reading.streams (omega arith)
    (reads_led a (is (codes "FROM")) reading.no_value (λ _. AreNames) (λ _. among comma_marks) m (λ _. reading.names) (a_word (codes "FROM")) refl (λ _. some_names) (λ _. reads_names no_mark m))

led_begins : {X : Type 0} (mark : List ℕ) (R : Rule X) → Begins (led_rule mark R) (is mark)
led_begins mark R = begins_bind (word_rule mark) (λ _. R) (is mark) (begins_one (is mark) reading.no_value)

behind_selection : (place : Location) (strict : Bool) (number : Option NumberAt) (list l : Option (List Name)) → Shuns (source_rule place strict number list) (λ _. continues_statement) (goes_selection l)
behind_selection place strict number list None = shuns_ends (source_rule place strict number list) (λ _. continues_statement)
behind_selection place strict number list (Some ns) = shuns_apart (source_rule place strict number list) (λ _. continues_statement) (is (codes "FROM")) (among comma_marks) (apart (codes "FROM" ∷ []) comma_marks refl) (begins_bind streams_rule _ (is (codes "FROM")) (led_begins (codes "FROM") AreNames))

list_shuns : (place : Location) (strict : Bool) (number : Option NumberAt) (mark : List ℕ) → ((t : Token) → is (codes "*") t ≡ true → is mark t ≡ false) → ((t : Token) → is_name_token t ≡ true → is mark t ≡ false) → Shuns (list_rule place strict number) (λ _. continues_statement) (is mark)
list_shuns place strict number mark e f = shuns_bind IsSelectList (source_rule place strict number) (λ _. no_mark) (λ _. continues_statement) (is mark) (shuns_selection mark (λ _. no_mark) e f) (λ l. shuns_ends (source_rule place strict number l) (λ _. continues_statement))

behind_any : (place : Location) (strict : Bool) (number n : Option NumberAt) → Shuns (list_rule place strict number) (λ _. continues_statement) (goes_any n)
behind_any place strict number None = list_shuns place strict number (codes "ANY") (apart (codes "*" ∷ []) (codes "ANY" ∷ []) refl) (name_apart (codes "ANY" ∷ []) refl)
behind_any place strict number (Some n) = shuns_ends (list_rule place strict number) (λ _. continues_statement)

behind_mode : (place : Location) (strict b : Bool) → Shuns (counted_rule place strict) (λ _. continues_statement) (goes_mode b)
behind_mode place strict true = shuns_ends (counted_rule place strict) (λ _. continues_statement)
behind_mode place strict false = shuns_bind IsAny (list_rule place strict) (λ _. is (codes "STRICT")) (λ _. continues_statement) (is (codes "STRICT")) (any_shuns (codes "STRICT") (apart (codes "ANY" ∷ []) (codes "STRICT" ∷ []) refl))
    (λ n. list_shuns place strict n (codes "STRICT") (apart (codes "*" ∷ []) (codes "STRICT" ∷ []) refl) (name_apart (codes "STRICT" ∷ []) refl))

reads_selected : (m : ℕ) (place : Location) → Reads no_mark m (selected_rule place) (λ _. continues_statement) (reading.select_rest place)
unfolding reading.select_rest
reads_selected m place = reads_bind no_mark IsMode (counted_rule place) goes_mode (λ _. continues_statement) m reading.mode _ (λ b. behind_mode place b b)
    (λ b. record { tokens = _; value = _; derived = bound not_any (a_list place b None).derived })
    (reads_mode no_mark m)
    (λ b. reads_bind (goes_mode b) IsAny (list_rule place b) goes_any (λ _. continues_statement) m reading.any_number _ (λ n. behind_any place b n n) (a_list place b) (reads_any (goes_mode b) m)
    (λ n. reads_bind (goes_any n) IsSelectList (source_rule place b n) goes_selection (λ _. continues_statement) m reading.select_list _ (λ l. behind_selection place b n l l) (a_source place b n) (reads_selection (goes_any n) m)
    (λ l. reads_bind (goes_selection l) streams_rule (scope_rule place b n l) (λ _. among comma_marks) (λ _. continues_statement) m reading.streams _
    (λ ns. shuns_apart (scope_rule place b n l ns) (λ _. continues_statement) (is (codes "WHERE")) (among comma_marks) (apart (codes "WHERE" ∷ []) comma_marks refl) (begins_bind condition_rule _ (is (codes "WHERE")) (led_begins (codes "WHERE") pair_rule)))
    (a_scope place b n l) (reads_streams (goes_selection l) m)
    (λ ns. reads_scope (among comma_marks) m place b n l ns))))

reads_select : (m : ℕ) → Reads no_mark (suc m) select_rule (λ _. continues_statement) reading.select_statement
unfolding reading.select_statement
reads_select m = reads_led no_mark (is (codes "SELECT")) place_of selected_rule (λ _. continues_statement) m reading.select_rest (a_word (codes "SELECT")) refl
    (λ place. record { tokens = _; value = _; derived = bound not_strict (bound not_any (a_list place false None).derived) })
    (reads_selected m)

-- STATEMENTS

abbrev statement_rule : Rule StatementTree
statement_rule = Either (led_rule (codes "DECLARE") declaration_rule) select_rule

to_statement : (xs : List Token) (s : StatementTree) → statement_rule xs s → IsStatement xs s
to_statement _ _ (left (bound (one {t} e) h)) = to_declared t _ _ e h
to_statement _ _ (right (bound (one e) (bound m (bound a (bound l (bound (bound (one {t = f} fe) h) (bound (bound (one {t = w} we) p) (bound q (mapped r))))))))) = selects f w e m a l fe h we (to_formula _ _ p) q r

from_scope : (place : Location) (strict : Bool) (number : Option NumberAt) (list : Option (List Name)) (ns : List Name) (w : Token) (xs ys zs : List Token) (g : FormulaTree) (ps : List Name) (window : Window) → Is (codes "WHERE") w → Mapped parts_tree pair_rule xs g → IsPartitionClause ys ps → IsWithinClause zs window
    → scope_rule place strict number list ns (w ∷ xs ++ (ys ++ zs)) (select (record { strict = strict; any = number; counted = None; select = list; streams = ns; formula = g; partition = ps; window = window; place = place }))
from_scope place strict number list ns w _ ys zs _ ps window e (mapped p) q r = bound (bound (one e) p) (bound q (mapped r))

from_statement : (xs : List Token) (s : StatementTree) → IsStatement xs s → statement_rule xs s
from_statement _ _ (declares_event c d v n o m e) = left (bound (one d) (left (bound (one v) (bound (one n) (mapped (bound (one o) (from_attrs c _ _ m e)))))))
from_statement _ _ (declares_stream c d v n o m e) = left (bound (one d) (right (bound (one v) (bound (one n) (mapped (bound (one o) (bound m (mapped (one e)))))))))
from_statement _ _ (selects {s} f w {modes} {anys} {lists} {streams} {formulas} {partitions} {windows} {mode} {number} {list} {ns} {ps} {g} {window} e m a l fe h we p q r) =
    right (bound (one e) (bound m (bound a (bound l (bound (bound (one fe) h) (from_scope s.place mode number list ns w formulas partitions windows g ps window we (from_formula _ _ p) q r))))))

pub a_statement : Filled IsStatement
a_statement = record { tokens = _; value = _; derived = to_statement _ _ (left (bound (one {t = a_word (codes "DECLARE")} refl) a_declaration.derived)) }

pub begins_statement : Begins IsStatement (among begin_marks)
begins_statement = begins_other statement_rule IsStatement (among begin_marks) from_statement
    (begins_either (led_rule (codes "DECLARE") declaration_rule) select_rule (among begin_marks) (begins_led (codes "DECLARE") begin_marks declaration_rule refl)
    (begins_as select_rule (is (codes "SELECT")) (among begin_marks) (within (codes "SELECT" ∷ []) begin_marks refl) (begins_bind (One (is (codes "SELECT")) place_of) selected_rule (is (codes "SELECT")) (begins_one (is (codes "SELECT")) place_of))))

-- a statement is read exactly
pub reads_statement : (m : ℕ) → Reads no_mark m IsStatement (λ _. continues_statement) reading.one_statement
unfolding reading.one_statement
reads_statement m = reads_fewer no_mark IsStatement (λ _. continues_statement) m (suc m) reading.one_statement (omega arith) (reads_other no_mark statement_rule IsStatement (λ _. continues_statement) (suc m) reading.one_statement to_statement from_statement
    (reads_branch no_mark (is (codes "DECLARE")) reading.no_value (λ _. declaration_rule) select_rule (λ _. continues_statement) m (λ _. reading.declaration) reading.select_statement (a_word (codes "DECLARE")) refl
    (shuns_apart select_rule (λ _. continues_statement) (is (codes "SELECT")) (is (codes "DECLARE")) (apart (codes "SELECT" ∷ []) (codes "DECLARE" ∷ []) refl) (begins_bind (One (is (codes "SELECT")) place_of) selected_rule (is (codes "SELECT")) (begins_one (is (codes "SELECT")) place_of)))
    (λ _. a_declaration) (λ _. reads_declaration m) (reads_select m)))
