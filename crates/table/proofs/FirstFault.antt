-- A table's refusal is the first fault of its conditions: each step of reading answers the value that its
-- bytes have, or refuses as the first of its conditions that fails.
use Rattle.std.proofs.Common.{◌≡◌, ℕ, zero, suc, ◌+◌, ◌*◌, Bool, true, false, cond, eqb, leb, List, [], ◌∷◌, ◌++◌, length, Some, None, Ok, Err, Option, Result, unwrap_or, sym, refl, ap, ◌∙◌, subst, append_assoc, append-nil, add-zero, add_assoc, add-suc, suc-mul, suc-add, zero-add, zero-mul, arith}
use Rattle.std.proofs.lemmas.List.{length_push}
use Rattle.table.specs.Limits.{max_switches, max_nodes, max_rules, register_count}
use Rattle.table.specs.Nodes.{decoded, node_fits, rule_fits}
use Rattle.table.specs.TableLaws.{Condition, present, value, field_conditions, words_node, nodes_before, fits_there, node_conditions, words_rule, rule_conditions, each, node_count, rule_count, start_count, conditions, table_end, nothing_left, first_fault, refusal, RefusesFirst}
use Rattle.table.specs.Tables.{items_from, Table, node_size, rule_size, nodes_start, rules_start, starts_start, tested, judged, node_at, nodes_from, rule_at, rules_from, words_from, header_of, rules_of, starts_of, table_front, table_length, table_alone}
use Rattle.table.specs.Wire.{word_at, fault, refuse, field, and_then, between, tested_field}
use Rattle.table.specs.declared.fault.Fault.{Fault}
use Rattle.table.specs.declared.fault.Reason.TheVariants as why
use Rattle.table.specs.declared.node.Node.{Node}
use Rattle.table.specs.declared.node.Node.TheVariants.{Truth}
use Rattle.table.specs.declared.node.Rule.{Rule}

-- r answers v where the conditions hold, and else refuses as the first that fails
pub data Agrees {A : Type 0} (r : Result A Fault) (cs : List Condition) (v : A) : Type 0 where
  good : r ≡ Ok v → first_fault cs ≡ None → Agrees r cs v
  bad : (e : Fault) → r ≡ Err e → first_fault cs ≡ Some e → Agrees r cs v

pub agrees_refusal : {A : Type 0} (r : Result A Fault) (cs : List Condition) (v : A) → Agrees r cs v → refusal r ≡ first_fault cs
agrees_refusal r cs v (good p q) = ap refusal p ∙ sym q
agrees_refusal r cs v (bad e p q) = ap refusal p ∙ sym q

first_fault_passed : (cs ds : List Condition) → first_fault cs ≡ None → first_fault (cs ++ ds) ≡ first_fault ds
first_fault_passed [] ds h = refl
first_fault_passed (c ∷ cs) ds h = go c.holds (first_fault_passed cs ds) h
  where
    go : (b : Bool) → (first_fault cs ≡ None → first_fault (cs ++ ds) ≡ first_fault ds) → cond b (first_fault cs) (Some c.otherwise) ≡ None → cond b (first_fault (cs ++ ds)) (Some c.otherwise) ≡ first_fault ds
    go true rest k = rest k
    go false rest k = cc

first_fault_failed : (cs ds : List Condition) (e : Fault) → first_fault cs ≡ Some e → first_fault (cs ++ ds) ≡ Some e
first_fault_failed [] ds e h = cc
first_fault_failed (c ∷ cs) ds e h = go c.holds (first_fault_failed cs ds e) h
  where
    go : (b : Bool) → (first_fault cs ≡ Some e → first_fault (cs ++ ds) ≡ Some e) → cond b (first_fault cs) (Some c.otherwise) ≡ Some e → cond b (first_fault (cs ++ ds)) (Some c.otherwise) ≡ Some e
    go true rest k = rest k
    go false rest k = k

-- one step after another
pub followed : {A B : Type 0} (r : Result A Fault) (f : A → Result B Fault) (cs ds : List Condition) (v : A) (w : B) → Agrees r cs v → Agrees (f v) ds w → Agrees (and_then r f) (cs ++ ds) w
followed r f cs ds v w (good p q) (good p' q') = good (ap (λ x. and_then x f) p ∙ p') (first_fault_passed cs ds q ∙ q')
followed r f cs ds v w (good p q) (bad e p' q') = bad e (ap (λ x. and_then x f) p ∙ p') (first_fault_passed cs ds q ∙ q')
followed r f cs ds v w (bad e p q) (good p' q') = bad e (ap (λ x. and_then x f) p) (first_fault_failed cs ds e q)
followed r f cs ds v w (bad e p q) (bad e' p' q') = bad e (ap (λ x. and_then x f) p) (first_fault_failed cs ds e q)

-- an answer made of a step's value
pub made_of : {A B : Type 0} (r : Result A Fault) (g : A → B) (cs : List Condition) (v : A) → Agrees r cs v → Agrees (and_then r (λ x. Ok (g x))) cs (g v)
made_of r g cs v (good p q) = good (ap (λ x. and_then x (λ y. Ok (g y))) p) q
made_of r g cs v (bad e p q) = bad e (ap (λ x. and_then x (λ y. Ok (g y))) p) q

-- a test
pub judgement : {A : Type 0} (b : Bool) (e : Fault) (v : A) → Agrees (cond b (Ok v) (Err e)) (record { holds = b; otherwise = e } ∷ []) v
judgement true e v = good refl refl
judgement false e v = bad e refl refl

-- Fields

field_agrees : (bs : List ℕ) (i : ℕ) → Agrees (field why.TableLength bs i) (present bs i ∷ []) (word_at bs i)
unfolding field
field_agrees bs i = judgement (leb (i + 4) (length bs)) (fault why.TableLength i) (word_at bs i)

tested_agrees : (ok : ℕ → Bool) (bs : List ℕ) (i : ℕ) → Agrees (tested ok bs i) (field_conditions ok bs i) (word_at bs i)
unfolding tested_field
tested_agrees ok bs i =
    followed _ (λ w. cond (ok w) (Ok w) (refuse why.TableField i)) (present bs i ∷ []) (value (ok (word_at bs i)) i ∷ []) (word_at bs i) (word_at bs i)
    (field_agrees bs i) (judgement (ok (word_at bs i)) (fault why.TableField i) (word_at bs i))

-- One element

judged_agrees : (n : ℕ) (earlier : List Node) (i : ℕ) (o : Option Node) → Agrees (judged n earlier i o) (record { holds = fits_there n earlier o; otherwise = fault why.Node i } ∷ []) (unwrap_or o (Truth false))
judged_agrees n earlier i None = bad (fault why.Node i) refl refl
judged_agrees n earlier i (Some x) = judgement (node_fits n earlier x) (fault why.Node i) x

nodes_length : (bs : List ℕ) (i : ℕ) → length (nodes_before bs i) ≡ i
nodes_length bs zero = refl
nodes_length bs (suc i) = length_push (nodes_before bs i) (unwrap_or (words_node bs i) (Truth false)) ∙ omega (arith, nodes_length bs i)

node_agrees : (bs : List ℕ) (i : ℕ) → Agrees (node_at (word_at bs 4) bs (nodes_start + i * node_size) (nodes_before bs i)) (node_conditions bs i) (unwrap_or (words_node bs i) (Truth false))
node_agrees bs i =
    let at : ℕ = nodes_start + i * node_size in
    let last : ℕ → ℕ → ℕ → Result Node Fault = λ kind a b. judged (word_at bs 4) (nodes_before bs i) (length (nodes_before bs i)) (decoded kind a b) in
    let test : Condition = record { holds = fits_there (word_at bs 4) (nodes_before bs i) (words_node bs i); otherwise = fault why.Node i } in
    followed _ (λ kind. and_then (field why.TableLength bs (at + 4)) (λ a. and_then (field why.TableLength bs (at + 4 + 4)) (λ b. last kind a b)))
    (present bs at ∷ []) (present bs (at + 4) ∷ present bs (at + 4 + 4) ∷ test ∷ []) (word_at bs at) _
    (field_agrees bs at)
    (followed _ (λ a. and_then (field why.TableLength bs (at + 4 + 4)) (λ b. last (word_at bs at) a b))
    (present bs (at + 4) ∷ []) (present bs (at + 4 + 4) ∷ test ∷ []) (word_at bs (at + 4)) _
    (field_agrees bs (at + 4))
    (followed _ (λ b. last (word_at bs at) (word_at bs (at + 4)) b)
    (present bs (at + 4 + 4) ∷ []) (test ∷ []) (word_at bs (at + 4 + 4)) _
    (field_agrees bs (at + 4 + 4))
    (rw (nodes_length bs i) (judged_agrees (word_at bs 4) (nodes_before bs i) i (words_node bs i)))))

-- rule i, among m nodes
rule_agrees : (bs : List ℕ) (m i : ℕ) → Agrees (rule_at (word_at bs 4) (nodes_before bs m) bs (rules_start m + i * rule_size) i) (rule_conditions bs m i) (words_rule bs m i)
rule_agrees bs m i =
    let at : ℕ = rules_start m + i * rule_size in
    let last : ℕ → ℕ → Result Rule Fault = λ s x. cond (rule_fits (word_at bs 4) (nodes_before bs m) (record { switch = s; node = x })) (Ok (record { switch = s; node = x })) (refuse why.Rule i) in
    let test : Condition = record { holds = rule_fits (word_at bs 4) (nodes_before bs m) (words_rule bs m i); otherwise = fault why.Rule i } in
    followed _ (λ s. and_then (field why.TableLength bs (at + 4)) (λ x. last s x))
    (present bs at ∷ []) (present bs (at + 4) ∷ test ∷ []) (word_at bs at) _
    (field_agrees bs at)
    (followed _ (λ x. last (word_at bs at) x)
    (present bs (at + 4) ∷ []) (test ∷ []) (word_at bs (at + 4)) _
    (field_agrees bs (at + 4))
    (judgement (rule_fits (word_at bs 4) (nodes_before bs m) (words_rule bs m i)) (fault why.Rule i) (words_rule bs m i)))

-- Arrays: `each`, from the front

each_from : {X : Type 0} → (ℕ → List X) → ℕ → ℕ → List X
each_from f k zero = []
each_from f k (suc count) = f k ++ each_from f (suc k) count

each_more : {X : Type 0} (f : ℕ → List X) (k count : ℕ) → each f k ++ each_from f k count ≡ each f (k + count)
unfolding each_from
each_more f k zero = append-nil (each f k) ∙ ap (each f) (sym (add-zero k))
each_more f k (suc count) = sym (append_assoc (each f k) (f k) (each_from f (suc k) count)) ∙ each_more f (suc k) count ∙ ap (each f) (suc-add k count ∙ sym (add-suc k count))

each_all : {X : Type 0} (f : ℕ → List X) (count : ℕ) → each_from f 0 count ≡ each f count
each_all f count = each_more f 0 count ∙ ap (each f) (zero-add count)

-- a loop that reads elements of some size one after another: values i is the first i of them
module _ {X : Type 0} (start size : ℕ) (read : ℕ → List X → Result X Fault) (from : ℕ → ℕ → List X → Result (List X) Fault)
    (none : (at : ℕ) (earlier : List X) → from at zero earlier ≡ Ok earlier)
    (more : (at count : ℕ) (earlier : List X) → from at (suc count) earlier ≡ and_then (read at earlier) (λ x. from (at + size) count (earlier ++ x ∷ [])))
    (item : ℕ → X) (values : ℕ → List X) (empty : values zero ≡ []) (pushed : (i : ℕ) → values (suc i) ≡ values i ++ item i ∷ [])
    (tests : ℕ → List Condition) (one : (i : ℕ) → Agrees (read (start + i * size) (values i)) (tests i) (item i)) where
  loop_from : (count k : ℕ) → Agrees (from (start + k * size) count (values k)) (each_from tests k count) (values (k + count))
  unfolding each_from
  loop_from zero k = good (none _ (values k) ∙ ap (λ i. Ok (values i)) (sym (add-zero k))) refl
  loop_from (suc count) k =
      rw (more (start + k * size) count (values k))
      (followed _ (λ x. from (start + k * size + size) count (values k ++ x ∷ [])) (tests k) (each_from tests (suc k) count) (item k) (values (k + suc count))
      (one k)
      (rw (add_assoc start (k * size) size, ← suc-mul k size, ← pushed k, add-suc k count, ← suc-add k count) (loop_from count (suc k))))

  pub loop_agrees : (count : ℕ) → Agrees (from start count []) (each tests count) (values count)
  loop_agrees count = rw (zero-mul size, add-zero start, empty, each_all tests count, zero-add count) at (loop_from count 0)

-- The arrays

pub each_length : {X : Type 0} (f : ℕ → X) (i : ℕ) → length (each (λ k. f k ∷ []) i) ≡ i
each_length f zero = refl
each_length f (suc i) = length_push (each (λ k. f k ∷ []) i) (f i) ∙ omega (arith, each_length f i)

nodes_agree : (bs : List ℕ) (count : ℕ) → Agrees (nodes_from (word_at bs 4) bs nodes_start count []) (each (node_conditions bs) count) (nodes_before bs count)
unfolding items_from
nodes_agree bs =
    loop_agrees nodes_start node_size (node_at (word_at bs 4) bs) (nodes_from (word_at bs 4) bs) (λ at earlier. refl) (λ at count earlier. refl)
    (λ i. unwrap_or (words_node bs i) (Truth false)) (nodes_before bs) refl (λ i. refl)
    (node_conditions bs) (node_agrees bs)

rules_before : List ℕ → ℕ → ℕ → List Rule
rules_before bs m = each (λ i. words_rule bs m i ∷ [])

rules_length : (bs : List ℕ) (m i : ℕ) → length (rules_before bs m i) ≡ i
unfolding rules_before
rules_length bs m = each_length (words_rule bs m)

rules_agree : (bs : List ℕ) (m count : ℕ) → Agrees (rules_from (word_at bs 4) (nodes_before bs m) bs (rules_start m) count []) (each (rule_conditions bs m) count) (rules_before bs m count)
unfolding items_from rules_before
rules_agree bs m =
    loop_agrees (rules_start m) rule_size (λ at earlier. rule_at (word_at bs 4) (nodes_before bs m) bs at (length earlier)) (rules_from (word_at bs 4) (nodes_before bs m) bs) (λ at earlier. refl) (λ at count earlier. refl)
    (words_rule bs m) (rules_before bs m) refl (λ i. refl)
    (rule_conditions bs m) (λ i. rw (rules_length bs m i) (rule_agrees bs m i))

words_before : List ℕ → ℕ → ℕ → List ℕ
words_before bs start = each (λ i. word_at bs (start + i * 4) ∷ [])

words_length : (bs : List ℕ) (start i : ℕ) → length (words_before bs start i) ≡ i
unfolding words_before
words_length bs start = each_length (λ i. word_at bs (start + i * 4))

words_agree : (bs : List ℕ) (start count : ℕ) → Agrees (words_from bs start count []) (each (λ i. present bs (start + i * 4) ∷ []) count) (words_before bs start count)
unfolding items_from words_before
words_agree bs start =
    loop_agrees start 4 (λ at earlier. field why.TableLength bs at) (words_from bs) (λ at earlier. refl) (λ at count earlier. refl)
    (λ i. word_at bs (start + i * 4)) (words_before bs start) refl (λ i. refl)
    (λ i. present bs (start + i * 4) ∷ []) (λ i. field_agrees bs (start + i * 4))

-- The parts

header_agrees : (code : ℕ) (bs : List ℕ) → Agrees (header_of code bs) (field_conditions (λ x. eqb x code) bs 0 ++ (field_conditions (between 1 max_switches) bs 4 ++ field_conditions (between 1 max_nodes) bs 8)) (record { switches = word_at bs 4; nodes = word_at bs 8 })
header_agrees code bs =
    followed _ (λ c. and_then (tested (between 1 max_switches) bs 4) (λ n. and_then (tested (between 1 max_nodes) bs 8) (λ m. Ok (record { switches = n; nodes = m }))))
    (field_conditions (λ x. eqb x code) bs 0) _ (word_at bs 0) _
    (tested_agrees (λ x. eqb x code) bs 0)
    (followed _ (λ n. and_then (tested (between 1 max_nodes) bs 8) (λ m. Ok (record { switches = n; nodes = m })))
    (field_conditions (between 1 max_switches) bs 4) _ (word_at bs 4) _
    (tested_agrees (between 1 max_switches) bs 4)
    (made_of _ (λ m. record { switches = word_at bs 4; nodes = m }) _ (word_at bs 8)
    (tested_agrees (between 1 max_nodes) bs 8)))

-- the rules, after m nodes
rules_of_agrees : (bs : List ℕ) (m r : ℕ) → r ≡ word_at bs (nodes_start + m * node_size) → Agrees (rules_of (word_at bs 4) (nodes_before bs m) bs) (field_conditions (between 0 max_rules) bs (nodes_start + m * node_size) ++ each (rule_conditions bs m) r) (rules_before bs m r)
rules_of_agrees bs m r same =
    rw (nodes_length bs m, same)
    (followed _ (λ r. rules_from (word_at bs 4) (nodes_before bs m) bs (rules_start m) r []) (field_conditions (between 0 max_rules) bs (nodes_start + m * node_size)) _ (word_at bs (nodes_start + m * node_size)) _
    (tested_agrees (between 0 max_rules) bs (nodes_start + m * node_size))
    (rules_agree bs m (word_at bs (nodes_start + m * node_size))))

-- the starting words, after m nodes and r rules
starts_of_agrees : (bs : List ℕ) (m r w : ℕ) → w ≡ word_at bs (rules_start m + r * rule_size) → Agrees (starts_of (word_at bs 4) m r bs) (field_conditions (λ x. eqb x (register_count * word_at bs 4)) bs (rules_start m + r * rule_size) ++ each (λ i. present bs (starts_start m r + i * 4) ∷ []) w) (words_before bs (starts_start m r) w)
starts_of_agrees bs m r w same =
    rw same
    (followed _ (λ w. words_from bs (starts_start m r) w []) (field_conditions (λ x. eqb x (register_count * word_at bs 4)) bs (rules_start m + r * rule_size)) _ (word_at bs (rules_start m + r * rule_size)) _
    (tested_agrees (λ x. eqb x (register_count * word_at bs 4)) bs (rules_start m + r * rule_size))
    (words_agree bs (starts_start m r) (word_at bs (rules_start m + r * rule_size))))

-- the table that the bytes have, whatever they are
bytes_table : ℕ → List ℕ → ℕ → ℕ → ℕ → Table
bytes_table code bs m r w = record {
  code = code;
  switches = word_at bs 4;
  nodes = nodes_before bs m;
  rules = rules_before bs m r;
  starts = words_before bs (starts_start m r) w;
}

front_agrees : (code : ℕ) (bs : List ℕ) → Agrees (table_front code bs) (conditions code bs) (bytes_table code bs (node_count bs) (rule_count bs) (start_count bs))
unfolding table_front bytes_table
front_agrees code bs =
    let m : ℕ = node_count bs in
    let r : ℕ = rule_count bs in
    let w : ℕ = start_count bs in
    followed _ (λ h.
    and_then (nodes_from h.switches bs nodes_start h.nodes []) (λ xs.
    and_then (rules_of h.switches xs bs) (λ rs.
    and_then (starts_of h.switches (length xs) (length rs) bs) (λ ws.
    Ok (record { code = code; switches = h.switches; nodes = xs; rules = rs; starts = ws })))))
    (field_conditions (λ x. eqb x code) bs 0 ++ (field_conditions (between 1 max_switches) bs 4 ++ field_conditions (between 1 max_nodes) bs 8)) _
    (record { switches = word_at bs 4; nodes = m }) _
    (header_agrees code bs)
    (followed _ (λ xs.
    and_then (rules_of (word_at bs 4) xs bs) (λ rs.
    and_then (starts_of (word_at bs 4) (length xs) (length rs) bs) (λ ws.
    Ok (record { code = code; switches = word_at bs 4; nodes = xs; rules = rs; starts = ws }))))
    (each (node_conditions bs) m) _ (nodes_before bs m) _
    (nodes_agree bs m)
    (followed _ (λ rs.
    and_then (starts_of (word_at bs 4) (length (nodes_before bs m)) (length rs) bs) (λ ws.
    Ok (record { code = code; switches = word_at bs 4; nodes = nodes_before bs m; rules = rs; starts = ws })))
    (field_conditions (between 0 max_rules) bs (nodes_start + m * node_size) ++ each (rule_conditions bs m) r) _ (rules_before bs m r) _
    (rules_of_agrees bs m r refl)
    (made_of _ (λ ws. record { code = code; switches = word_at bs 4; nodes = nodes_before bs m; rules = rules_before bs m r; starts = ws }) _
    (words_before bs (starts_start m r) w)
    (rw (nodes_length bs m, rules_length bs m r) (starts_of_agrees bs m r w refl)))))

bytes_table_length : (code : ℕ) (bs : List ℕ) (m r w : ℕ) → table_length (bytes_table code bs m r w) ≡ starts_start m r + w * 4
unfolding bytes_table
bytes_table_length code bs m r w = rw (nodes_length bs m, rules_length bs m r, words_length bs (starts_start m r) w)

alone_agrees : (code : ℕ) (bs : List ℕ) → Agrees (table_alone code bs) (conditions code bs ++ nothing_left bs ∷ []) (bytes_table code bs (node_count bs) (rule_count bs) (start_count bs))
alone_agrees code bs =
    let t : Table = bytes_table code bs (node_count bs) (rule_count bs) (start_count bs) in
    followed _ (λ t. cond (eqb (table_length t) (length bs)) (Ok t) (refuse why.TableLength (table_length t))) (conditions code bs) (nothing_left bs ∷ []) t t
    (front_agrees code bs)
    (subst (λ n. Agrees (cond (eqb n (length bs)) (Ok t) (refuse why.TableLength n)) (nothing_left bs ∷ []) t) (sym (bytes_table_length code bs (node_count bs) (rule_count bs) (start_count bs)))
    (judgement (eqb (table_end bs) (length bs)) (fault why.TableLength (table_end bs)) t))

pub refuses_first : (code : ℕ) (bs : List ℕ) → RefusesFirst code bs
refuses_first code bs = record {
  front = agrees_refusal (table_front code bs) (conditions code bs) _ (front_agrees code bs);
  alone = agrees_refusal (table_alone code bs) (conditions code bs ++ nothing_left bs ∷ []) _ (alone_agrees code bs);
}
