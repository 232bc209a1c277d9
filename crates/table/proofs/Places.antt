-- The place of a refusal is within the longest table. Assumes nothing.
use Rattle.std.proofs.Common.{◌≡◌, ℕ, zero, suc, ◌+◌, ◌*◌, ◌≤◌, Bool, true, false, cond, eqb, leb, List, [], ◌∷◌, ◌++◌, length, Some, None, Ok, Err, Option, Result, refl, ap, subst, suc-mul, arith}
use Rattle.std.proofs.lemmas.List.{length_push}
use Rattle.std.proofs.lemmas.Bool.{and_parts, leb-true, eqb-true}
use Rattle.table.specs.Limits.{max_switches, max_nodes, max_rules, register_count}
use Rattle.table.specs.Nodes.{decoded, node_fits, rule_fits}
use Rattle.table.specs.Tables.{Table, tested, judged, node_at, rule_at, items_from, node_size, rule_size, nodes_start, rules_start, starts_start, nodes_from, header_of, rules_of, starts_of, table_front, table_length, table_alone, longest_table}
use Rattle.table.specs.Wire.{field, fault, and_then, between, tested_field}
use Rattle.table.specs.declared.fault.Fault.{Fault}
use Rattle.table.specs.declared.fault.Reason.{Reason}
use Rattle.table.specs.declared.fault.Reason.TheVariants as why
use Rattle.table.specs.declared.node.Node.{Node}
use Rattle.table.specs.declared.node.Rule.{Rule}
use Rattle.table.specs.declared.table.parse.Header.{Header}
use Rattle.table.proofs.TableCodec.{front_steps}
use Rattle.table.proofs.Words.{and_then_parts, ok_same, tested_parts}

-- a refusal's place is at most b
abbrev Placed : {A : Type 0} → ℕ → Result A Fault → Type 0
Placed b (Ok x) = Unit {0}
Placed b (Err e) = e.place ≤ b

placed_err : {A : Type 0} (b : ℕ) (r : Result A Fault) (e : Fault) → Placed b r → r ≡ Err e → e.place ≤ b
placed_err b r e h s = subst (Placed b) s h

-- One answer after another

placed_then : {A B : Type 0} (b : ℕ) (r : Result A Fault) (f : A → Result B Fault) → Placed b r → ((x : A) → r ≡ Ok x → Placed b (f x)) → Placed b (and_then r f)
placed_then b (Ok x) f h g = g x refl
placed_then b (Err e) f h g = h

placed_cond : {A : Type 0} (b : ℕ) (ok : Bool) (x : A) (e : Fault) → e.place ≤ b → Placed {A = A} b (cond ok (Ok x) (Err e))
placed_cond b true x e h = tt
placed_cond b false x e h = h

-- Fields

placed_field : (b : ℕ) (why : Reason) (bs : List ℕ) (i : ℕ) → i ≤ b → Placed b (field why bs i)
unfolding field
placed_field b why bs i h = placed_cond b _ _ (fault why i) h

placed_tested : (b : ℕ) (ok : ℕ → Bool) (bs : List ℕ) (i : ℕ) → i ≤ b → Placed b (tested ok bs i)
unfolding tested_field
placed_tested b ok bs i h =
    placed_then b (field why.TableLength bs i) _ (placed_field b why.TableLength bs i h) (λ w s. placed_cond b (ok w) w (fault why.TableField i) h)

between_high : (low high w : ℕ) → between low high w ≡ true → w ≤ high
between_high low high w h = leb-true w high (and_parts (leb low w) (leb w high) h).1

-- a count that was read is within its limit
counted_within : (low high : ℕ) (bs : List ℕ) (i w : ℕ) → tested (between low high) bs i ≡ Ok w → w ≤ high
counted_within low high bs i w s = between_high low high w (tested_parts (between low high) bs i w s).1

-- Elements

placed_judged : (b n : ℕ) (earlier : List Node) (i : ℕ) (o : Option Node) → i ≤ b → Placed b (judged n earlier i o)
placed_judged b n earlier i None h = h
placed_judged b n earlier i (Some x) h = placed_cond b (node_fits n earlier x) x (fault why.Node i) h

placed_node : (b n : ℕ) (bs : List ℕ) (at : ℕ) (earlier : List Node) → at + node_size ≤ b → length earlier ≤ b → Placed b (node_at n bs at earlier)
placed_node b n bs at earlier h l =
    placed_then b (field why.TableLength bs at) _ (placed_field b why.TableLength bs at (omega arith)) (λ kind s.
    placed_then b (field why.TableLength bs (at + 4)) _ (placed_field b why.TableLength bs (at + 4) (omega arith)) (λ a s.
    placed_then b (field why.TableLength bs (at + 4 + 4)) _ (placed_field b why.TableLength bs (at + 4 + 4) (omega arith)) (λ c s.
    placed_judged b n earlier (length earlier) (decoded kind a c) l)))

placed_rule : (b n : ℕ) (nodes : List Node) (bs : List ℕ) (at i : ℕ) → at + rule_size ≤ b → i ≤ b → Placed b (rule_at n nodes bs at i)
placed_rule b n nodes bs at i h l =
    placed_then b (field why.TableLength bs at) _ (placed_field b why.TableLength bs at (omega arith)) (λ s e.
    placed_then b (field why.TableLength bs (at + 4)) _ (placed_field b why.TableLength bs (at + 4) (omega arith)) (λ x e.
    placed_cond b (rule_fits n nodes (record { switch = s; node = x })) (record { switch = s; node = x }) (fault why.Rule i) l))

-- Arrays

module _ {X : Type 0} (read : ℕ → List X → Result X Fault) (size : ℕ) where
  placed_items : (b : ℕ) → ((at : ℕ) (earlier : List X) → at + size ≤ b → length earlier ≤ b → Placed b (read at earlier)) →
      (count at : ℕ) (earlier : List X) → at + count * size ≤ b → length earlier + count ≤ b → Placed b (items_from read size at count earlier)
  unfolding items_from
  placed_items b one zero at earlier h l = tt
  placed_items b one (suc count) at earlier h l =
      let m = suc-mul count size in
      placed_then b (read at earlier) _ (one at earlier (omega arith) (omega arith)) (λ x s.
      placed_items b one count (at + size) (earlier ++ x ∷ []) (omega arith) (omega (arith, length_push earlier x)))

  length_items : (count at : ℕ) (earlier xs : List X) → items_from read size at count earlier ≡ Ok xs → length xs ≡ length earlier + count
  unfolding items_from
  length_items zero at earlier xs s = let e = ok_same _ _ s in omega (arith, ap length e)
  length_items (suc count) at earlier xs s =
      let p = and_then_parts (read at earlier) _ xs s in
      omega (arith, length_items count (at + size) (earlier ++ p.0 ∷ []) xs p.2, length_push earlier p.0)

-- The parts of a table

placed_header : (code : ℕ) (bs : List ℕ) → Placed longest_table (header_of code bs)
placed_header code bs =
    placed_then longest_table (tested (λ w. eqb w code) bs 0) _ (placed_tested longest_table (λ w. eqb w code) bs 0 (omega arith)) (λ c s.
    placed_then longest_table (tested (between 1 max_switches) bs 4) _ (placed_tested longest_table (between 1 max_switches) bs 4 (omega arith)) (λ n s.
    placed_then longest_table (tested (between 1 max_nodes) bs 8) _ (placed_tested longest_table (between 1 max_nodes) bs 8 (omega arith)) (λ m s.
    tt)))

header_within : (code : ℕ) (bs : List ℕ) (h : Header) → header_of code bs ≡ Ok h → (h.switches ≤ max_switches) × (h.nodes ≤ max_nodes)
header_within code bs h e =
    let c = and_then_parts (tested (λ w. eqb w code) bs 0) _ h e in
    let n = and_then_parts (tested (between 1 max_switches) bs 4) _ h c.2 in
    let m = and_then_parts (tested (between 1 max_nodes) bs 8) _ h n.2 in
    let same = ok_same _ _ m.2 in (
      subst (λ g. g.switches ≤ max_switches) same (counted_within 1 max_switches bs 4 n.0 n.1),
      subst (λ g. g.nodes ≤ max_nodes) same (counted_within 1 max_nodes bs 8 m.0 m.1),
    )

placed_nodes : (n : ℕ) (bs : List ℕ) (m : ℕ) → m ≤ max_nodes → Placed longest_table (nodes_from n bs nodes_start m [])
placed_nodes n bs m h =
    placed_items (node_at n bs) node_size longest_table (placed_node longest_table n bs) m nodes_start [] (omega arith) (omega arith)

placed_rules : (n : ℕ) (xs : List Node) (bs : List ℕ) → length xs ≤ max_nodes → Placed longest_table (rules_of n xs bs)
placed_rules n xs bs h =
    placed_then longest_table (tested (between 0 max_rules) bs (nodes_start + length xs * node_size)) _
    (placed_tested longest_table (between 0 max_rules) bs (nodes_start + length xs * node_size) (omega arith)) (λ r s.
    let l = counted_within 0 max_rules bs (nodes_start + length xs * node_size) r s in
    placed_items (λ at earlier. rule_at n xs bs at (length earlier)) rule_size longest_table (λ at earlier. placed_rule longest_table n xs bs at (length earlier)) r (rules_start (length xs)) [] (omega arith) (omega arith))

rules_within : (n : ℕ) (xs : List Node) (bs : List ℕ) (rs : List Rule) → rules_of n xs bs ≡ Ok rs → length rs ≤ max_rules
rules_within n xs bs rs e =
    let p = and_then_parts (tested (between 0 max_rules) bs (nodes_start + length xs * node_size)) _ rs e in
    let l = counted_within 0 max_rules bs (nodes_start + length xs * node_size) p.0 p.1 in
    omega (arith, length_items (λ at earlier. rule_at n xs bs at (length earlier)) rule_size p.0 (rules_start (length xs)) [] rs p.2)

placed_starts : (n m r : ℕ) (bs : List ℕ) → n ≤ max_switches → m ≤ max_nodes → r ≤ max_rules → Placed longest_table (starts_of n m r bs)
placed_starts n m r bs hn hm hr =
    placed_then longest_table (tested (λ w. eqb w (register_count * n)) bs (rules_start m + r * rule_size)) _
    (placed_tested longest_table (λ w. eqb w (register_count * n)) bs (rules_start m + r * rule_size) (omega arith)) (λ w s.
    let l = eqb-true w (register_count * n) (tested_parts (λ w. eqb w (register_count * n)) bs (rules_start m + r * rule_size) w s).1 in
    placed_items (λ at earlier. field why.TableLength bs at) 4 longest_table (λ at earlier h k. placed_field longest_table why.TableLength bs at (omega arith)) w (starts_start m r) [] (omega arith) (omega arith))

-- The table

placed_front : (code : ℕ) (bs : List ℕ) → Placed longest_table (table_front code bs)
unfolding table_front
placed_front code bs =
    placed_then longest_table (header_of code bs) _ (placed_header code bs) (λ h eh.
    let hw = header_within code bs h eh in
    placed_then longest_table (nodes_from h.switches bs nodes_start h.nodes []) _ (placed_nodes h.switches bs h.nodes hw.1) (λ xs ex.
    let lx : length xs ≤ max_nodes = omega (arith, hw.1, length_items (node_at h.switches bs) node_size h.nodes nodes_start [] xs ex) in
    placed_then longest_table (rules_of h.switches xs bs) _ (placed_rules h.switches xs bs lx) (λ rs er.
    placed_then longest_table (starts_of h.switches (length xs) (length rs) bs) _ (placed_starts h.switches (length xs) (length rs) bs hw.0 lx (rules_within h.switches xs bs rs er)) (λ ws ew.
    tt))))

-- an accepted table is at most as long as the longest
pub front_length : (code : ℕ) (bs : List ℕ) (t : Table) → table_front code bs ≡ Ok t → table_length t ≤ longest_table
front_length code bs t e =
    let s = front_steps code bs t e in
    let n = between_high 1 max_switches t.switches s.switches_fit in
    let m = between_high 1 max_nodes s.node_count s.node_count_fits in
    let r = between_high 0 max_rules s.rule_count s.rule_count_fits in
    let xs = length_items (node_at t.switches bs) node_size s.node_count nodes_start [] t.nodes s.nodes in
    let rs = length_items (λ at earlier. rule_at t.switches t.nodes bs at (length earlier)) rule_size s.rule_count (rules_start (length t.nodes)) [] t.rules s.rules in
    let ws = length_items (λ at earlier. field why.TableLength bs at) 4 (register_count * t.switches) (starts_start (length t.nodes) (length t.rules)) [] t.starts s.starts in
    omega arith

pub front_place : (code : ℕ) (bs : List ℕ) (e : Fault) → table_front code bs ≡ Err e → e.place ≤ longest_table
front_place code bs e s = placed_err longest_table (table_front code bs) e (placed_front code bs) s

pub alone_place : (code : ℕ) (bs : List ℕ) (e : Fault) → table_alone code bs ≡ Err e → e.place ≤ longest_table
alone_place code bs e s =
    placed_err longest_table (table_alone code bs) e
    (placed_then longest_table (table_front code bs) _ (placed_front code bs) (λ t r.
    placed_cond longest_table (eqb (table_length t) (length bs)) t (fault why.TableLength (table_length t)) (front_length code bs t r)))
    s
