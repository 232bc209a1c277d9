-- The rule table: its value, its bytes, and what reading the bytes answers. Assumes nothing.
use Rattle.std.specs.Prelude.{ℕ, zero, suc, ◌+◌, ◌*◌, ◌^◌, Bool, true, cond, ◌&&◌, List, [], ◌∷◌, ◌++◌, length, Some, None, Ok, Option, Result, ◌==◌, nat_eq, nat_lt, slice_index}
use Rattle.std.specs.List.{flat_map}
use Rattle.table.specs.Limits.{max_switches, max_nodes, max_rules, register_count}
use Rattle.table.specs.Nodes.{kind_word, a_word, b_word, decoded, node_fits, rule_fits}
use Rattle.table.specs.Wire.{word_at, word_bytes, refuse, field, and_then, between, tested_field}
use Rattle.table.specs.declared.fault.Fault.{Fault}
use Rattle.table.specs.declared.fault.Reason.TheVariants as why
use Rattle.table.specs.declared.node.Node.{Node}
use Rattle.table.specs.declared.node.Node.TheVariants.{Truth, Not, And, Or, Implies, Iff, Previously, Once, Always, Since, TruthAt, Within, Same, Constant, Register, Join, Cut, ReadingAt}
use Rattle.table.specs.declared.node.Rule.{Rule}
use Rattle.table.specs.declared.table.parse.Header.{Header}

pub record Table : Type 0 where
  pub code : ℕ
  pub switches : ℕ
  pub nodes : List Node
  pub rules : List Rule
  -- the registers' starting words, switch 0's registers 0 to 7 first
  pub starts : List ℕ

-- Lengths and offsets in bytes

abbrev pub node_size : ℕ
node_size = 12

abbrev pub rule_size : ℕ
rule_size = 8

abbrev pub nodes_start : ℕ
nodes_start = 12

-- where the rules begin, after m nodes and the rules' count
abbrev pub rules_start : ℕ → ℕ
rules_start m = nodes_start + m * node_size + 4

-- where the starting words begin, after m nodes, r rules and the words' count
abbrev pub starts_start : ℕ → ℕ → ℕ
starts_start m r = rules_start m + r * rule_size + 4

-- The bytes of a table

abbrev pub node_bytes : Node → List ℕ
node_bytes x = word_bytes (kind_word x) ++ (word_bytes (a_word x) ++ word_bytes (b_word x))

abbrev pub rule_bytes : Rule → List ℕ
rule_bytes x = word_bytes x.switch ++ word_bytes x.node

-- an array: its count, and then its elements
abbrev pub array_bytes : {X : Type 0} → (X → List ℕ) → List X → List ℕ
array_bytes f xs = word_bytes (length xs) ++ flat_map f xs

unfoldable pub table_bytes : Table → List ℕ
table_bytes t =
    word_bytes t.code ++ (word_bytes t.switches ++ (array_bytes node_bytes t.nodes
    ++ (array_bytes rule_bytes t.rules ++ array_bytes word_bytes t.starts)))

-- A sound table

abbrev pub is_word : ℕ → Bool
is_word w = nat_lt w (2 ^ 32)

-- what a node holds besides what it names: a word, or a register that a switch has
abbrev pub node_holds : Node → Bool
node_holds (Truth v) = true
node_holds (Not a) = true
node_holds (And a b) = true
node_holds (Or a b) = true
node_holds (Implies a b) = true
node_holds (Iff a b) = true
node_holds (Previously a) = true
node_holds (Once a) = true
node_holds (Always a) = true
node_holds (Since a b) = true
node_holds (TruthAt s b) = true
node_holds (Within a b) = true
node_holds (Same a b) = true
node_holds (Constant w) = is_word w
node_holds (Register g) = nat_lt g register_count
node_holds (Join a b) = true
node_holds (Cut a b) = true
node_holds (ReadingAt s b) = true

-- each of xs names only nodes of earlier and of xs before it
unfoldable pub nodes_sound : ℕ → List Node → List Node → Bool
nodes_sound n earlier [] = true
nodes_sound n earlier (x ∷ xs) = (node_holds x && node_fits n earlier x) && nodes_sound n (earlier ++ x ∷ []) xs

abbrev pub every : {X : Type 0} → (X → Bool) → List X → Bool
every f [] = true
every f (x ∷ xs) = f x && every f xs

unfoldable pub sound : Table → Bool
sound t =
    is_word t.code
    && (between 1 max_switches t.switches
    && (between 1 max_nodes (length t.nodes)
    && (nodes_sound t.switches [] t.nodes
    && (between 0 max_rules (length t.rules)
    && (every (rule_fits t.switches t.nodes) t.rules
    && (length t.starts == register_count * t.switches
    && every is_word t.starts))))))

-- Reading the bytes, field by field

-- a field whose value has to pass a test
abbrev pub tested : (ℕ → Bool) → List ℕ → ℕ → Result ℕ Fault
tested = tested_field why.TableLength why.TableField

-- node i, judged once its three words are read
abbrev pub judged : ℕ → List Node → ℕ → Option Node → Result Node Fault
judged n earlier i None = refuse why.Node i
judged n earlier i (Some x) = cond (node_fits n earlier x) (Ok x) (refuse why.Node i)

abbrev pub node_at : ℕ → List ℕ → ℕ → List Node → Result Node Fault
node_at n bs at earlier =
    and_then (field why.TableLength bs at) (λ kind.
    and_then (field why.TableLength bs (at + 4)) (λ a.
    and_then (field why.TableLength bs (at + 4 + 4)) (λ b.
    judged n earlier (length earlier) (decoded kind a b))))

-- count elements more of an array, after those of earlier; read takes an offset and the elements before
unfoldable pub items_from : {X : Type 0} → (ℕ → List X → Result X Fault) → ℕ → ℕ → ℕ → List X → Result (List X) Fault
items_from read size at zero earlier = Ok earlier
items_from read size at (suc count) earlier = and_then (read at earlier) (λ x. items_from read size (at + size) count (earlier ++ x ∷ []))

abbrev pub nodes_from : ℕ → List ℕ → ℕ → ℕ → List Node → Result (List Node) Fault
nodes_from n bs = items_from (node_at n bs) node_size

-- rule i, judged once its two words are read
abbrev pub rule_at : ℕ → List Node → List ℕ → ℕ → ℕ → Result Rule Fault
rule_at n nodes bs at i =
    and_then (field why.TableLength bs at) (λ s.
    and_then (field why.TableLength bs (at + 4)) (λ x.
    cond (rule_fits n nodes (record { switch = s; node = x })) (Ok (record { switch = s; node = x })) (refuse why.Rule i)))

abbrev pub rules_from : ℕ → List Node → List ℕ → ℕ → ℕ → List Rule → Result (List Rule) Fault
rules_from n nodes bs = items_from (λ at earlier. rule_at n nodes bs at (length earlier)) rule_size

abbrev pub words_from : List ℕ → ℕ → ℕ → List ℕ → Result (List ℕ) Fault
words_from bs = items_from (λ at earlier. field why.TableLength bs at) 4

-- The parts of a table, in reading order

-- code, number of switches and number of nodes
abbrev pub header_of : ℕ → List ℕ → Result Header Fault
header_of code bs =
    and_then (tested (λ w. nat_eq w code) bs 0) (λ c.
    and_then (tested (between 1 max_switches) bs 4) (λ n.
    and_then (tested (between 1 max_nodes) bs 8) (λ m.
    Ok (record { switches = n; nodes = m }))))

abbrev pub rules_of : ℕ → List Node → List ℕ → Result (List Rule) Fault
rules_of n nodes bs =
    and_then (tested (between 0 max_rules) bs (nodes_start + length nodes * node_size)) (λ r.
    rules_from n nodes bs (rules_start (length nodes)) r [])

abbrev pub starts_of : ℕ → ℕ → ℕ → List ℕ → Result (List ℕ) Fault
starts_of n m r bs =
    and_then (tested (λ w. nat_eq w (register_count * n)) bs (rules_start m + r * rule_size)) (λ w.
    words_from bs (starts_start m r) w [])

-- the table at the front of bs, ended by its own counts
unfoldable pub table_front : ℕ → List ℕ → Result Table Fault
table_front code bs =
    and_then (header_of code bs) (λ h.
    and_then (nodes_from h.switches bs nodes_start h.nodes []) (λ xs.
    and_then (rules_of h.switches xs bs) (λ rs.
    and_then (starts_of h.switches (length xs) (length rs) bs) (λ ws.
    Ok (record { code = code; switches = h.switches; nodes = xs; rules = rs; starts = ws })))))

-- the length of a table's bytes
abbrev pub table_length : Table → ℕ
table_length t = starts_start (length t.nodes) (length t.rules) + length t.starts * 4

-- the length of the longest table's bytes
abbrev pub longest_table : ℕ
longest_table = starts_start max_nodes max_rules + register_count * max_switches * 4

-- the table that is all of bs
abbrev pub table_alone : ℕ → List ℕ → Result Table Fault
table_alone code bs =
    and_then (table_front code bs) (λ t.
    cond (table_length t == length bs) (Ok t) (refuse why.TableLength (table_length t)))

-- the words at offset at and after it
unfoldable pub words_at : List ℕ → ℕ → ℕ → List ℕ
words_at bs at zero = []
words_at bs at (suc count) = word_at bs at ∷ words_at bs (at + 4) count

-- the table whose nodes and rules are decoded already, and whose code and starting words stand in its bytes
abbrev pub table_of : List ℕ → ℕ → List Node → List Rule → Table
table_of bs n xs rs = record {
  code = word_at bs 0;
  switches = n;
  nodes = xs;
  rules = rs;
  starts = words_at bs (starts_start (length xs) (length rs)) (register_count * n);
}

-- the word that register g of switch s starts with
abbrev pub start_word : Table → ℕ → ℕ → Option ℕ
start_word t s g = cond (nat_lt s t.switches && nat_lt g register_count) (Some (slice_index t.starts (s * register_count + g))) None
