-- What holds of reading and writing rule tables, in the format's own words. Assumes nothing.
use Rattle.std.specs.Prelude.{◌≡◌, ℕ, zero, suc, ◌+◌, ◌*◌, ◌<◌, ◌≤◌, Bool, true, false, cond, List, [], ◌∷◌, ◌++◌, length, take, Some, None, Ok, Err, Option, Result, ◌==◌, nat_eq, nat_le}
use Rattle.std.specs.Option.{unwrap_or}
use Rattle.std.specs.List.{AllByRecursion}
use Rattle.table.specs.Limits.{max_switches, max_nodes, max_rules, register_count}
use Rattle.table.specs.Nodes.{decoded, node_fits, rule_fits}
use Rattle.table.specs.Tables.{Table, sound, table_bytes, table_length, table_front, table_alone, node_size, rule_size, nodes_start, rules_start, starts_start}
use Rattle.table.specs.Wire.{word_at, fault, between}
use Rattle.table.specs.declared.fault.Fault.{Fault}
use Rattle.table.specs.declared.fault.Reason.TheVariants as why
use Rattle.table.specs.declared.node.Node.{Node}
use Rattle.table.specs.declared.node.Node.TheVariants.{Truth}
use Rattle.table.specs.declared.node.Rule.{Rule}

abbrev pub Bytes : List ℕ → Type 0
Bytes bs = AllByRecursion (λ b. b < 256) bs

-- Check accepts exactly the bytes that encode some sound table of the kind,
-- and encoding and decoding undo each other.
pub record AcceptsExactly (code : ℕ) (bs : List ℕ) : Type 0 where
  -- what is accepted is the encoding of a sound table with this code, and that table is the answer
  pub only : (t : Table) → table_alone code bs ≡ Ok t → (t.code ≡ code) × (sound t ≡ true) × (table_bytes t ≡ bs)
  -- every sound table's encoding is accepted, and decodes to it
  pub all : (t : Table) → t.code ≡ code → sound t ≡ true → table_bytes t ≡ bs → table_alone code bs ≡ Ok t

-- The same of a table at the front of a longer input: its bytes are the first table_length.
pub record AcceptsFront (code : ℕ) (bs : List ℕ) : Type 0 where
  pub only : (t : Table) → table_front code bs ≡ Ok t → (t.code ≡ code) × (sound t ≡ true) × (table_length t ≤ length bs) × (table_bytes t ≡ take (table_length t) bs)
  pub all : (t : Table) (rest : List ℕ) → t.code ≡ code → sound t ≡ true → bs ≡ table_bytes t ++ rest → table_front code bs ≡ Ok t

-- A refusal is the first fault in reading order. The conditions on a table's bytes, in that order:
-- each says whether it holds, and what is refused where it does not.
pub record Condition : Type 0 where
  pub holds : Bool
  pub otherwise : Fault

-- the field at an offset is there
abbrev pub present : List ℕ → ℕ → Condition
present bs at = record { holds = nat_le (at + 4) (length bs); otherwise = fault why.TableLength at }

-- its value passes a test
abbrev pub value : Bool → ℕ → Condition
value ok at = record { holds = ok; otherwise = fault why.TableField at }

abbrev pub field_conditions : (ℕ → Bool) → List ℕ → ℕ → List Condition
field_conditions ok bs at = present bs at ∷ value (ok (word_at bs at)) at ∷ []

-- node i's words, whatever they are
abbrev pub words_node : List ℕ → ℕ → Option Node
words_node bs i =
    decoded (word_at bs (nodes_start + i * node_size)) (word_at bs (nodes_start + i * node_size + 4)) (word_at bs (nodes_start + i * node_size + 4 + 4))

-- the first i nodes
abbrev pub nodes_before : List ℕ → ℕ → List Node
nodes_before bs zero = []
nodes_before bs (suc i) = nodes_before bs i ++ unwrap_or (words_node bs i) (Truth false) ∷ []

abbrev pub fits_there : ℕ → List Node → Option Node → Bool
fits_there n earlier None = false
fits_there n earlier (Some x) = node_fits n earlier x

-- node i: its three words are there, and it is a node that may stand there
abbrev pub node_conditions : List ℕ → ℕ → List Condition
node_conditions bs i =
    present bs (nodes_start + i * node_size)
    ∷ present bs (nodes_start + i * node_size + 4)
    ∷ present bs (nodes_start + i * node_size + 4 + 4)
    ∷ record { holds = fits_there (word_at bs 4) (nodes_before bs i) (words_node bs i); otherwise = fault why.Node i }
    ∷ []

-- rule i of a table with m nodes
abbrev pub words_rule : List ℕ → ℕ → ℕ → Rule
words_rule bs m i = record { switch = word_at bs (rules_start m + i * rule_size); node = word_at bs (rules_start m + i * rule_size + 4) }

abbrev pub rule_conditions : List ℕ → ℕ → ℕ → List Condition
rule_conditions bs m i =
    present bs (rules_start m + i * rule_size)
    ∷ present bs (rules_start m + i * rule_size + 4)
    ∷ record { holds = rule_fits (word_at bs 4) (nodes_before bs m) (words_rule bs m i); otherwise = fault why.Rule i }
    ∷ []

-- f at 0, 1 and so on, one after another
abbrev pub each : {X : Type 0} → (ℕ → List X) → ℕ → List X
each f zero = []
each f (suc i) = each f i ++ f i

-- of a table whose counts are m nodes, r rules and w starting words
abbrev pub conditions_with : ℕ → List ℕ → ℕ → ℕ → ℕ → List Condition
conditions_with code bs m r w =
    field_conditions (λ x. nat_eq x code) bs 0
    ++ (field_conditions (between 1 max_switches) bs 4
    ++ (field_conditions (between 1 max_nodes) bs 8
    ++ (each (node_conditions bs) m
    ++ (field_conditions (between 0 max_rules) bs (nodes_start + m * node_size)
    ++ (each (rule_conditions bs m) r
    ++ (field_conditions (λ x. nat_eq x (register_count * word_at bs 4)) bs (rules_start m + r * rule_size)
    ++ each (λ i. present bs (starts_start m r + i * 4) ∷ []) w))))))

-- the counts as the bytes have them
abbrev pub node_count : List ℕ → ℕ
node_count bs = word_at bs 8

abbrev pub rule_count : List ℕ → ℕ
rule_count bs = word_at bs (nodes_start + node_count bs * node_size)

abbrev pub start_count : List ℕ → ℕ
start_count bs = word_at bs (rules_start (node_count bs) + rule_count bs * rule_size)

abbrev pub conditions : ℕ → List ℕ → List Condition
conditions code bs = conditions_with code bs (node_count bs) (rule_count bs) (start_count bs)

-- no bytes are left after the last starting word
abbrev pub table_end : List ℕ → ℕ
table_end bs = starts_start (node_count bs) (rule_count bs) + start_count bs * 4

abbrev pub nothing_left : List ℕ → Condition
nothing_left bs = record { holds = (table_end bs == length bs); otherwise = fault why.TableLength (table_end bs) }

abbrev pub first_fault : List Condition → Option Fault
first_fault [] = None
first_fault (c ∷ cs) = cond c.holds (first_fault cs) (Some c.otherwise)

abbrev pub refusal : {A : Type 0} → Result A Fault → Option Fault
refusal (Ok x) = None
refusal (Err e) = Some e

pub record RefusesFirst (code : ℕ) (bs : List ℕ) : Type 0 where
  pub front : refusal (table_front code bs) ≡ first_fault (conditions code bs)
  pub alone : refusal (table_alone code bs) ≡ first_fault (conditions code bs ++ nothing_left bs ∷ [])

-- what holds of a kind's code and of all bytes
pub record TableLaws (code : ℕ) (bs : List ℕ) : Type 0 where
  pub exactly : AcceptsExactly code bs
  pub front : AcceptsFront code bs
  pub first : RefusesFirst code bs
