-- One switch's step, over the words of its block. Assumes nothing.
use Rattle.std.specs.Prelude.{◌≡◌, ℕ, zero, suc, ◌+◌, ◌*◌, ◌<◌, Bool, true, cond, not, ◌&&◌, List, [], ◌∷◌, ◌++◌, length, Some, None, Ok, Option, Result, ◌==◌, nat_lt, slice_index, slice_set}
use Rattle.table.specs.Limits.{register_count}
use Rattle.table.specs.Tables.{Table}
use Rattle.table.specs.Wire.{refuse}
use Rattle.table.specs.declared.fault.Fault.{Fault}
use Rattle.table.specs.declared.fault.Reason.{Reason}
use Rattle.table.specs.declared.fault.Reason.TheVariants as why
use Rattle.table.specs.declared.node.Node.{Node}
use Rattle.table.specs.declared.node.Rule.{Rule}
use Rattle.step.specs.declared.advance.Outcome.{Outcome}
use Rattle.step.specs.Nodes.{WordKind, Sight, later, node_word}
use Rattle.step.specs.Records.{block_length, hand_length, records_length, record_of, put_record, count_of, newer, registers_of, hand_records}

-- what an event does before the own words are worked out
pub data Act : Type 0 where
  set_register : ℕ → ℕ → Act
  send : Act
  -- with the copy's hand
  receive : List ℕ → Act

-- record j is taken over from the copy's records where it is newer; the own record of s never is
abbrev pub taken_one : ℕ → ℕ → List ℕ → List ℕ → ℕ → List ℕ
taken_one m s copy block j = cond (not (j == s) && newer (record_of m copy j) (record_of m block j)) (put_record m block j (record_of m copy j)) block

-- the first j records
unfoldable pub taken : ℕ → ℕ → List ℕ → List ℕ → ℕ → List ℕ
taken m s copy block zero = block
taken m s copy block (suc j) = taken_one m s copy (taken m s copy block j) j

abbrev pub acted : ℕ → ℕ → ℕ → Act → List ℕ → List ℕ
acted n m s (set_register g w) block = slice_set block (records_length n m + g) w
acted n m s send block = block
acted n m s (receive hand) block = taken m s (hand_records hand) block n

abbrev pub sight : ℕ → ℕ → List ℕ → List ℕ → List ℕ → Sight
sight m s block registers words = record { switch = s; nodes = m; words = words; records = block; registers = registers }

-- the own word of the next node, after the words of the nodes below it
abbrev pub own_word : WordKind → ℕ → ℕ → List ℕ → List ℕ → List ℕ → Node → ℕ
own_word k m s block registers words x =
    node_word k (sight m s block registers words) (later (sight m s block registers words) (length words)) x

-- the words of the nodes left, after those of the nodes before
unfoldable pub new_words : WordKind → ℕ → ℕ → List ℕ → List ℕ → List Node → List ℕ → List ℕ
new_words k m s block registers [] words = words
new_words k m s block registers (x ∷ xs) words =
    new_words k m s block registers xs (words ++ own_word k m s block registers words x ∷ [])

abbrev pub own_words : WordKind → Table → ℕ → List ℕ → List ℕ
own_words k t s block =
    new_words k (length t.nodes) s block (registers_of t.switches (length t.nodes) block) t.nodes []

-- rule r at s is broken
abbrev pub hit : ℕ → List ℕ → Rule → Bool
hit s words r = r.switch == s && slice_index words r.node == 0

-- the broken mask: bit r is rule r's
unfoldable pub mask : ℕ → List ℕ → List Rule → ℕ
mask s words [] = 0
mask s words (r ∷ rs) = cond (hit s words r) 1 0 + 2 * mask s words rs

abbrev pub own_count : ℕ → ℕ → List ℕ → ℕ
own_count m s block = count_of (record_of m block s)

-- the largest count
abbrev pub max_count : ℕ
max_count = 4294967295

-- the own count grows by 1, and the own words are the new ones
abbrev pub advanced : WordKind → Table → ℕ → List ℕ → List ℕ
advanced k t s block =
    put_record (length t.nodes) block s ((own_count (length t.nodes) s block + 1) ∷ own_words k t s block)

abbrev pub own_mask : WordKind → Table → ℕ → List ℕ → ℕ
own_mask k t s block = mask s (own_words k t s block) t.rules

-- a block of the table's shape, and one of its switches
pub record Fitting (t : Table) (s : ℕ) (block : List ℕ) : Type 0 where
  pub there : s < t.switches
  pub shape : length block ≡ block_length t.switches (length t.nodes)

-- a hand has the length that the table asks for
abbrev pub hand_fits : ℕ → Act → Bool
hand_fits size (set_register g w) = true
hand_fits size send = true
hand_fits size (receive hand) = length hand == size

-- a register is one that a switch has
abbrev pub register_fits : Act → Bool
register_fits (set_register g w) = nat_lt g register_count
register_fits send = true
register_fits (receive hand) = true

-- why a step cannot be made: the block's or the hand's shape, the switch, the register, the own count
abbrev pub step_refusal : Table → ℕ → Act → List ℕ → Option Reason
step_refusal t s a block =
    let n = t.switches in
    let m = length t.nodes in
    cond (length block == block_length n m && hand_fits (hand_length n m) a)
    (cond (nat_lt s n)
    (cond (register_fits a)
    (cond (own_count m s block == max_count) (Some why.Count) None)
    (Some why.Operand))
    (Some why.Switch))
    (Some why.Shape)

-- what holds where a step can be made
pub record Admitted (t : Table) (s : ℕ) (a : Act) (block : List ℕ) : Type 0 where
  pub fitting : Fitting t s block
  pub hand : hand_fits (hand_length t.switches (length t.nodes)) a ≡ true
  pub register : register_fits a ≡ true
  pub room : own_count (length t.nodes) s block < max_count

-- what the step at s answers, and the block after it; a refused step leaves the block
abbrev pub acted_block : Table → ℕ → Act → List ℕ → List ℕ
acted_block t s a block = acted t.switches (length t.nodes) s a block

abbrev pub outcome : WordKind → Table → ℕ → Act → List ℕ → Outcome
outcome k t s a block = record {
  count = own_count (length t.nodes) s (acted_block t s a block) + 1;
  broken = own_mask k t s (acted_block t s a block);
}

abbrev pub answer_of : {A : Type 0} → Option Reason → A → Result A Fault
answer_of None o = Ok o
answer_of (Some why) o = refuse why 0

abbrev pub block_of : Option Reason → List ℕ → List ℕ → List ℕ
block_of None before after = after
block_of (Some why) before after = before

abbrev pub step_answer : WordKind → Table → ℕ → Act → List ℕ → Result Outcome Fault
step_answer k t s a block = answer_of (step_refusal t s a block) (outcome k t s a block)

abbrev pub step_block : WordKind → Table → ℕ → Act → List ℕ → List ℕ
step_block k t s a block = block_of (step_refusal t s a block) block (advanced k t s (acted_block t s a block))
