-- The block that a switch starts with. Assumes nothing.
use Rattle.std.specs.Prelude.{ℕ, zero, suc, ◌+◌, ◌*◌, cond, List, [], ◌∷◌, length, take, drop, replicate, Some, None, Option, Result, ◌==◌, nat_lt, slice_set}
use Rattle.std.proofs.Math.Seq.{paste}
use Rattle.table.specs.Limits.{register_count}
use Rattle.table.specs.Tables.{Table}
use Rattle.table.specs.declared.fault.Fault.{Fault}
use Rattle.table.specs.declared.fault.Reason.{Reason}
use Rattle.table.specs.declared.fault.Reason.TheVariants as why
use Rattle.table.specs.declared.node.Node.{Node}
use Rattle.step.specs.Nodes.{WordKind, Sight, first, node_word}
use Rattle.step.specs.Steps.{answer_of, block_of}
use Rattle.step.specs.Records.{block_length, record_start, records_length}

-- the words that switch j's registers start with
abbrev pub start_registers : Table → ℕ → List ℕ
start_registers t j = take register_count (drop (j * register_count) t.starts)

-- what switch j sees of a block whose first i nodes are worked out
abbrev pub first_sight : ℕ → List ℕ → List ℕ → ℕ → ℕ → Sight
first_sight m registers block i j = record {
  switch = j;
  nodes = m;
  words = take i (drop (record_start m j + 1) block);
  records = block;
  registers = registers;
}

-- the first word of node i at switch j
abbrev pub first_word : WordKind → ℕ → List ℕ → List ℕ → ℕ → ℕ → Node → ℕ
first_word k m registers block i j x = node_word k (first_sight m registers block i j) (first (first_sight m registers block i j)) x

-- node i worked out at switch j
abbrev pub opened_one : WordKind → Table → Node → ℕ → List ℕ → ℕ → List ℕ
opened_one k t x i block j =
    slice_set block (record_start (length t.nodes) j + 1 + i) (first_word k (length t.nodes) (start_registers t j) block i j x)

-- at the first switches
unfoldable pub column : WordKind → Table → Node → ℕ → List ℕ → ℕ → List ℕ
column k t x i block zero = block
column k t x i block (suc j) = opened_one k t x i (column k t x i block j) j

-- the nodes left, from node i on, worked out at every switch
unfoldable pub columns : WordKind → Table → List Node → ℕ → List ℕ → List ℕ
columns k t [] i block = block
columns k t (x ∷ xs) i block = columns k t xs (suc i) (column k t x i block t.switches)

-- every record has the count 0 and the first words of its switch, and the registers their starting words
abbrev pub opened : WordKind → Table → ℕ → List ℕ
opened k t s =
    paste (columns k t t.nodes 0 (replicate (block_length t.switches (length t.nodes)) 0))
    (records_length t.switches (length t.nodes)) (start_registers t s) register_count

-- why a block cannot be opened: its shape, or the switch
abbrev pub open_refusal : Table → ℕ → List ℕ → Option Reason
open_refusal t s block =
    cond (length block == block_length t.switches (length t.nodes))
    (cond (nat_lt s t.switches) None (Some why.Switch))
    (Some why.Shape)

abbrev pub open_answer : Table → ℕ → List ℕ → Result (Unit {0}) Fault
open_answer t s block = answer_of (open_refusal t s block) tt

abbrev pub open_block : WordKind → Table → ℕ → List ℕ → List ℕ
open_block k t s block = block_of (open_refusal t s block) block (opened k t s)
