-- Worked values of steps on numbers. Assumes nothing.
use Rattle.std.specs.Prelude.{◌≡◌, ℕ, List, [], ◌∷◌, length, replicate}
use Rattle.readings.specs.Numbers.{number_code, numbers}
use Rattle.table.specs.Tables.{Table}
use Rattle.table.specs.Worked.{worked_table}
use Rattle.table.specs.declared.node.Node.TheVariants.{Constant, Previously, Register, Same}
use Rattle.step.specs.Nodes.{WordKind, on_words}
use Rattle.step.specs.Opening.{opened}
use Rattle.step.specs.StepLaws.{record_words}
use Rattle.step.specs.Steps.{send, set_register, step_block}

abbrev pub number_words : WordKind
number_words = on_words numbers

-- Register 0, the constant 5, whether they are the same, and whether they were before; register 0 starts as 5.
abbrev pub four_nodes : Table
four_nodes = record {
  code = number_code;
  switches = 1;
  nodes = Register 0 ∷ Constant 5 ∷ Same 0 1 ∷ Previously 2 ∷ [];
  rules = [];
  starts = 5 ∷ replicate 7 0;
}

-- the own words of switch s in its block
abbrev pub own : Table → ℕ → List ℕ → List ℕ
own t s block = record_words (length t.nodes) block s

-- switch 0 of the worked table after register 0 was set to 9
abbrev pub worked_first : List ℕ
worked_first = step_block number_words worked_table 0 (set_register 0 9) (opened number_words worked_table 0)

abbrev pub four_start : List ℕ
four_start = opened number_words four_nodes 0

abbrev pub four_set : List ℕ
four_set = step_block number_words four_nodes 0 (set_register 0 6) four_start

abbrev pub four_sent : List ℕ
four_sent = step_block number_words four_nodes 0 send four_set

abbrev pub WorkedSteps : Type 0
WorkedSteps =
    (own worked_table 0 worked_first ≡ 9 ∷ 9 ∷ 1 ∷ 1 ∷ [])
    × (own four_nodes 0 four_start ≡ 5 ∷ 5 ∷ 1 ∷ 1 ∷ [])
    × (own four_nodes 0 four_set ≡ 6 ∷ 5 ∷ 0 ∷ 1 ∷ [])
    × (own four_nodes 0 four_sent ≡ 6 ∷ 5 ∷ 0 ∷ 0 ∷ [])
