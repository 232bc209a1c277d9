-- A switch's block in the memory of all switches. Assumes nothing.
use Rattle.std.specs.Prelude.{◌≡◌, ℕ, ◌*◌, ◌<◌, true, false, cond, List, ◌∷◌, length, take, drop, Some, None, Option, ◌==◌, nat_eq, nat_lt, slice_index}
use Rattle.table.specs.Tables.{Table}
use Rattle.table.specs.declared.fault.Reason.{Reason}
use Rattle.table.specs.declared.fault.Reason.TheVariants as why
use Rattle.step.specs.Nodes.{WordKind}
use Rattle.step.specs.Records.{block_length, hand_length, record_of, records_length}
use Rattle.step.specs.Steps.{Act, acted_block, advanced, hand_fits, max_count, own_count, register_fits}
use Rattle.history.specs.Calls.{put_block}

module _ (t : Table) where
  -- a switch of the table, in a memory of the table's length
  pub record Inside (s : ℕ) (memory : List ℕ) : Type 0 where
    pub there : s < t.switches
    pub room : length memory ≡ t.switches * block_length t.switches (length t.nodes)

  -- block s
  abbrev pub block_in : List ℕ → ℕ → List ℕ
  block_in memory s =
      take (block_length t.switches (length t.nodes)) (drop (s * block_length t.switches (length t.nodes)) memory)

  -- word i of what s knows of j
  abbrev pub word_in : List ℕ → ℕ → ℕ → ℕ → ℕ
  word_in memory s j i = slice_index (record_of (length t.nodes) (block_in memory s) j) i

  -- a copy of what s knows
  abbrev pub copy_in : List ℕ → ℕ → List ℕ
  copy_in memory s = s ∷ take (records_length t.switches (length t.nodes)) (block_in memory s)

  -- why s can make no event: there is no such switch, or its count cannot grow
  abbrev pub stuck_by : List ℕ → ℕ → Option Reason
  stuck_by memory s =
      cond (nat_lt s t.switches)
      (cond (own_count (length t.nodes) s (block_in memory s) == max_count) (Some why.Count) None)
      (Some why.Switch)

  -- what holds where s can make an event
  pub record Able (s : ℕ) (a : Act) (memory : List ℕ) : Type 0 where
    pub inside : Inside s memory
    pub count : nat_eq (own_count (length t.nodes) s (block_in memory s)) max_count ≡ false
    pub hand : hand_fits (hand_length t.switches (length t.nodes)) a ≡ true
    pub register : register_fits a ≡ true

  -- the memory after the step of s
  abbrev pub stepped_in : WordKind → List ℕ → ℕ → Act → List ℕ
  stepped_in k memory s a = put_block k t memory s (advanced k t s (acted_block t s a (block_in memory s)))
