-- What a change of a block leaves. Assumes nothing.
use Rattle.std.specs.Prelude.{◌≡◌, ℕ, List, length}
use Rattle.table.specs.Views.{view}
use Rattle.step.specs.declared.block.Block.{Block}

-- how many switches and nodes the table has
abbrev pub switch_count : Block → ℕ
switch_count b = (view b.table.now).switches

abbrev pub node_count : Block → ℕ
node_count b = length (view b.table.now).nodes

-- the block of the same table's same switch, behind the same reference, with the words ws
pub record Becomes (old new : Block) (ws : List ℕ) : Type 0 where
  pub words : new.words.now ≡ ws
  pub table : new.table ≡ old.table
  pub switch : new.switch ≡ old.switch
  pub reference : new.words.ghost_name ≡ old.words.ghost_name
