-- The table that a checked table stands for. Assumes nothing.
use Rattle.table.specs.Tables.{Table, table_of}
use Rattle.table.specs.declared.table.Checked.{Checked}

abbrev pub view : Checked → Table
view c = table_of c.bytes.now c.switches c.nodes.items c.rules.items
