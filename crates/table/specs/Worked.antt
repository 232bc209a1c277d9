-- The worked rule table of three switches. Assumes nothing.
use Rattle.std.specs.Prelude.{[], ◌∷◌, ◌++◌, replicate}
use Rattle.table.specs.Tables.{Table}
use Rattle.table.specs.declared.node.Node.TheVariants.{Always, ReadingAt, Register, Within}

-- Register 0, its reading at switch 0, whether that is within the own one, and whether it always was;
-- the last has to hold at switch 1. Register 0 starts as 5, 7 and 0.
abbrev pub worked_table : Table
worked_table = record {
  code = 1;
  switches = 3;
  nodes = Register 0 ∷ ReadingAt 0 0 ∷ Within 1 0 ∷ Always 2 ∷ [];
  rules = record { switch = 1; node = 3 } ∷ [];
  starts = (5 ∷ replicate 7 0) ++ ((7 ∷ replicate 7 0) ++ replicate 8 0);
}
