-- The numbers of the refusals. Assumes nothing.
use Rattle.std.specs.Prelude.{ℕ, ◌+◌, ◌*◌}
use Rattle.table.specs.declared.fault.Fault.{Fault}
use Rattle.table.specs.declared.fault.Reason.{Reason}
use Rattle.table.specs.declared.fault.Reason.TheVariants.{TableLength, TableField, Node, Rule, Shape, Shut, Switch, Operand, Full, NotHeld, Count, Copy, Events}

abbrev pub number : Reason → ℕ
number TableLength = 1
number TableField = 2
number Node = 3
number Rule = 4
number Shape = 5
number Shut = 6
number Switch = 7
number Operand = 8
number Full = 9
number NotHeld = 10
number Count = 11
number Copy = 12
number Events = 13

-- the largest word
abbrev pub most_word : ℕ
most_word = 4294967295

-- a refusal as one number, for callers in C
abbrev pub answer : Fault → ℕ
answer e = e.place * 256 + number e.reason
