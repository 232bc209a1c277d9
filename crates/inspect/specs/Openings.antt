-- What the switches of a table start with. Assumes nothing.
use Rattle.std.specs.Prelude.{ℕ, List, length}
use Rattle.readings.specs.Numbers.{numbers}
use Rattle.readings.specs.Ports.{port_sets}
use Rattle.step.specs.Nodes.{WordKind, on_words}
use Rattle.step.specs.Opening.{opened}
use Rattle.step.specs.StepLaws.{record_words}
use Rattle.table.specs.Tables.{Table}
use Rattle.table.specs.declared.kind.Kind.{Kind}
use Rattle.table.specs.declared.kind.Kind.TheVariants.{Numbers, Ports}

-- what a delivered kind makes of words
abbrev pub words_by : Kind → WordKind
words_by Numbers = on_words numbers
words_by Ports = on_words port_sets

-- the words of the nodes at switch s, in the block that it starts with
abbrev pub first_words : Kind → Table → ℕ → List ℕ
first_words k t s = record_words (length t.nodes) (opened (words_by k) t s) s
