use Rattle.table.specs.Views.{view}
use Rattle.step.specs.Blocks.{Becomes}
use Rattle.step.specs.Nodes.{on_words}
use Rattle.step.specs.Opening.{column}
use Rattle.step.proofs.block.Block.open_column.Given as goal

abbrev pub invariant-loop-j : goal.invariant-loop-j
invariant-loop-j g l =
    Becomes l.initial.self l.self (column (on_words g.K.Reading.kind) (view l.initial.self.table.now) l.node l.i l.initial.self.words.now l.j)
