use Rattle.step.specs.Blocks.{Becomes, node_count}
use Rattle.step.specs.Steps.{taken}
use Rattle.step.proofs.block.Block.take_over.Given as goal

abbrev pub invariant-loop-j : goal.invariant-loop-j
invariant-loop-j l =
    Becomes l.initial.self l.self (taken (node_count l.initial.self) l.initial.self.switch l.copy.words.now l.initial.self.words.now l.j)
