use Rattle.std.proofs.Common.{◌≡◌, drop}
use Rattle.table.specs.Views.{view}
use Rattle.step.specs.Blocks.{Becomes}
use Rattle.step.specs.Nodes.{on_words}
use Rattle.step.specs.Opening.{columns}
use Rattle.step.proofs.block.Block.open_nodes.Given as goal

abbrev pub invariant-loop-i : goal.invariant-loop-i
invariant-loop-i g l =
    let k = on_words g.K.Reading.kind in
    let t = view l.initial.self.table.now in
    Becomes l.initial.self l.self l.self.words.now
    × (columns k t (drop l.i t.nodes) l.i l.self.words.now ≡ columns k t t.nodes 0 l.initial.self.words.now)
