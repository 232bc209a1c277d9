use Rattle.std.proofs.Common.{◌∙◌}
use Rattle.table.specs.Views.{view}
use Rattle.step.specs.Nodes.{on_words}
use Rattle.step.specs.Opening.{opened_one}
use Rattle.step.proofs.Becoming.{becomes_then}
use Rattle.step.proofs.Columns.{column_more}
use Rattle.step.proofs.block.Block.open_column.Goals as goal

pub loop-j-preserved : goal.loop-j-preserved
loop-j-preserved g c =
    let k = on_words g.K.Reading.kind in
    let now = c.loop-j.invariant in
    becomes_then _ now c.open_one.ensures
    ((λ i. opened_one k (view (now.table i).now) c.args.node c.args.i (now.words i) c.loop-j.j)
    ∙ column_more k (view c.args.self.now.table.now) c.args.node c.args.i c.args.self.now.words.now c.loop-j.j)
