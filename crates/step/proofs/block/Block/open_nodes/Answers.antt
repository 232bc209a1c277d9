use Rattle.std.proofs.Common.{◌≡◌, ◌<◌, ◌≤◌, false, length, get_or, sym, ap, ◌∙◌, arith}
use Rattle.table.specs.Views.{view}
use Rattle.table.specs.declared.node.Node.TheVariants.{Truth}
use Rattle.step.specs.Names.{names_below}
use Rattle.step.specs.Nodes.{on_words}
use Rattle.step.specs.Opening.{column}
use Rattle.step.proofs.Becoming.{becomes_then}
use Rattle.step.proofs.Columns.{columns_turn, columns_done}
use Rattle.step.proofs.Ready.{node_ready}
use Rattle.step.proofs.block.Block.open_nodes.Goals as goal

pub open_column-requires-clause-below : goal.open_column-requires-clause-below
open_column-requires-clause-below g c =
    omega (arith, c.loop-i-test.true, ap length c.nodes-node-items.ensures.value, ap (λ b. length (view b.now).nodes) c.loop-i.invariant.0.table)

pub open_column-requires-clause-named : goal.open_column-requires-clause-named
open_column-requires-clause-named g c =
    ap (λ b. names_below (view b.now).switches c.loop-i.i (get_or c.nodes-node-items.result.now c.loop-i.i (Truth false))) c.loop-i.invariant.0.table
    ∙ node_ready (view c.args.self.now.table.now) c.args.self.now.table.now.fit c.nodes-node-items.result.now c.nodes-node-items.ensures.value (Truth false) c.loop-i.i c.loop-i-test.true

pub loop-i-preserved : goal.loop-i-preserved
loop-i-preserved g c =
    let k = on_words g.K.Reading.kind in
    let t = view c.args.self.now.table.now in
    let same = c.nodes-node-items.ensures.value in
    let now = c.loop-i.invariant.0 in
    let lt : c.loop-i.i < length t.nodes = omega (arith, ap length same, c.loop-i-test.true) in
    let made : c.open_column.new.self.words.now ≡ column k t (get_or t.nodes c.loop-i.i (Truth false)) c.loop-i.i c.loop-i.self.words.now t.switches =
    c.open_column.ensures.words ∙ (λ i. column k (view (now.table i).now) (get_or (same i) c.loop-i.i (Truth false)) c.loop-i.i c.loop-i.self.words.now (view (now.table i).now).switches) in (
      becomes_then _ now c.open_column.ensures (sym c.open_column.ensures.words),
      rw made (columns_turn k t t.nodes (Truth false) c.loop-i.i c.loop-i.self.words.now _ lt c.loop-i.invariant.1),
    )

pub returns : goal.returns
returns g c =
    let t = view c.args.self.now.table.now in
    let end : length t.nodes ≤ c.loop-i.i = omega (arith, ap length c.nodes-node-items.ensures.value, c.loop-i-test.false) in
    let done = columns_done (on_words g.K.Reading.kind) t t.nodes c.loop-i.i c.loop-i.self.words.now _ end c.loop-i.invariant.1 in
    record { words = done; table = c.loop-i.invariant.0.table; switch = c.loop-i.invariant.0.switch; reference = c.loop-i.invariant.0.reference }
