use Rattle.std.proofs.Common.{◌<◌, ◌∙◌, arith}
use Rattle.table.specs.Views.{view}
use Rattle.step.specs.Nodes.{on_words}
use Rattle.fleet.proofs.NewFleet.{all_opened, one_more}
use Rattle.fleet.proofs.blocks.open_blocks.Goals as goal

pub loop-switch-preserved : goal.loop-switch-preserved
loop-switch-preserved g c =
    let k = on_words g.K.Reading.kind in
    let t = view c.args.table.now in
    let i = c.loop-switch.switch in
    let below : i < t.switches = omega (arith, c.loop-switch-test.true, c.switches-switch-end.ensures.value) in
    let more = one_more k t c.args.table.now.fit c.loop-switch.memory (c.loop-switch.auto.memory ∙ c.requires) i below c.loop-switch.invariant in
    rw c.open_block.ensures more

pub returns : goal.returns
returns g c =
    let k = on_words g.K.Reading.kind in
    let t = view c.args.table.now in
    all_opened k t c.args.table.now.fit c.loop-switch.memory (c.loop-switch.auto.memory ∙ c.requires)
    (λ s below. c.loop-switch.invariant s (omega (arith, c.loop-switch-test.false, c.switches-switch-end.ensures.value)))
