use Rattle.std.proofs.Common.{◌∙◌}
use Rattle.table.specs.Views.{view}
use Rattle.step.specs.Events.{act_of}
use Rattle.step.specs.Nodes.{on_words}
use Rattle.fleet.proofs.Middle.{part_long, put_there, stepped_there}
use Rattle.fleet.proofs.blocks.step_block.Goals as goal

pub returns-clause-memory : goal.returns-clause-memory
returns-clause-memory g c =
    let k = on_words g.K.Reading.kind in
    let t = view c.args.table.now in
    let s = c.args.switch in
    let a = act_of c.args.event in
    let memory = c.args.memory.now in
    let inside = c.requires.inside in
    let place = c.start-at.ensures.value in
    let wide = c.block_length-size.ensures in
    put_there t s memory inside _ _ place wide c.step.new.block _
    (stepped_there t s memory inside _ _ place wide a c.requires k c.step.new.block c.step.ensures.block)
    (c.step.auto.block ∙ part_long t s memory inside _ _ place wide)
