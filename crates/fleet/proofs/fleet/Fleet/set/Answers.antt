use Rattle.table.specs.Views.{view}
use Rattle.step.specs.Nodes.{on_words}
use Rattle.history.specs.Calls.{set_call}
use Rattle.fleet.specs.Shapes.{state}
use Rattle.fleet.proofs.Outcomes.{refused_first}
use Rattle.fleet.proofs.fleet.Fleet.set.Goals as goal

pub returns-in_err-admit : goal.returns-in_err-admit
returns-in_err-admit g c = λ sound.
    let k = on_words g.K.Reading.kind in
    let t = view c.args.table.now in
    let f = state c.args.memory.now c.args.hand.now (g.C.Carrier.meaning c.args.self.now.carrier) in
    refused_first g.K.Reading.CODE k t c.args.self.now.live f (set_call c.args.switch c.args.register c.args.word) sound c.in_err-admit.field-0.0 (c.in_err-admit.ensures.value sound)
    c.from_residual.result c.from_residual.ensures.1
