use Rattle.std.proofs.Common.{◌≡◌, ℕ, ◌∙◌, arith}
use Rattle.table.specs.Views.{view}
use Rattle.step.specs.Nodes.{on_words}
use Rattle.fleet.specs.Shapes.{state}
use Rattle.fleet.specs.Shapes as shapes
use Rattle.fleet.proofs.NewFleet.{opened_as}
use Rattle.fleet.proofs.Refused.{accepted}
use Rattle.fleet.proofs.fleet.Fleet.open.Goals as goal
use Rattle.fleet.proofs.fleet.Fleet.open.Goals.{then-live, else-live}

pub returns-clause-fleet : goal.returns-clause-fleet
returns-clause-fleet g c = λ sound.
    let k = on_words g.K.Reading.kind in
    let t = view c.args.table.now in
    let before = state c.args.memory.now c.args.hand.now (g.C.Carrier.meaning c.args.carrier) in
    opened_as g.K.Reading.CODE k t before c.if-live.memory c.is_ok-live.result
    (c.is_ok-live.ensures.value ∙ accepted (shapes.fits g.K.Reading.CODE t before) c.admit.result (c.admit.ensures.number sound))
    (λ lives. elim c.if-live.branch [
      | then-live w ↦ w.memory-is ∙ w.open_blocks.ensures
      | else-live w ↦ let not = w.if-live.false in let z : ◌≡◌ {A = ℕ} 0 1 = cc in absurd (omega arith)
    ])
    (λ shut. elim c.if-live.branch [
      | then-live w ↦ let is = w.if-live.true in let z : ◌≡◌ {A = ℕ} 0 1 = cc in absurd (omega arith)
      | else-live w ↦ w.memory-is
    ])
