use Rattle.std.proofs.Common.{◌≡◌, ℕ, Some, Ok, refl, ap, ◌∙◌, arith}
use Rattle.table.specs.Views.{view}
use Rattle.step.specs.Nodes.{on_words}
use Rattle.history.specs.Calls.{send_call}
use Rattle.fleet.specs.Blocks.{Inside}
use Rattle.fleet.specs.FleetCalls.{reply_with}
use Rattle.fleet.specs.Shapes.{state}
use Rattle.fleet.proofs.Outcomes.{made, put_is, refused_first, sent}
use Rattle.fleet.proofs.fleet.Fleet.send.Goals as goal

pub returns-in_err-admit : goal.returns-in_err-admit
returns-in_err-admit g c = λ sound.
    let k = on_words g.K.Reading.kind in
    let t = view c.args.table.now in
    let f = state c.args.memory.now c.args.hand.now (g.C.Carrier.meaning c.args.self.now.carrier) in
    refused_first g.K.Reading.CODE k t c.args.self.now.live f (send_call c.args.switch) sound c.in_err-admit.field-0.0 (c.in_err-admit.ensures.value sound)
    c.from_residual.result c.from_residual.ensures.1

pub returns-in_err-number : goal.returns-in_err-number
returns-in_err-number g c = λ sound.
    let k = on_words g.K.Reading.kind in
    let t = view c.args.table.now in
    let s = c.args.switch in
    let f = state c.args.memory.now c.args.hand.now (g.C.Carrier.meaning c.args.self.now.carrier) in
    let live = c.args.self.now.live in
    let code = g.K.Reading.CODE in
    let before = c.in_ok-admit.ensures.admitted in
    let memory = c.send_block-outcome.new.memory in
    let inside : Inside t s memory = record { there = before.able.inside.there; room = c.send_block-outcome.auto.memory ∙ before.lengths.memory_is } in
    let put = (c.put.ensures sound).answer ∙ (put_is code k t live f s tt (c.in_ok-admit.ensures.value sound) memory inside c.send_block-outcome.new.hand c.send_block-outcome.ensures.hand).0 in
    let was = c.in_err-number.was in
    let z : ◌≡◌ {A = ℕ} 0 1 = cc in
    absurd (omega arith)

pub returns : goal.returns
returns g c = λ sound.
    let k = on_words g.K.Reading.kind in
    let t = view c.args.table.now in
    let s = c.args.switch in
    let f = state c.args.memory.now c.args.hand.now (g.C.Carrier.meaning c.args.self.now.carrier) in
    let live = c.args.self.now.live in
    let code = g.K.Reading.CODE in
    let before = c.in_ok-admit.ensures.admitted in
    let none = c.in_ok-admit.ensures.value sound in
    let memory = c.send_block-outcome.new.memory in
    let hand = c.send_block-outcome.new.hand in
    let inside : Inside t s memory = record { there = before.able.inside.there; room = c.send_block-outcome.auto.memory ∙ before.lengths.memory_is } in
    let put = c.put.ensures sound in
    let answered = put.answer ∙ (put_is code k t live f s tt none memory inside hand c.send_block-outcome.ensures.hand).0 in
    let was = c.in_ok-number.was in
    let number : c.in_ok-number.number ≡ f.carrier.next = cc in
    let stepped = c.send_block-outcome.ensures.memory in
    let outcome_is = c.send_block-outcome.ensures.outcome in
    made code k t live f (send_call s) put.sound tt none refl (Ok c.of.result)
    (ap Ok (c.of.ensures ∙ (λ i. reply_with (outcome_is i) (Some (number i)))))
    (state memory hand (g.C.Carrier.meaning c.put.new.self))
    (sent code k t live f s tt none before.able.inside memory hand (g.C.Carrier.meaning c.put.new.self) inside stepped c.send_block-outcome.ensures.hand put.meaning)
