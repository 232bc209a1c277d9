use Rattle.std.proofs.Common.{Err, sym, ap, ◌∙◌}
use Rattle.std.proofs.lemmas.Result.{err_from_is_err_and}
use Rattle.table.specs.Views.{view}
use Rattle.table.specs.declared.fault.Reason.TheVariants as why
use Rattle.step.specs.Nodes.{on_words}
use Rattle.carriers.specs.Meanings.{copy_under}
use Rattle.history.specs.Calls.{receive_call}
use Rattle.fleet.specs.Shapes.{state}
use Rattle.fleet.proofs.Outcomes.{fetch_is, found_refused, refused_first, refused_late}
use Rattle.fleet.proofs.fleet.Fleet.receive.Goals as goal

pub returns-in_err-admit : goal.returns-in_err-admit
returns-in_err-admit g c = λ sound.
    let k = on_words g.K.Reading.kind in
    let t = view c.args.table.now in
    let f = state c.args.memory.now c.args.hand.now (g.C.Carrier.meaning c.args.self.now.carrier) in
    refused_first g.K.Reading.CODE k t c.args.self.now.live f (receive_call c.args.switch c.args.number) sound c.in_err-admit.field-0.0 (c.in_err-admit.ensures.value sound)
    c.from_residual.result c.from_residual.ensures.1

pub returns-in_err-fetch : goal.returns-in_err-fetch
returns-in_err-fetch g c = λ sound.
    let k = on_words g.K.Reading.kind in
    let t = view c.args.table.now in
    let s = c.args.switch in
    let f = state c.args.memory.now c.args.hand.now (g.C.Carrier.meaning c.args.self.now.carrier) in
    let live = c.args.self.now.live in
    let code = g.K.Reading.CODE in
    let x = c.args.number in
    let none = c.in_ok-admit.ensures.value sound in
    let whole = fetch_is code k t live f (receive_call s x) tt none x f.hand c.in_ok-admit.ensures.admitted.lengths.hand_is in
    let found = found_refused k t (copy_under x f.carrier.held) f.hand c.in_err-fetch.field-0.0 (sym c.in_err-fetch.was ∙ (c.fetch.ensures sound).answer ∙ whole.0) in
    let p = err_from_is_err_and c.from_residual-in_err-fetch.result c.from_residual-in_err-fetch.ensures.1 in
    refused_late code k t live f (receive_call s x) sound tt none why.NotHeld found.0 c.from_residual-in_err-fetch.result
    (p.1 ∙ ap Err p.2 ∙ found.1)
    (state f.memory c.fetch.new.hand f.carrier)
    (ap (λ h. state f.memory h f.carrier) ((c.fetch.ensures sound).hand_is ∙ whole.1 ∙ found.2))
