use Rattle.std.proofs.Common.{sym, ap}
use Rattle.table.specs.Views.{view}
use Rattle.readings.specs.Kinds.{Lawful}
use Rattle.step.specs.Nodes.{on_words}
use Rattle.history.proofs.TheLaw.{law_holds}
use Rattle.fleet.specs.FleetRuns.{listed, said_by}
use Rattle.fleet.specs.Shapes.{state}
use Rattle.fleet.proofs.Refused.{no_reason}
use Rattle.fleet.proofs.Running.{finishes, fleet_after_all, goes, said_after_all, starts, uneven, unmade, words_all, words_more}
use Rattle.fleet.proofs.fleet.Fleet.run.Goals as goal

pub returns-in_err-ready-clause-ran : goal.returns-in_err-ready-clause-ran
returns-in_err-ready-clause-ran g c = λ sound.
    let f = state c.args.memory.now c.args.hand.now (g.C.Carrier.meaning c.args.self.now.carrier) in
    unmade g.K.Reading.CODE (on_words g.K.Reading.kind) (view c.args.table.now) c.args.self.now.live f c.args.calls.now c.args.replies.now sound
    c.in_err-ready.field-0.0 (c.in_err-ready.ensures.value sound) c.from_residual.result c.from_residual.ensures.1

pub returns-then-replies-calls : goal.returns-then-replies-calls
returns-then-replies-calls g c = record {
  law = tt;
  ran = λ sound.
      let k = on_words g.K.Reading.kind in
      let t = view c.args.table.now in
      let f = state c.args.memory.now c.args.hand.now (g.C.Carrier.meaning c.args.self.now.carrier) in
      let live = c.args.self.now.live in
      let code = g.K.Reading.CODE in
      let calls = c.args.calls.now in
      let old = c.args.replies.now in
      let ready = sym (no_reason _ tt (c.in_ok-ready.ensures.value sound)) in
      uneven code k t live f calls old ready sound c.if-replies-calls.true c.at.result c.at.ensures;
}

pub loop-i-init : goal.loop-i-init
loop-i-init g c = (
  tt,
  λ sound.
      let k = on_words g.K.Reading.kind in
      let t = view c.args.table.now in
      let f = state c.args.memory.now c.args.hand.now (g.C.Carrier.meaning c.args.self.now.carrier) in
      let live = c.args.self.now.live in
      let code = g.K.Reading.CODE in
      let calls = c.args.calls.now in
      let old = c.args.replies.now in
      let ready = sym (no_reason _ tt (c.in_ok-ready.ensures.value sound)) in
      starts code k t live f calls old sound ready,
)

pub loop-i-preserved : goal.loop-i-preserved
loop-i-preserved g c = (
  words_more c.args.calls.now c.loop-i.i _ c.loop-i-test.true c.loop-i.invariant.0 c.call.ensures.word,
  λ sound.
      let k = on_words g.K.Reading.kind in
      let t = view c.args.table.now in
      let f = state c.args.memory.now c.args.hand.now (g.C.Carrier.meaning c.args.self.now.carrier) in
      let live = c.args.self.now.live in
      let code = g.K.Reading.CODE in
      let calls = c.args.calls.now in
      let old = c.args.replies.now in
      let ready = sym (no_reason _ tt (c.in_ok-ready.ensures.value sound)) in
      let so = c.loop-i.invariant.1 sound in
      goes code k t live f calls old _ _ c.loop-i.i c.loop-i.replies so _ c.loop-i-test.true c.if-replies-calls.false _ _ c.call.result (c.call.ensures.made so.sound) c.call.auto.memory c.call.auto.hand,
)

pub returns : goal.returns
returns g c = record {
  law = λ sound new.
      let words = words_all c.args.calls.now c.loop-i.i c.loop-i-test.false c.loop-i.invariant.0 in
      let lawful : Lawful g.K.Reading.kind g.K.Reading.held = record { back = g.met.K.Reading.back; fits = g.met.K.Reading.fits; reads = g.met.K.Reading.reads; joins = g.met.K.Reading.joins; cuts = g.met.K.Reading.cuts } in
      let f = state c.args.memory.now c.args.hand.now (g.C.Carrier.meaning c.args.self.now.carrier) in
      let so = c.loop-i.invariant.1 sound in
      let k = on_words g.K.Reading.kind in
      let t = view c.args.table.now in
      let live = c.args.self.now.live in
      let calls = c.args.calls.now in
      let old = c.args.replies.now in
      law_holds g.K.Reading.kind g.K.Reading.held lawful t c.args.table.now.fit f new (listed calls) words
      (said_by c.loop-i.replies) (said_after_all g.K.Reading.CODE k t live f calls old _ _ c.loop-i.i c.loop-i.replies so c.loop-i-test.false c.if-replies-calls.false)
      _ (ap (λ z. z.memory) (fleet_after_all g.K.Reading.CODE k t live f calls old _ _ c.loop-i.i c.loop-i.replies so c.loop-i-test.false c.if-replies-calls.false));
  ran = λ sound.
      let k = on_words g.K.Reading.kind in
      let t = view c.args.table.now in
      let f = state c.args.memory.now c.args.hand.now (g.C.Carrier.meaning c.args.self.now.carrier) in
      let live = c.args.self.now.live in
      let code = g.K.Reading.CODE in
      let calls = c.args.calls.now in
      let old = c.args.replies.now in
      let ready = sym (no_reason _ tt (c.in_ok-ready.ensures.value sound)) in
      finishes code k t live f calls old ready _ _ c.loop-i.i c.loop-i.replies (c.loop-i.invariant.1 sound) c.loop-i-test.false c.if-replies-calls.false;
}
