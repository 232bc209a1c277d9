use Rattle.std.proofs.Common.{◌≡◌, ◌++◌, take, drop, length, replicate, Ok, sym, refl, ap, ◌∙◌, subst}
use Rattle.std.proofs.lemmas.List.{take_at}
use Rattle.std.proofs.lemmas.Result.{err_from_is_err_and}
use Rattle.table.specs.Views.{view}
use Rattle.step.specs.Nodes.{on_words}
use Rattle.fleet.specs.Shapes.{state}
use Rattle.listing.specs.Rehearsals.{RunLaw, looks_from, unknown}
use Rattle.listing.proofs.Rehearsing.{answers_given, known_given, law_given, run_refused}
use Rattle.listing.proofs.rehearsal.Workspace.run.Goals as goal

pub returns-in_err-ran-clause-replies : goal.returns-in_err-ran-clause-replies
returns-in_err-ran-clause-replies g c = λ sound.
    let meaning = g.C.Carrier.meaning c.args.carrier in
    let p = err_from_is_err_and c.from_residual-in_err-ran.result c.from_residual-in_err-ran.ensures.1 in
    rw (p.1, p.2)
    (run_refused g.K.Reading.CODE (on_words g.K.Reading.kind) (view c.args.self.now.table.now)
    (state c.args.self.now.memory.items c.args.self.now.hand.items meaning) _ _ _ (c.open-fleet.ensures.fleet sound) c.args.calls.now _ _ _ _ _ _ _ _ _
    (λ i. state (c.deref_mut.ensures.value i) (c.deref.ensures.value i) meaning)
    (c.deref_mut-2.ensures.value ∙ take_at c.open-fleet.new.memory _ _ (c.open-fleet.auto.memory ∙ c.deref_mut.ensures.len))
    c.deref_mut-3.ensures.value
    (ap g.C.Carrier.meaning c.open-fleet.ensures.carrier)
    (c.open-fleet.auto.memory ∙ ap length c.deref_mut.ensures.value)
    (c.deref_mut-4.ensures.len ∙ c.in_ok-replies.ensures.len)
    (c.run-ran.ensures.ran (subst g.C.Carrier.sound (sym c.open-fleet.ensures.carrier) sound))
    _ c.in_err-ran.was)

pub returns : goal.returns
returns g c =
    let code = g.K.Reading.CODE in
    let k = on_words g.K.Reading.kind in
    let t = view c.args.self.now.table.now in
    let meaning = g.C.Carrier.meaning c.args.carrier in
    let f = state c.args.self.now.memory.items c.args.self.now.hand.items meaning in
    let begins : state c.deref_mut.result.now c.deref.result.now meaning ≡ f = λ i. state (c.deref_mut.ensures.value i) (c.deref.ensures.value i) meaning in
    let same_memory : c.deref_mut-2.result.now ≡ c.open-fleet.new.memory = c.deref_mut-2.ensures.value ∙ take_at c.open-fleet.new.memory _ _ (c.open-fleet.auto.memory ∙ c.deref_mut.ensures.len) in
    let same_carrier = ap g.C.Carrier.meaning c.open-fleet.ensures.carrier in
    let long = c.open-fleet.auto.memory ∙ ap length c.deref_mut.ensures.value in
    let many = c.deref_mut-4.ensures.len ∙ c.in_ok-replies.ensures.len in
    let ran = λ (sound : g.C.Carrier.sound c.args.carrier). c.run-ran.ensures.ran (subst g.C.Carrier.sound (sym c.open-fleet.ensures.carrier) sound) in
    let filled = c.run-ran.new.replies in
    let whole = take_at filled (drop (length filled) c.in_ok-replies.replies.items) c.in_ok-replies.replies.len (c.run-ran.auto.replies ∙ c.deref_mut-4.ensures.len) in
    let memory_kept = take_at c.run-ran.new.memory (drop (length c.run-ran.new.memory) (take c.args.self.now.memory.len (c.open-fleet.new.memory ++ drop (length c.open-fleet.new.memory) c.args.self.now.memory.items))) c.args.self.now.memory.len (c.run-ran.auto.memory ∙ c.deref_mut-2.ensures.len) in
    let hand_kept = take_at c.run-ran.new.hand (drop (length c.run-ran.new.hand) c.args.self.now.hand.items) c.args.self.now.hand.len (c.run-ran.auto.hand ∙ c.deref_mut-3.ensures.len) in
    record {
      replies = λ sound.
          answers_given code k t f _ _ _ (c.open-fleet.ensures.fleet sound) c.args.calls.now _ _ _ _ _ _ _ _ _ begins same_memory c.deref_mut-3.ensures.value same_carrier long many (ran sound) c.in_ok-ran.was
          ∙ ap Ok (sym whole);
      known = λ sound.
          known_given code k t f _ _ _ (c.open-fleet.ensures.fleet sound) c.args.calls.now _ _ _ _ _ _ _ _ _ begins same_memory c.deref_mut-3.ensures.value same_carrier long many (ran sound)
          c.args.knows (replicate c.entries.result unknown) _ (ap (λ n. replicate n unknown) c.entries.ensures) c.in_ok-ran.was
          (c.in_ok-known.ensures (ran sound).sound ∙ ap (λ x. looks_from c.run-ran.new.self.live code t x 0 (replicate c.entries.result unknown)) (λ i. state (memory_kept i) (hand_kept i) (g.C.Carrier.meaning c.run-ran.new.self.carrier)));
      law = λ sound.
          subst (RunLaw g.K.Reading.kind t f c.args.calls.now) (sym whole)
          (law_given code k t f _ _ _ (c.open-fleet.ensures.fleet sound) c.args.calls.now _ _ _ _ _ _ _ _ _ begins same_memory c.deref_mut-3.ensures.value same_carrier long many (ran sound) g.K.Reading.kind refl c.in_ok-ran.was (c.in_ok-ran.ensures.law (subst g.C.Carrier.sound (sym c.open-fleet.ensures.carrier) sound)));
    }
