use Rattle.std.proofs.Common.{◌≡◌, ◌*◌, length, ap, ◌∙◌, subst, refl}
use Rattle.std.proofs.lemmas.Result.{IfOk-weaker}
use Rattle.table.specs.Views.{view}
use Rattle.step.specs.Nodes.{on_words}
use Rattle.carriers.specs.FramePlaces.{frame_capacity, frame_copy, frame_flag}
use Rattle.carriers.specs.Pools.{meaning_of, opened}
use Rattle.fleet.specs.Shapes.{state}
use Rattle.listing.specs.Rehearsals.{RunLaw, StartsAs, known_after_run, pool_copies, run_answers}
use Rattle.listing.specs.Stops.{Gives}
use Rattle.listing.proofs.Rehearsing.{answers_are, known_is, law_is}
use Rattle.listing.proofs.rehearsal.rehearse.Goals as goal

pub returns : goal.returns
returns g c =
    let code = g.K.Reading.CODE in
    let k = on_words g.K.Reading.kind in
    let t = view c.args.table.now in
    let good = c.args.table.now.fit in
    let memory = c.in_ok-new.field-0.memory.items in
    let hand = c.in_ok-new.field-0.hand.items in
    let same : view c.in_ok-new.field-0.table.now ≡ t = ap view c.in_ok-new.ensures.table in
    let starts : StartsAs t memory hand = c.in_ok-new.ensures.starts in
    let space = c.deref_mut.ensures.len ∙ c.in_ok-frames.ensures.len ∙ ap (λ n. pool_copies * n) c.frame_length.ensures.value in
    let nodes = ap length c.nodes.ensures.value in
    let empty = c.open-pool.ensures.meaning ∙ (λ i. opened (c.code.ensures i) (c.switches-switches.ensures.value i) (nodes i) (frame_capacity (c.switches-switches.ensures.value i) (nodes i) (length c.deref_mut.result.now))) in
    let f = state memory hand (meaning_of c.open-pool.result.shape c.open-pool.result.next (frame_flag c.open-pool.result.shape c.open-pool.result.memory.now) (frame_copy c.open-pool.result.shape c.open-pool.result.memory.now)) in
    let calls = c.args.calls.now in
    record {
      replies = subst (Gives (λ v. v.replies.items) c.run.result)
          ((λ i. run_answers code k (same i) f calls) ∙ answers_are code k t good calls memory hand _ _ starts space empty) (c.run.ensures.replies tt);
      known = IfOk-weaker c.run.result _ _ (λ v e.
          e ∙ (λ i. known_after_run code k (same i) f calls c.args.knows) ∙ known_is code k t good calls memory hand _ _ starts space empty c.args.knows) (c.run.ensures.known tt);
      law = IfOk-weaker c.run.result _ _ (λ v l.
          law_is code k t good calls memory hand _ _ starts space empty g.K.Reading.kind v.replies.items refl (subst (λ x. RunLaw g.K.Reading.kind x f calls v.replies.items) same l)) (c.run.ensures.law tt);
    }
