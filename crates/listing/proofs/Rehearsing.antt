-- A run on a fleet that is opened for it. Assumes nothing.
use Rattle.std.proofs.Common.{◌≡◌, ℕ, ◌+◌, ◌*◌, ◌/◌, Bool, true, false, cond, ◌&&◌, eqb, List, length, replicate, Some, None, Ok, Err, Option, Result, sym, refl, ap, ◌∙◌, subst, inl, inr, arith}
use lib.ListN.{length-replicate}
use Rattle.std.proofs.lemmas.Nat.{div-mul-add}
use Rattle.std.proofs.lemmas.List.{length-map}
use Rattle.std.proofs.lemmas.Bool.{and_from, and_parts, cases_Bool, cond-false, cond-true, eq-eqb}
use Rattle.table.proofs.Soundness.{sound_parts}
use Rattle.table.specs.Tables.{Table, sound}
use Rattle.table.specs.Wire.{refuse}
use Rattle.table.specs.declared.fault.Fault.{Fault}
use Rattle.table.specs.declared.fault.Reason.{Reason}
use Rattle.table.specs.declared.fault.Reason.TheVariants as why
use Rattle.readings.specs.Kinds.{Kind}
use Rattle.step.specs.Nodes.{on_words, WordKind}
use Rattle.step.specs.Records.{hand_length}
use Rattle.step.specs.Steps.{answer_of}
use Rattle.carriers.specs.Figures.{figures_of}
use Rattle.carriers.specs.FramePlaces.{frame_capacity, frame_place}
use Rattle.carriers.specs.Meanings.{Meaning}
use Rattle.carriers.specs.Pools.{opened}
use Rattle.history.specs.Calls.{Fleet, first_memory, fleet_of, ran}
use Rattle.history.specs.AnsweredLaw.{AnsweredLaw}
use Rattle.history.specs.Orders.{New}
use Rattle.fleet.specs.FleetCalls.{call_of}
use Rattle.fleet.specs.FleetRuns.{Ran, answers, listed, replies_of, run_refusal, said_by}
use Rattle.fleet.specs.Shapes.{Opened, fits, shaped, shaped_by, state, unused}
use Rattle.fleet.specs.declared.call.Call.{Call}
use Rattle.fleet.specs.declared.call.Known.{Known}
use Rattle.fleet.specs.declared.call.Reply.{Reply}
use Rattle.listing.specs.Rehearsals.{RehearsalLaw, RunLaw, StartsAs, entry_count, known_after, known_after_run, looks_from, new_fleet, pool_copies, rehearsal, run_answers, started, unknown}

ok_err : {A : Type 0} (x : A) (e : Fault) → ◌≡◌ {A = Result A Fault} (Ok x) (Err e) → ⊥
ok_err x e h = let z : ◌≡◌ {A = ℕ} 0 1 = cc in omega arith

same_err : {A B : Type 0} (d e : Fault) → ◌≡◌ {A = Result A Fault} (Err d) (Err e) → ◌≡◌ {A = Result B Fault} (Err d) (Err e)
same_err d e h = let same : d ≡ e = cc in ap Err same

module _ (code : ℕ) (k : WordKind) (t : Table) (f before : Fleet) (memory : List ℕ) (live : Bool) (opened_on : Opened code k t before memory live)
    (calls : List Call) (old new : List (Result Reply Fault)) (now hand : List ℕ) (carrier : Meaning) (live_after : Bool) (after : Fleet) (r : Result (Unit {0}) Fault) (kept : Type 0)
    (begins : before ≡ f) (same_memory : now ≡ memory) (same_hand : hand ≡ f.hand) (same_carrier : carrier ≡ f.carrier)
    (long : length memory ≡ length f.memory) (many : length old ≡ length calls)
    (run : Ran code k t live (state now hand carrier) live_after after (listed calls) old new r kept) where
  opening : Opened code k t f memory live
  opening = subst (λ x. Opened code k t x memory live) begins opened_on

  opened_as : state now hand carrier ≡ state memory f.hand f.carrier
  opened_as = λ i. state (same_memory i) (same_hand i) (same_carrier i)

  done : Ran code k t live (state memory f.hand f.carrier) live_after after (listed calls) old new r kept
  done = subst (λ x. Ran code k t live x live_after after (listed calls) old new r kept) opened_as run

  abbrev why_not : Option Reason
  why_not = run_refusal live code t (state memory f.hand f.carrier) (length (listed calls)) (length old)

  none : fits code t f ≡ true → why_not ≡ None
  none every =
      let is : live ≡ true = opening.is_live ∙ every in
      let shape : shaped_by code t (length memory) (length f.hand) (figures_of f.carrier) ≡ true = ap (λ n. shaped_by code t n (length f.hand) (figures_of f.carrier)) long ∙ (and_parts (shaped code t f) (unused (figures_of f.carrier)) every).0 in
      let even : eqb (length old) (length (listed calls)) ≡ true = eq-eqb _ _ (many ∙ sym (length-map calls call_of)) in
      rw (is, shape, even) refl

  shut : fits code t f ≡ false → why_not ≡ Some why.Shut
  shut not = let is : live ≡ false = opening.is_live ∙ not in rw is refl

  starts : fits code t f ≡ true → memory ≡ first_memory k t
  starts every = opening.memory_is ∙ cond-true _ _ _ every

  -- a run that is not refused began where everything fits
  fitted : r ≡ Ok tt → fits code t f ≡ true
  fitted ok = elim (cases_Bool (fits code t f)) [
    | inl is ↦ is
    | inr not ↦ absurd (ok_err _ _ (sym ok ∙ done.answer ∙ ap (λ o. answer_of o tt) (shut not)))
  ]

  pub answers_given : r ≡ Ok tt → run_answers code k t f calls ≡ Ok new
  answers_given ok =
      let every = fitted ok in
      let given : new ≡ answers k t (started k t f) (listed calls) = done.replies ∙ ap (λ o. replies_of o old (answers k t (state memory f.hand f.carrier) (listed calls))) (none every) ∙ ap (λ m. answers k t (state m f.hand f.carrier) (listed calls)) (starts every) in
      cond-true _ _ _ every ∙ ap Ok (sym given)

  pub run_refused : (e : Fault) → r ≡ Err e → run_answers code k t f calls ≡ Err e
  run_refused e refused = elim (cases_Bool (fits code t f)) [
    | inl is ↦ absurd (ok_err _ _ (sym (done.answer ∙ ap (λ o. answer_of o tt) (none is)) ∙ refused))
    | inr not ↦ cond-false _ _ _ not ∙ same_err _ e (sym (done.answer ∙ ap (λ o. answer_of o tt) (shut not)) ∙ refused)
  ]

  ends : r ≡ Ok tt → after ≡ ran k t (started k t f) (listed calls)
  ends ok =
      let every = fitted ok in
      done.fleet ∙ ap (λ o. fleet_of k t o (state memory f.hand f.carrier) (ran k t (state memory f.hand f.carrier) (listed calls))) (none every) ∙ ap (λ m. ran k t (state m f.hand f.carrier) (listed calls)) (starts every)

  pub known_given : (asked : Bool) (unlooked looked : List Known) → unlooked ≡ replicate (cond asked (entry_count t) 0) unknown → r ≡ Ok tt → looked ≡ looks_from live_after code t after 0 unlooked → looked ≡ known_after_run code k t f calls asked
  known_given asked unlooked looked many_are ok found =
      found ∙ ap (λ l. looks_from l code t after 0 unlooked) (done.stays ∙ opening.is_live ∙ fitted ok)
      ∙ (λ i. looks_from true code t (ends ok i) 0 (many_are i))

  -- the law of a run, from that of the calls on the opened fleet
  pub law_given : {R : Type 0} (kind : Kind R) → k ≡ on_words kind → r ≡ Ok tt
      → (New k t (state now hand carrier) → AnsweredLaw kind t (state now hand carrier) (listed calls) (said_by new) after.memory)
      → RunLaw kind t f calls new
  law_given kind words ok law =
      let every = fitted ok in
      let starting : state now hand carrier ≡ started k t f = opened_as ∙ ap (λ m. state m f.hand f.carrier) (starts every) in
      let is_new = subst (New k t) (sym opened_as) (opening.is_new (opening.is_live ∙ every)) in
      subst (λ w. AnsweredLaw kind t (started w t f) (listed calls) (said_by new) (ran w t (started w t f) (listed calls)).memory) words
      (subst (λ x. AnsweredLaw kind t x (listed calls) (said_by new) (ran k t (started k t f) (listed calls)).memory) starting
      (subst (AnsweredLaw kind t (state now hand carrier) (listed calls) (said_by new)) (ap (λ z. z.memory) (ends ok)) (law is_new)))

-- A rehearsal on memory of the table's lengths

and_last : (a b u : Bool) → b ≡ true → u ≡ true → ((a && b) && u) ≡ a
and_last true b u e f = and_from b u e f
and_last false b u e f = refl

module _ (code : ℕ) (k : WordKind) (t : Table) (good : sound t ≡ true) (calls : List Call) (memory hand : List ℕ) (carrier : Meaning) (size : ℕ)
    (start : StartsAs t memory hand)
    (space : size ≡ pool_copies * frame_place t.switches (length t.nodes))
    (empty : carrier ≡ opened t.code t.switches (length t.nodes) (frame_capacity t.switches (length t.nodes) size)) where
  abbrev before : Fleet
  before = state memory hand carrier

  holds_copies : frame_capacity t.switches (length t.nodes) size ≡ pool_copies
  holds_copies =
      let p = sound_parts t good in
      let place = frame_place t.switches (length t.nodes) in
      let whole : pool_copies * place + 0 ≡ size = omega arith in
      cond-true _ _ _ (and_from _ _ p.switches p.node_count)
      ∙ ap (λ x. x / place) (sym whole) ∙ div-mul-add pool_copies place 0 (omega arith)

  new_carrier : carrier ≡ opened t.code t.switches (length t.nodes) pool_copies
  new_carrier = empty ∙ ap (opened t.code t.switches (length t.nodes)) holds_copies

  fits_by_code : fits code t before ≡ eqb t.code code
  fits_by_code =
      let hand_long : length hand ≡ hand_length t.switches (length t.nodes) = ap length start.zero ∙ length-replicate (hand_length t.switches (length t.nodes)) 0 in
      ap (λ m. fits code t (state memory hand m)) new_carrier
      ∙ and_last (eqb t.code code) _ _
      (and_from _ _ (and_from _ _ (eq-eqb _ _ start.long) (eq-eqb _ _ hand_long)) (and_from _ _ (eq-eqb t.code t.code refl) (and_from _ _ (eq-eqb t.switches t.switches refl) (eq-eqb (length t.nodes) (length t.nodes) refl))))
      refl

  begun : started k t before ≡ new_fleet k t
  begun = λ i. state (first_memory k t) (start.zero i) (new_carrier i)

  pub answers_are : run_answers code k t before calls ≡ rehearsal code k t calls
  answers_are = λ i. cond (fits_by_code i) (Ok (answers k t (begun i) (listed calls))) (refuse why.Shut 0)

  pub known_is : (asked : Bool) → known_after_run code k t before calls asked ≡ known_after code k t calls asked
  known_is asked = ap (λ f. looks_from true code t (ran k t f (listed calls)) 0 (replicate (cond asked (entry_count t) 0) unknown)) begun

  pub law_is : {R : Type 0} (kind : Kind R) (replies : List (Result Reply Fault)) → k ≡ on_words kind → RunLaw kind t before calls replies → RehearsalLaw kind t calls replies
  law_is kind replies words law =
      subst (λ f. AnsweredLaw kind t f (listed calls) (said_by replies) (ran (on_words kind) t f (listed calls)).memory)
      (subst (λ w. started w t before ≡ new_fleet w t) words begun) law
