-- How a call ends: refused at the first tests, refused for want of the copy, or made. Assumes nothing.
use Rattle.std.proofs.Common.{◌≡◌, ℕ, Bool, true, false, cond, ◌&&◌, eqb, ltb, List, ◌∷◌, length, take, Some, None, Ok, Err, Option, Result, IsErrAnd, sym, refl, ap, ◌∙◌, arith}
use Rattle.std.proofs.lemmas.List.{length-take-le}
use Rattle.std.proofs.lemmas.Bool.{and_from, and_parts, eq-eqb, eqb-true, lt-ltb}
use Rattle.table.specs.Tables.{Table}
use Rattle.std.proofs.lemmas.Result.{err_from_is_err_and}
use Rattle.table.specs.Wire.{fault, refuse}
use Rattle.table.specs.declared.fault.Fault.{Fault}
use Rattle.table.specs.declared.fault.Reason.{Reason}
use Rattle.table.specs.declared.fault.Reason.TheVariants as why
use Rattle.step.specs.Nodes.{WordKind}
use Rattle.step.specs.Refusing.{refused_by}
use Rattle.step.specs.Records.{block_length, hand_length, records_length}
use Rattle.step.specs.Steps.{answer_of, max_count, own_count, send}
use Rattle.carriers.specs.Figures.{figures_of}
use Rattle.carriers.specs.Meanings.{Meaning, copy_under, fetch_answer, fetch_hand, found_answer, found_hand, no_space, put_after, put_answer, sendable, whole_hand, with_copy}
use Rattle.history.specs.Calls as history
use Rattle.history.specs.Calls.{Fleet, after_call, call_refusal, fleet_of, held_or, or_hand, receive_call, retire_call, send_call, set_call}
use Rattle.history.proofs.BlockSteps.{makes_send, step_fits}
use Rattle.history.proofs.Memory.{put_own}
use Rattle.fleet.specs.Blocks.{Inside, block_in, copy_in, stepped_in, stuck_by}
use Rattle.fleet.specs.FleetCalls.{Called, early, fleet_refusal, or_else, reply_of, unready_by}
use Rattle.fleet.specs.Shapes.{carries, shaped, sized, state}
use Rattle.fleet.specs.declared.call.Reply.{Reply}
use Rattle.fleet.proofs.Middle.{fitting}
use Rattle.fleet.proofs.Refused.{no_reason, reason_of}

-- Reasons one after another

or_none : (o : Option Reason) → or_else o None ≡ o
or_none None = refl
or_none (Some w) = refl

or_assoc : (a b c : Option Reason) → or_else a (or_else b c) ≡ or_else (or_else a b) c
or_assoc None b c = refl
or_assoc (Some w) b c = refl

-- no reason among two
pub neither : (a b : Option Reason) → None ≡ or_else a b → (a ≡ None) × (b ≡ None)
neither None b is = (refl, sym is)
neither (Some w) b is = let z : ◌≡◌ {A = ℕ} 0 1 = cc is in absurd (omega arith)

event_or : (there stuck : Bool) (more : Option Reason) → cond there (cond stuck (Some why.Count) more) (Some why.Switch) ≡ or_else (cond there (cond stuck (Some why.Count) None) (Some why.Switch)) more
event_or true true more = refl
event_or true false more = refl
event_or false stuck more = refl

module _ (code : ℕ) (k : WordKind) (t : Table) (live : Bool) (f : Fleet) where
  -- whether the copy is held is tested last
  abbrev pub late : history.Call → Option Reason
  late (set_call s g w) = None
  late (send_call s) = None
  late (receive_call s x) = held_or k t (copy_under x f.carrier.held)
  late (retire_call x) = held_or k t (copy_under x f.carrier.held)

  abbrev pub first : history.Call → Option Reason
  first c = or_else (unready_by live code t f) (early t f.memory (figures_of f.carrier) c)

  abbrev stops : ℕ → Bool
  stops s = eqb (own_count (length t.nodes) s (block_in t f.memory s)) max_count

  parts : (c : history.Call) → call_refusal k t f c ≡ or_else (early t f.memory (figures_of f.carrier) c) (late c)
  parts (set_call s g w) = sym (or_none _)
  parts (send_call s) = event_or (ltb s t.switches) (stops s) (cond (no_space f.carrier) (Some why.Full) None) ∙ sym (or_none _)
  parts (receive_call s x) = event_or (ltb s t.switches) (stops s) (held_or k t (copy_under x f.carrier.held))
  parts (retire_call x) = refl

  module _ (c : history.Call) {kept : Type 0} (sound : kept) where
    whole : fleet_refusal live code k t f c ≡ or_else (first c) (late c)
    whole = ap (or_else (unready_by live code t f)) (parts c) ∙ or_assoc (unready_by live code t f) _ (late c)

    ends : (o : Option Reason) → fleet_refusal live code k t f c ≡ o → (r : Result Reply Fault) (after : Fleet) → r ≡ answer_of o (reply_of (history.reply k t f c)) → after ≡ fleet_of k t o f (after_call k t f c) → Called code k t live f live after c r kept
    ends o is r after answer left = record {
      answer = answer ∙ sym (ap (λ z. answer_of z (reply_of (history.reply k t f c))) is);
      fleet = left ∙ sym (ap (λ z. fleet_of k t z f (after_call k t f c)) is);
      stays = refl;
      sound = sound;
    }

    pub refused_first : (w : Reason) → Err w ≡ refused_by (first c) → (r : Result Reply Fault) → IsErrAnd r (λ e. e ≡ fault w 0) → Called code k t live f live f c r kept
    refused_first w is r h =
        let p = err_from_is_err_and r h in
        ends (Some w) (whole ∙ ap (λ z. or_else z (late c)) (sym (reason_of (first c) w is))) r f (p.1 ∙ ap Err p.2) refl

    pub refused_late : (u : Unit {0}) → Ok u ≡ refused_by (first c) → (w : Reason) → late c ≡ Some w → (r : Result Reply Fault) → r ≡ refuse w 0 → (after : Fleet) → after ≡ f → Called code k t live f live after c r kept
    refused_late u none w is r answer after same = ends (Some w) (whole ∙ ap (λ z. or_else z (late c)) (sym (no_reason (first c) u none)) ∙ is) r after answer same

    pub made : (u : Unit {0}) → Ok u ≡ refused_by (first c) → late c ≡ None → (r : Result Reply Fault) → r ≡ Ok (reply_of (history.reply k t f c)) → (after : Fleet) → after ≡ after_call k t f c → Called code k t live f live after c r kept
    made u none is r answer after done = ends None (whole ∙ ap (λ z. or_else z (late c)) (sym (no_reason (first c) u none)) ∙ is) r after answer done

-- What the first tests say

ready_shaped : (live shape : Bool) → cond live (cond shape None (Some why.Shape)) (Some why.Shut) ≡ None → shape ≡ true
ready_shaped true true is = refl
ready_shaped true false is = let z : ◌≡◌ {A = ℕ} 0 1 = cc is in absurd (omega arith)
ready_shaped false shape is = let z : ◌≡◌ {A = ℕ} 0 1 = cc is in absurd (omega arith)

not_full : (full : Bool) → cond full (Some why.Full) None ≡ None → full ≡ false
not_full true is = let z : ◌≡◌ {A = ℕ} 0 1 = cc is in absurd (omega arith)
not_full false is = refl

module _ (code : ℕ) (k : WordKind) (t : Table) (live : Bool) (f : Fleet) (c : history.Call) (u : Unit {0}) (admitted : Ok u ≡ refused_by (first code k t live f c)) where
  none : None ≡ first code k t live f c
  none = no_reason (first code k t live f c) u admitted

  -- the carrier is for the table
  carrier_same : (f.carrier.switches ≡ t.switches) × (f.carrier.nodes ≡ length t.nodes)
  carrier_same =
      let g = figures_of f.carrier in
      let shape = ready_shaped live (shaped code t f) (neither (unready_by live code t f) _ none).0 in
      let rest = (and_parts (eqb t.code code) (sized t (length f.memory) (length f.hand) && carries t g) shape).1 in
      let same = (and_parts (sized t (length f.memory) (length f.hand)) (carries t g) rest).1 in
      let counts = (and_parts (eqb f.carrier.code t.code) (eqb f.carrier.switches t.switches && eqb f.carrier.nodes (length t.nodes)) same).1 in
      let both = and_parts (eqb f.carrier.switches t.switches) (eqb f.carrier.nodes (length t.nodes)) counts in
      (eqb-true _ _ both.0, eqb-true _ _ both.1)

  -- so it takes a hand of the table's length
  pub hand_whole : (hand : List ℕ) → length hand ≡ hand_length t.switches (length t.nodes) → whole_hand f.carrier hand ≡ true
  hand_whole hand long = eq-eqb (length hand) _ (long ∙ (λ i. hand_length (sym carrier_same.0 i) (sym carrier_same.1 i)))

  pub fetch_is : (x : ℕ) (hand : List ℕ) → length hand ≡ hand_length t.switches (length t.nodes)
      → (fetch_answer f.carrier x hand ≡ found_answer (copy_under x f.carrier.held)) × (fetch_hand f.carrier x hand ≡ found_hand (copy_under x f.carrier.held) hand)
  fetch_is x hand long =
      let fits = hand_whole hand long in
      (ap (λ b. cond b (found_answer (copy_under x f.carrier.held)) (refuse why.Shape 0)) fits, ap (λ b. cond b (found_hand (copy_under x f.carrier.held) hand) hand) fits)

-- A copy that is not held

module _ (k : WordKind) (t : Table) where
  pub found_refused : (o : Option (List ℕ)) (hand : List ℕ) (e : Fault) → Err e ≡ found_answer o → (held_or k t o ≡ Some why.NotHeld) × (◌≡◌ {A = Result Reply Fault} (Err e) (refuse why.NotHeld 0)) × (found_hand o hand ≡ hand)
  found_refused None hand e is = (refl, (cc is), refl)
  found_refused (Some copy) hand e is = let z : ◌≡◌ {A = ℕ} 0 1 = cc is in absurd (omega arith)

-- A send's copy is put

module _ (code : ℕ) (k : WordKind) (t : Table) (live : Bool) (f : Fleet) (s : ℕ) (u : Unit {0}) (admitted : Ok u ≡ refused_by (first code k t live f (send_call s))) where
  has_space : no_space f.carrier ≡ false
  has_space = not_full _ (neither (stuck_by t f.memory s) _ (sym (neither (unready_by live code t f) _ (no_reason (first code k t live f (send_call s)) u admitted)).1)).1

  module _ (memory : List ℕ) (inside : Inside t s memory) where
    copy_long : length (copy_in t memory s) ≡ hand_length t.switches (length t.nodes)
    copy_long = omega (arith, length-take-le (records_length t.switches (length t.nodes)) (block_in t memory s) (omega (arith, (fitting t s memory inside).shape)))

    can_send : sendable f.carrier (copy_in t memory s) ≡ true
    can_send = and_from _ _
        (hand_whole code k t live f (send_call s) u admitted (copy_in t memory s) copy_long)
        (lt-ltb s f.carrier.switches (omega (arith, inside.there, (carrier_same code k t live f (send_call s) u admitted).0)))

    pub put_is : (hand : List ℕ) → hand ≡ copy_in t memory s → (put_answer f.carrier hand ≡ Ok f.carrier.next) × (put_after f.carrier hand ≡ with_copy f.carrier (copy_in t memory s))
    put_is hand same = (
      ap (put_answer f.carrier) same
          ∙ ap (λ b. cond b (cond (no_space f.carrier) (refuse why.Full 0) (Ok f.carrier.next)) (refuse why.Shape 0)) can_send
          ∙ ap (λ b. cond b (refuse why.Full 0) (Ok f.carrier.next)) has_space,
      ap (put_after f.carrier) same
          ∙ ap (λ b. cond b (cond (no_space f.carrier) f.carrier (with_copy f.carrier (copy_in t memory s))) f.carrier) can_send
          ∙ ap (λ b. cond b f.carrier (with_copy f.carrier (copy_in t memory s))) has_space,
    )

  module _ (inside : Inside t s f.memory) where
    new_long : length (history.stepped k t f s send) ≡ block_length t.switches (length t.nodes)
    new_long = (step_fits k t s (block_in t f.memory s) (fitting t s f.memory inside) send (makes_send t)).shape

    -- the copy is made after the step
    copy_is : (memory : List ℕ) → memory ≡ stepped_in t k f.memory s send → copy_in t memory s ≡ history.copy_of k t s (history.stepped k t f s send)
    copy_is memory is =
        ap (λ z. copy_in t z s) is
        ∙ ap (λ b. s ∷ take (records_length t.switches (length t.nodes)) b) (put_own k t f.memory (omega (arith, inside.room)) s inside.there (history.stepped k t f s send) new_long)

    pub sent : (memory hand : List ℕ) (m : Meaning) → Inside t s memory → memory ≡ stepped_in t k f.memory s send → hand ≡ copy_in t memory s → m ≡ put_after f.carrier hand → state memory hand m ≡ after_call k t f (send_call s)
    sent memory hand m inside' stepped copied put =
        let copy = copy_is memory stepped in
        (λ i. state (stepped i) ((copied ∙ copy) i) ((put ∙ (put_is memory inside' hand copied).1 ∙ ap (with_copy f.carrier) copy) i))
