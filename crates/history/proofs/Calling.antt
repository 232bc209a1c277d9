-- What an accepted call of a fleet does. Assumes nothing.
use Rattle.std.proofs.Common.{◌≡◌, ℕ, ◌<◌, Bool, true, false, cond, ◌≢◌, List, length, is_ok, Some, None, Ok, Option, refl, ap, ◌∙◌, subst, arith}
use Rattle.std.proofs.lemmas.Bool.{cond-true, cond-false, eqb-true, eqb-false, lt-ltb, ltb-true, ne_eqb, both_ways}
use Rattle.table.specs.Limits.{register_count}
use Rattle.table.specs.Tables.{Table}
use Rattle.table.specs.declared.fault.Reason.{Reason}
use Rattle.step.specs.Nodes.{WordKind}
use Rattle.step.specs.Steps.{Act, set_register, send, receive, answer_of, max_count, own_count}
use Rattle.carriers.specs.Meanings.{copy_under, no_space}
use Rattle.history.specs.Calls.{Call, set_call, send_call, receive_call, retire_call, Fleet, answer, after_call, block_at, call_refusal, called, event_refusal, event_reply, fleet_of, held_or, or_hand, put_block, reply, stepped}
use Rattle.history.specs.Runs.{is_at}

-- Refusals

pub ok_none : {A : Type 0} (o : Option Reason) (r : A) → is_ok (answer_of o r) ≡ true → o ≡ None
ok_none None r ok = refl
ok_none (Some why) r ok = absurd (both_ways false refl ok)

pub some_none : {A X : Type 0} (a : A) → ◌≡◌ {A = Option A} (Some a) None → X
some_none a e = let z : ◌≡◌ {A = ℕ} 0 1 = cc e in absurd (omega arith)

-- a test that refuses where it fails, and one that refuses where it holds
pub passes : (b : Bool) (o : Option Reason) (why : Reason) → cond b o (Some why) ≡ None → (b ≡ true) × (o ≡ None)
passes true o why e = (refl, e)
passes false o why e = some_none why e

pub clears : (b : Bool) (o : Option Reason) (why : Reason) → cond b (Some why) o ≡ None → (b ≡ false) × (o ≡ None)
clears true o why e = some_none why e
clears false o why e = (refl, e)

module _ (k : WordKind) (t : Table) where
  held_some : (o : Option (List ℕ)) → held_or k t o ≡ None → (copy : List ℕ) × (o ≡ Some copy)
  held_some None e = some_none _ e
  held_some (Some copy) e = (copy, refl)

module _ (k : WordKind) (t : Table) (f : Fleet) where
  pub called_ok : (c : Call) → call_refusal k t f c ≡ None → called k t f c ≡ after_call k t f c
  called_ok c none = ap (λ o. fleet_of k t o f (after_call k t f c)) none

  pub answer_ok : (c : Call) → call_refusal k t f c ≡ None → answer k t f c ≡ Ok (reply k t f c)
  answer_ok c none = ap (λ o. answer_of o (reply k t f c)) none

  refused : {A : Type 0} (o : Option Reason) (r : A) (g : Fleet) → is_ok (answer_of o r) ≡ false → fleet_of k t o f g ≡ f
  refused None r g bad = absurd (both_ways true bad refl)
  refused (Some why) r g bad = refl

  -- a refused call leaves the fleet
  pub called_refused : (c : Call) → is_ok (answer k t f c) ≡ false → called k t f c ≡ f
  called_refused c bad = refused (call_refusal k t f c) (reply k t f c) (after_call k t f c) bad

  -- what the switch s does in an accepted call
  pub data Does (c : Call) (s : ℕ) (a : Act) : Type 0 where
    sets : (g w : ℕ) → c ≡ set_call s g w → a ≡ set_register g w → g < register_count → Does c s a
    sends : c ≡ send_call s → a ≡ send → no_space f.carrier ≡ false → Does c s a
    receives : (x : ℕ) (copy : List ℕ) → c ≡ receive_call s x → a ≡ receive copy → copy_under x f.carrier.held ≡ Some copy → Does c s a

  -- an event at s
  pub record Done (c : Call) (s : ℕ) (a : Act) (x : Option ℕ) : Type 0 where
    pub below : s < t.switches
    pub room : own_count (length t.nodes) s (block_at k t f.memory s) ≢ max_count
    pub does : Does c s a
    pub memory : (called k t f c).memory ≡ put_block k t f.memory s (stepped k t f s a)
    pub answered : answer k t f c ≡ Ok (event_reply k t f s a x)

  pub event_room : (s : ℕ) (more : Option Reason) → event_refusal k t f s more ≡ None → (s < t.switches) × (own_count (length t.nodes) s (block_at k t f.memory s) ≢ max_count) × (more ≡ None)
  event_room s more none =
      let there = passes _ _ _ none in
      let count = clears _ _ _ there.1 in
      (ltb-true _ _ there.0, eqb-false _ _ count.0, count.1)

  pub event_free : (s : ℕ) (more : Option Reason) → s < t.switches → own_count (length t.nodes) s (block_at k t f.memory s) ≢ max_count → more ≡ None → event_refusal k t f s more ≡ None
  event_free s more below room none = cond-true _ _ _ (lt-ltb _ _ below) ∙ cond-false _ _ _ (ne_eqb _ _ room) ∙ none

  pub done_set : (s g w : ℕ) → call_refusal k t f (set_call s g w) ≡ None → Done (set_call s g w) s (set_register g w) None
  done_set s g w none =
      let there = passes _ _ _ none in
      let register = passes _ _ _ there.1 in
      let room = event_room s None register.1 in
      record {
        below = room.0;
        room = room.1;
        does = sets g w refl refl (ltb-true _ _ register.0);
        memory = ap (λ z. z.memory) (called_ok (set_call s g w) none);
        answered = answer_ok (set_call s g w) none;
      }

  pub done_send : (s : ℕ) → call_refusal k t f (send_call s) ≡ None → Done (send_call s) s send (Some f.carrier.next)
  done_send s none =
      let room = event_room s _ none in
      let space = clears _ _ _ room.2 in
      record {
        below = room.0;
        room = room.1;
        does = sends refl refl space.0;
        memory = ap (λ z. z.memory) (called_ok (send_call s) none);
        answered = answer_ok (send_call s) none;
      }

  pub done_receive : (s x : ℕ) (copy : List ℕ) → copy_under x f.carrier.held ≡ Some copy → call_refusal k t f (receive_call s x) ≡ None → Done (receive_call s x) s (receive copy) None
  done_receive s x copy found none =
      let room = event_room s _ none in
      let is : or_hand k t (copy_under x f.carrier.held) f.hand ≡ copy = ap (λ o. or_hand k t o f.hand) found in
      record {
        below = room.0;
        room = room.1;
        does = receives x copy refl refl found;
        memory = ap (λ z. z.memory) (called_ok (receive_call s x) none) ∙ ap (λ h. put_block k t f.memory s (stepped k t f s (receive h))) is;
        answered = answer_ok (receive_call s x) none ∙ ap (λ h. Ok (event_reply k t f s (receive h) None)) is;
      }

  abbrev pub Doing : Call → ℕ → Type 0
  Doing c s = (a : Act) × (x : Option ℕ) × Done c s a x

  -- an accepted set, send or receive is an event of its switch
  pub done : (c : Call) (s : ℕ) → is_ok (answer k t f c) ≡ true → is_at c s ≡ true → Doing c s
  done (set_call s g w) j ok at =
      let d : Doing (set_call s g w) s = (_, _, done_set s g w (ok_none _ _ ok)) in
      subst (λ z. Doing (set_call s g w) z) (eqb-true s j at) d
  done (send_call s) j ok at =
      let d : Doing (send_call s) s = (_, _, done_send s (ok_none _ _ ok)) in
      subst (λ z. Doing (send_call s) z) (eqb-true s j at) d
  done (receive_call s x) j ok at =
      let none = ok_none _ _ ok in
      let found = held_some k t (copy_under x f.carrier.held) (event_room s _ none).2 in
      let d : Doing (receive_call s x) s = (_, _, done_receive s x found.0 found.1 none) in
      subst (λ z. Doing (receive_call s x) z) (eqb-true s j at) d
  done (retire_call x) j ok at = absurd (both_ways false refl at)
