-- A list of calls, one after another. Assumes nothing.
use Rattle.std.proofs.Common.{◌≡◌, ℕ, zero, suc, ◌+◌, ◌<◌, ◌≤◌, Bool, cond, ◌&&◌, eqb, List, [], ◌∷◌, ◌++◌, length, get_or, take, drop, set, Some, None, Ok, Err, Option, Result, IsErrAnd, sym, refl, ap, ◌∙◌, arith}
use Rattle.std.proofs.ByRecursion.{All-push}
use Rattle.std.proofs.lemmas.List.{append_assoc, append-nil, drop_all, drop_more, length-map, length-take-le, map_more, set_at, take_all}
use Rattle.std.proofs.lemmas.Bool.{eq-eqb, ne_eqb}
use Rattle.std.specs.List.{AllByRecursion}
use Rattle.table.specs.Tables.{Table}
use Rattle.table.specs.Wire.{fault, refuse}
use Rattle.table.specs.declared.fault.Fault.{Fault}
use Rattle.table.specs.declared.fault.Reason.{Reason}
use Rattle.table.specs.declared.fault.Reason.TheVariants as why
use Rattle.step.specs.Nodes.{WordKind}
use Rattle.step.specs.Refusing.{refused_by}
use Rattle.step.specs.Steps.{answer_of}
use Rattle.carriers.specs.Figures.{figures_of}
use Rattle.history.specs.Calls as history
use Rattle.history.specs.Calls.{Fleet, after_call, answer, call_refusal, called, fleet_of, ran, receive_call, retire_call, send_call, set_call}
use Rattle.history.specs.Runs.{WordCall, answer_at, call_at, fleet_at}
use Rattle.history.proofs.Moments.{ran_push}
use Rattle.fleet.specs.FleetCalls.{Called, call_of, or_else, reply_of, unready_by}
use Rattle.fleet.specs.FleetRuns.{Ran, answers, listed, replies_of, result_of, run_refusal, said_by, told}
use Rattle.fleet.specs.Shapes.{carries, shaped, sized}
use Rattle.fleet.specs.declared.call.Call.{Call}
use Rattle.fleet.specs.declared.call.Reply.{Reply}
use Rattle.fleet.proofs.Refused.{handed_out, reason_of}

-- The calls of a list, and one more

module _ (k : WordKind) (t : Table) where
  answers_push : (f : Fleet) (cs : List history.Call) (c : history.Call) → answers k t f (cs ++ c ∷ []) ≡ answers k t f cs ++ result_of (answer k t (ran k t f cs) c) ∷ []
  unfolding ran answers
  answers_push f [] c = refl
  answers_push f (x ∷ xs) c = ap (λ rest. result_of (answer k t f x) ∷ rest) (answers_push (called k t f x) xs c)

  answers_long : (f : Fleet) (cs : List history.Call) → length (answers k t f cs) ≡ length cs
  unfolding answers
  answers_long f [] = refl
  answers_long f (x ∷ xs) = ap suc (answers_long (called k t f x) xs)

  -- the answer of each call, as the history has it
  pub answers_each : (f : Fleet) (cs : List history.Call) (i : ℕ) (d : Result Reply Fault) → i < length cs → get_or (answers k t f cs) i d ≡ result_of (answer_at k t f cs i)
  unfolding ran answers answer_at call_at fleet_at
  answers_each f [] i d lt = absurd (omega arith)
  answers_each f (x ∷ xs) zero d lt = refl
  answers_each f (x ∷ xs) (suc i) d lt = answers_each (called k t f x) xs i d (omega arith)

-- What a ready fleet does with one call

module _ (k : WordKind) (t : Table) (f : Fleet) (c : history.Call) where
  as_answered : (o : Option Reason) (r : history.Reply) → answer_of o (reply_of r) ≡ result_of (answer_of o r)
  as_answered None r = refl
  as_answered (Some w) r = refl

  after_carries : (c : history.Call) → carries t (figures_of (after_call k t f c).carrier) ≡ carries t (figures_of f.carrier)
  after_carries (set_call s g w) = refl
  after_carries (send_call s) = refl
  after_carries (receive_call s x) = refl
  after_carries (retire_call x) = refl

  kept_carries : (o : Option Reason) → carries t (figures_of (fleet_of k t o f (after_call k t f c)).carrier) ≡ carries t (figures_of f.carrier)
  kept_carries None = after_carries c
  kept_carries (Some w) = refl

told_back : (a : Result history.Reply Fault) → told (result_of a) ≡ a
told_back (Ok r) = refl
told_back (Err e) = refl

-- The run so far: i calls are made

pub record Running (code : ℕ) (k : WordKind) (t : Table) (live : Bool) (before : Fleet) (calls : List Call) (old : List (Result Reply Fault)) (Live-now : Bool) (now : Fleet) (i : ℕ) (new : List (Result Reply Fault)) (kept : Type 0) : Type 0 where
  pub fleet : now ≡ ran k t before (listed (take i calls))
  pub replies : new ≡ answers k t before (listed (take i calls)) ++ drop i old
  pub ready : unready_by live code t now ≡ None
  pub stays : Live-now ≡ live
  pub sound : kept

module _ (code : ℕ) (k : WordKind) (t : Table) (live : Bool) (before : Fleet) (calls : List Call) (old : List (Result Reply Fault)) where
  pub starts : {kept : Type 0} → kept → unready_by live code t before ≡ None → Running code k t live before calls old live before 0 old kept
  unfolding ran answers
  starts sound ready = record { fleet = refl; replies = refl; ready = ready; stays = refl; sound = sound }

  module _ {kept kept' : Type 0} (Live-now : Bool) (f : Fleet) (i : ℕ) (new : List (Result Reply Fault)) (so : Running code k t live before calls old Live-now f i new kept)
      (d : Call) (below : i < length calls) (many : length old ≡ length calls)
      (live_after : Bool) (after : Fleet) (r : Result Reply Fault) (did : Called code k t Live-now f live_after after (call_of (get_or calls i d)) r kept')
      (memory_long : length after.memory ≡ length f.memory) (hand_long : length after.hand ≡ length f.hand) where
    abbrev c : history.Call
    c = call_of (get_or calls i d)

    is_ready : unready_by Live-now code t f ≡ None
    is_ready = ap (λ l. unready_by l code t f) so.stays ∙ so.ready

    one : after ≡ called k t f c
    one = did.fleet ∙ ap (λ o. fleet_of k t (or_else o (call_refusal k t f c)) f (after_call k t f c)) is_ready

    answered : r ≡ result_of (answer k t f c)
    answered =
        did.answer
        ∙ ap (λ o. answer_of (or_else o (call_refusal k t f c)) (reply_of (history.reply k t f c))) is_ready
        ∙ as_answered k t f c (call_refusal k t f c) (history.reply k t f c)

    one_more : listed (take i calls) ++ c ∷ [] ≡ listed (take (i + 1) calls)
    one_more = sym (map_more call_of calls i d below)

    front_long : length (answers k t before (listed (take i calls))) ≡ i
    front_long = answers_long k t before (listed (take i calls)) ∙ length-map (take i calls) call_of ∙ length-take-le i calls (omega arith)

    same_shape : shaped code t after ≡ shaped code t f
    same_shape =
        let same = ap (λ z. carries t (figures_of z.carrier)) did.fleet ∙ kept_carries k t f c (or_else (unready_by Live-now code t f) (call_refusal k t f c)) in
        (λ j. eqb t.code code && (sized t (memory_long j) (hand_long j) && same j))

    pub goes : Running code k t live before calls old live_after after (i + 1) (set new i r) kept'
    goes =
        let made = answers k t before (listed (take i calls)) in
        let rest = drop (i + 1) old in
        record {
          fleet = one ∙ ap (λ z. called k t z c) so.fleet ∙ sym (ran_push k t before (listed (take i calls)) c) ∙ ap (ran k t before) one_more;
          replies = ap (λ z. set z i r) so.replies
              ∙ ap (λ z. set (made ++ z) i r) (drop_more old i r (omega (arith, many, below)))
              ∙ set_at made (get_or old i r) rest r i front_long
              ∙ sym (append_assoc made (r ∷ []) rest)
              ∙ ap (λ z. (made ++ z ∷ []) ++ rest) (answered ∙ ap (λ z. result_of (answer k t z c)) so.fleet)
              ∙ ap (λ z. z ++ rest) (sym (answers_push k t before (listed (take i calls)) c) ∙ ap (answers k t before) one_more);
          ready = ap (λ b. cond live (cond b None (Some why.Shape)) (Some why.Shut)) same_shape ∙ so.ready;
          stays = did.stays ∙ so.stays;
          sound = did.sound;
        }

  -- All calls are made

  module _ {kept : Type 0} (Live-now : Bool) (f : Fleet) (i : ℕ) (new : List (Result Reply Fault)) (so : Running code k t live before calls old Live-now f i new kept) (over : length calls ≤ i) (many : length old ≡ length calls) where
    pub fleet_after_all : f ≡ ran k t before (listed calls)
    fleet_after_all = so.fleet ∙ ap (λ z. ran k t before (listed z)) (take_all i calls over)

    replies_after_all : new ≡ answers k t before (listed calls)
    replies_after_all =
        so.replies
        ∙ ap (λ z. answers k t before (listed z) ++ drop i old) (take_all i calls over)
        ∙ ap (λ z. answers k t before (listed calls) ++ z) (drop_all i old (omega (arith, many, over)))
        ∙ append-nil (answers k t before (listed calls))

    each_after_all : (j : ℕ) (d : Result Reply Fault) → j < length (listed calls) → get_or new j d ≡ result_of (answer_at k t before (listed calls) j)
    each_after_all j d lt = ap (λ z. get_or z j d) replies_after_all ∙ answers_each k t before (listed calls) j d lt

    -- what the replies say is what the history has
    pub said_after_all : (j : ℕ) → j < length (listed calls) → said_by new j ≡ answer_at k t before (listed calls) j
    said_after_all j lt = ap told (each_after_all j (refuse why.Shape 0) lt) ∙ told_back (answer_at k t before (listed calls) j)

  -- no call can be made
  pub unmade : {kept : Type 0} → kept → (w : Reason) → Err w ≡ refused_by (unready_by live code t before) → (r : Result (Unit {0}) Fault) → IsErrAnd r (λ e. e ≡ fault w 0)
      → Ran code k t live before live before (listed calls) old old r kept
  unmade sound w is r h =
      let uneven = cond (eqb (length old) (length (listed calls))) None (Some why.Shape) in
      let refusal : run_refusal live code t before (length (listed calls)) (length old) ≡ Some w = sym (ap (λ o. or_else o uneven) (reason_of (unready_by live code t before) w is)) in
      record {
        answer = handed_out (unready_by live code t before) uneven w is tt r h;
        fleet = sym (ap (λ o. fleet_of k t o before (ran k t before (listed calls))) refusal);
        replies = sym (ap (λ o. replies_of o old (answers k t before (listed calls))) refusal);
        each = λ none j e lt. let z : ◌≡◌ {A = ℕ} 0 1 = cc in absurd (omega arith);
        stays = refl;
        sound = sound;
      }

  module _ (ready : unready_by live code t before ≡ None) where
    -- as many replies as calls
    pub finishes : {kept : Type 0} (Live-now : Bool) (f : Fleet) (i : ℕ) (new : List (Result Reply Fault)) → Running code k t live before calls old Live-now f i new kept → length calls ≤ i → length old ≡ length calls
        → Ran code k t live before Live-now f (listed calls) old new (Ok tt) kept
    finishes Live-now f i new so over many =
        let fits = eq-eqb (length old) (length (listed calls)) (many ∙ sym (length-map calls call_of)) in
        let refusal : run_refusal live code t before (length (listed calls)) (length old) ≡ None = ap (λ o. or_else o (cond (eqb (length old) (length (listed calls))) None (Some why.Shape))) ready ∙ ap (λ b. cond b None (Some why.Shape)) fits in
        record {
          answer = sym (ap (λ o. answer_of o tt) refusal);
          fleet = fleet_after_all Live-now f i new so over many ∙ sym (ap (λ o. fleet_of k t o before (ran k t before (listed calls))) refusal);
          replies = replies_after_all Live-now f i new so over many ∙ sym (ap (λ o. replies_of o old (answers k t before (listed calls))) refusal);
          each = λ _. each_after_all Live-now f i new so over many;
          stays = so.stays;
          sound = so.sound;
        }

    -- and otherwise
    pub uneven : {kept : Type 0} → kept → (length old ≡ length calls → ⊥) → (e : Fault) → e ≡ fault why.Shape 0 → Ran code k t live before live before (listed calls) old old (Err e) kept
    uneven sound differ e shape =
        let wrong = ne_eqb (length old) (length (listed calls)) (λ e. differ (e ∙ length-map calls call_of)) in
        let refusal : run_refusal live code t before (length (listed calls)) (length old) ≡ Some why.Shape = ap (λ o. or_else o (cond (eqb (length old) (length (listed calls))) None (Some why.Shape))) ready ∙ ap (λ b. cond b None (Some why.Shape)) wrong in
        record {
          answer = ap Err shape ∙ sym (ap (λ o. answer_of o tt) refusal);
          fleet = sym (ap (λ o. fleet_of k t o before (ran k t before (listed calls))) refusal);
          replies = sym (ap (λ o. replies_of o old (answers k t before (listed calls))) refusal);
          each = λ none j e lt. let z : ◌≡◌ {A = ℕ} 0 1 = cc in absurd (omega arith);
          stays = refl;
          sound = sound;
        }

-- the words of the first calls, and of one more
pub words_more : (calls : List Call) (i : ℕ) (d : Call) → i < length calls → AllByRecursion WordCall (listed (take i calls)) → WordCall (call_of (get_or calls i d)) → AllByRecursion WordCall (listed (take (i + 1) calls))
words_more calls i d below before word = rw (map_more call_of calls i d below) (All-push WordCall (listed (take i calls)) (call_of (get_or calls i d)) before word)

pub words_all : (calls : List Call) (i : ℕ) → length calls ≤ i → AllByRecursion WordCall (listed (take i calls)) → AllByRecursion WordCall (listed calls)
words_all calls i over words = rw (take_all i calls over) at words
