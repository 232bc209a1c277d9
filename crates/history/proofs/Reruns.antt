-- How an allowed order runs on a new fleet: every event finds what it found in the list. Assumes nothing.
use Rattle.std.proofs.Common.{◌≡◌, ℕ, zero, suc, ◌+◌, ◌<◌, ◌≤◌, true, false, cond, eqb, ◌≢◌, ◌⊎◌, ◌↔◌, List, [], ◌∷◌, ◌++◌, map, length, get_or, take, drop, is_ok, Some, None, Option, sym, refl, ap, ◌∙◌, subst, inl, inr, arith}
use Rattle.std.proofs.lemmas.List.{append_assoc, drop_more, length_push, map-append, take-append-drop, take_more}
use Rattle.std.proofs.lemmas.Bool.{both_ways, cases_Bool, cases_eq, cases_lt, cond-false, cond-true, lt-ltb, ne_eqb, or_from}
use Rattle.table.specs.Tables.{Table, sound}
use Rattle.step.specs.Nodes.{WordKind}
use Rattle.step.specs.Steps.{Act, set_register, send, receive, acted_block, advanced, max_count, own_count}
use Rattle.carriers.specs.Meanings.{copy_under, last_number, with_copy}
use Rattle.history.specs.Calls.{Call, set_call, send_call, receive_call, Fleet, block_at, call_refusal, called, copy_of, held_or, ran, stepped}
use Rattle.history.specs.Orders.{Allowed, New, is_send, new_number, renamed, sends, times}
use Rattle.history.specs.Runs.{Before, step, chain, Precedes, call_at, event, event_of, fleet_at, is_retire}
use Rattle.history.proofs.Calling.{Does, sets, sends as sends_one, receives, Done, done_receive, done_send, done_set, event_free}
use Rattle.history.proofs.Carrier.{with_next, with_other}
use Rattle.history.proofs.Copies.{Sent, from, send_carrier, sent_answer}
use Rattle.history.proofs.Counting.{block_between, same_switch}
use Rattle.history.proofs.Listing.{AlwaysAfter, always_after, split, times_append, times_none, times_push, times_push_other, times_same}
use Rattle.history.proofs.Memory as memory
use Rattle.history.proofs.Moments.{Carries, unmoved, puts, retires, Kept, Moment, block, block_first, carrier, carrier_is, carries, event_below, kept_new, kept_ran, moment, of_event, one_switch, other_block, own_block, ran_push, some_switch}
use Rattle.history.proofs.Sends.{number_in, order_sends, sends_append, sends_none, sends_one_more, sends_push}

module _ (k : WordKind) (t : Table) (f : Fleet) (calls : List Call) (is_sound : sound t ≡ true) (new : New k t f) (order : List ℕ) (allowed : Allowed k t f calls order) where
  -- an event stands once, so what precedes it stands before it wherever it stands
  after_all : (i j : ℕ) → Precedes k t f calls i j → AlwaysAfter i j order
  after_all i j p = always_after i j order (few (cases_Bool (event k t f calls j))) (allowed.keeps i j p)
    where
      few : (event k t f calls j ≡ true) ⊎ (event k t f calls j ≡ false) → times j order ≤ 1
      few (inl is) = omega (arith, allowed.once j, ap {B = ℕ} (λ b. cond b 1 0) is)
      few (inr none) = omega (arith, allowed.once j, ap {B = ℕ} (λ b. cond b 1 0) none)

  -- Parts of an allowed order

  -- what precedes an event of a front part stands in that part
  pub closed : (pre rest : List ℕ) → order ≡ pre ++ rest → (q i : ℕ) → Precedes k t f calls q i → 1 ≤ times i pre → 1 ≤ times q pre
  closed pre rest is q i precedes some =
      let part = split i pre some in
      let whole : order ≡ part.front ++ (i ∷ (part.rest ++ rest)) = is ∙ ap (λ z. z ++ rest) part.is ∙ append_assoc part.front (i ∷ part.rest) rest in
      let early = after_all q i precedes part.front (part.rest ++ rest) whole in
      omega (arith, early, ap (times q) part.is, times_append q part.front (i ∷ part.rest))

  pub closed_before : (pre rest : List ℕ) → order ≡ pre ++ rest → (q i : ℕ) → Before k t f calls q i → 1 ≤ times i pre → 1 ≤ times q pre
  closed_before pre rest is q i (step x y p) some = closed pre rest is q i p some
  closed_before pre rest is q i (chain x j y b p) some = closed_before pre rest is q j b (closed pre rest is j i p some)

  module _ (pre rest : List ℕ) (e : ℕ) (is : order ≡ pre ++ (e ∷ rest)) where
    times_is : times e order ≡ times e pre + suc (times e rest)
    times_is = ap (times e) is ∙ times_append e pre (e ∷ rest) ∙ ap (λ z. times e pre + z) (times_same e rest)

    pub next_event : event k t f calls e ≡ true
    next_event = elim (cases_Bool (event k t f calls e)) [
      | inl here ↦ here
      | inr nothing ↦ let z : ⊥ = omega (arith, times_is, allowed.once e, ap {B = ℕ} (λ b. cond b 1 0) nothing) in absurd z
    ]

    pub not_yet : times e pre ≡ 0
    not_yet = omega (arith, times_is, allowed.once e, ap {B = ℕ} (λ b. cond b 1 0) next_event)

    -- what happens before the next event has been
    pub been : (q : ℕ) → Before k t f calls q e → 1 ≤ times q pre
    been q (step x y p) = after_all q e p pre rest is
    been q (chain x j y b p) = closed_before pre (e ∷ rest) is q j b (after_all j e p pre rest is)

  module _ (g : Fleet) (new_g : New k t g) (space : sends k t f calls order ≤ g.carrier.capacity) where
    abbrev again : ℕ → Call
    again i = renamed k t f calls order (call_at k t f calls i)

    -- the new fleet after a front part of the order
    abbrev pub rerun : List ℕ → Fleet
    rerun pre = ran k t g (map again pre)

    pub rerun_push : (pre : List ℕ) (e : ℕ) → rerun (pre ++ e ∷ []) ≡ called k t (rerun pre) (again e)
    rerun_push pre e = ap (ran k t g) (map-append again pre (e ∷ [])) ∙ ran_push k t g (map again pre) (again e)

    rerun_kept : (pre : List ℕ) → Kept k t (rerun pre)
    rerun_kept pre = kept_ran k t g (kept_new k t is_sound g new_g) (map again pre)

    -- the block of j is that of the list at a time that parts j's events of the front part from the others
    pub record Stands (pre : List ℕ) (j : ℕ) : Type 0 where
      pub time : ℕ
      pub inside : time ≤ length calls
      pub parts : (i : ℕ) → event_of k t f calls j i ≡ true → (1 ≤ times i pre) ↔ (i < time)
      pub block_is : block_at k t (rerun pre).memory j ≡ block k t f calls time j

    pub record Sim (pre : List ℕ) : Type 0 where
      pub blocks : (j : ℕ) → j < t.switches → Stands pre j
      pub next : (rerun pre).carrier.next ≡ sends k t f calls pre
      pub many : length (rerun pre).carrier.held ≡ sends k t f calls pre
      pub capacity : (rerun pre).carrier.capacity ≡ g.carrier.capacity
      pub copies : (i s x : ℕ) → Sent k t f calls is_sound new i s x → 1 ≤ times i pre → (copy_under (new_number k t f calls order x) (rerun pre).carrier.held ≡ Some (copy_of k t s (block k t f calls (suc i) s))) × (new_number k t f calls order x < sends k t f calls pre)

    sim_none : Sim []
    unfolding ran
    sim_none = record {
      blocks = λ j below. record {
        time = 0;
        inside = omega arith;
        parts = λ i is. (λ some. omega (arith, some, times_none i), λ less. omega arith);
        block_is = ap (λ z. block_at k t z j) new_g.memory ∙ memory.first_block k t is_sound j below ∙ sym (block_first k t f calls is_sound new j below);
      };
      next = new_g.next ∙ sym (sends_none k t f calls);
      many = ap length new_g.held ∙ sym (sends_none k t f calls);
      capacity = refl;
      copies = λ i s x sent some. let z : ⊥ = omega (arith, some, times_none i) in absurd z;
    }

    -- One event more

    module _ (pre rest : List ℕ) (e : ℕ) (is : order ≡ pre ++ (e ∷ rest)) (sim : Sim pre) (s : ℕ) (here : event_of k t f calls s e ≡ true) where
      pub in_list : Moment k t f calls is_sound new s e
      in_list = moment k t f calls is_sound new s e here

      -- the switch's earlier events have been, and its later ones not
      pub same_block : block_at k t (rerun pre).memory s ≡ block k t f calls e s
      same_block =
          let at = sim.blocks s in_list.below in
          let le : at.time ≤ e = elim (cases_lt e at.time) [
            | inl less ↦ let z : ⊥ = omega (arith, (at.parts e here).1 less, not_yet pre rest e is) in absurd z
            | inr ge ↦ ge
          ] in
          at.block_is ∙ sym (block_between k t f calls is_sound new s at.time e le (λ q late less. elim (cases_Bool (event_of k t f calls s q)) [
            | inr nothing ↦ nothing
            | inl at-q ↦ let z : ⊥ = omega (arith, late, (at.parts q at-q).0 (been pre rest e is q (same_switch k t f calls s q e less at-q here))) in absurd z
          ]))

      room : own_count (length t.nodes) s (block_at k t (rerun pre).memory s) ≢ max_count
      room = subst (λ z. own_count (length t.nodes) s z ≢ max_count) (sym same_block) in_list.room

      fewer : sends k t f calls pre + sends k t f calls (e ∷ rest) ≡ sends k t f calls order
      fewer = sym (ap (sends k t f calls) is ∙ sends_append k t f calls pre (e ∷ rest))

      pub doing : (x : Option ℕ) × Done k t (rerun pre) (again e) s in_list.act x
      doing = way in_list.act in_list.does
        where
          way : (a : Act) → Does k t (fleet_at k t f calls e) (call_at k t f calls e) s a → (x : Option ℕ) × Done k t (rerun pre) (again e) s a x
          way a (sets r w call acts small) =
              let none : call_refusal k t (rerun pre) (set_call s r w) ≡ None = cond-true _ _ _ (lt-ltb _ _ in_list.below) ∙ cond-true _ _ _ (lt-ltb _ _ small) ∙ event_free k t (rerun pre) s None in_list.below room refl in
              let done : (x : Option ℕ) × Done k t (rerun pre) (set_call s r w) s (set_register r w) x = (_, done_set k t (rerun pre) s r w none) in
              subst (λ c. (x : Option ℕ) × Done k t (rerun pre) (renamed k t f calls order c) s a x) (sym call)
              (subst (λ z. (x : Option ℕ) × Done k t (rerun pre) (set_call s r w) s z x) (sym acts) done)
          way a (sends_one call acts free) =
              let flag : is_send (call_at k t f calls e) ≡ true = ap is_send call in
              let one : sends k t f calls (e ∷ rest) ≡ 1 + sends k t f calls rest = sends_one_more k t f calls e rest ∙ ap (λ b. cond b 1 0 + sends k t f calls rest) flag in
              let full : eqb (length (rerun pre).carrier.held) (rerun pre).carrier.capacity ≡ false = ne_eqb _ _ (λ q. omega (arith, q, sim.many, sim.capacity, fewer, one, space)) in
              let last : eqb (rerun pre).carrier.next last_number ≡ false = ne_eqb _ _ (λ q. omega (arith, q, sim.next, fewer, one, order_sends k t f calls is_sound new order allowed)) in
              let none : call_refusal k t (rerun pre) (send_call s) ≡ None = event_free k t (rerun pre) s _ in_list.below room (cond-false _ _ _ (or_from _ _ full last)) in
              let done : (x : Option ℕ) × Done k t (rerun pre) (send_call s) s send x = (_, done_send k t (rerun pre) s none) in
              subst (λ c. (x : Option ℕ) × Done k t (rerun pre) (renamed k t f calls order c) s a x) (sym call)
              (subst (λ z. (x : Option ℕ) × Done k t (rerun pre) (send_call s) s z x) (sym acts) done)
          way a (receives x copy call acts found) =
              let b = from k t f calls is_sound new e x copy (ap (λ z. copy_under x z.held) (carrier_is k t f calls e) ∙ found) in
              let precedes : Precedes k t f calls b.place e = Precedes.heard b.switch s x b.place e (of_event k t f calls b.switch b.place b.sent.is) (of_event k t f calls s e here) b.sent.call (sent_answer k t f calls is_sound new b.place b.switch x b.sent) call in
              let there = (sim.copies b.place b.switch x b.sent (been pre rest e is b.place (step b.place e precedes))).0 ∙ ap (λ z. Some z) (sym b.copy_is) in
              let number = new_number k t f calls order x in
              let none : call_refusal k t (rerun pre) (receive_call s number) ≡ None = event_free k t (rerun pre) s _ in_list.below room (ap (held_or k t) there) in
              let done : (y : Option ℕ) × Done k t (rerun pre) (receive_call s number) s (receive copy) y = (_, done_receive k t (rerun pre) s number copy there none) in
              subst (λ c. (y : Option ℕ) × Done k t (rerun pre) (renamed k t f calls order c) s a y) (sym call)
              (subst (λ z. (y : Option ℕ) × Done k t (rerun pre) (receive_call s number) s z y) (sym acts) done)

      done : Done k t (rerun pre) (again e) s in_list.act doing.0
      done = doing.1

      stepped_is : stepped k t (rerun pre) s in_list.act ≡ block k t f calls (suc e) s
      stepped_is = ap (λ z. advanced k t s (acted_block t s in_list.act z)) same_block ∙ sym in_list.becomes

      own_after : block_at k t (rerun (pre ++ e ∷ [])).memory s ≡ block k t f calls (suc e) s
      own_after =
          ap (λ z. block_at k t z.memory s) (rerun_push pre e)
          ∙ ap (λ z. block_at k t z s) done.memory
          ∙ own_block k t (rerun pre) (rerun_kept pre) s in_list.below in_list.act in_list.makes
          ∙ stepped_is

      other_after : (j : ℕ) → j ≢ s → block_at k t (rerun (pre ++ e ∷ [])).memory j ≡ block_at k t (rerun pre).memory j
      other_after j differ =
          ap (λ z. block_at k t z.memory j) (rerun_push pre e)
          ∙ ap (λ z. block_at k t z j) done.memory
          ∙ other_block k t (rerun pre) (rerun_kept pre) s in_list.below in_list.act in_list.makes j differ

      stands_own : Stands (pre ++ e ∷ []) s
      stands_own = record {
        time = suc e;
        inside = event_below k t f calls e (of_event k t f calls s e here);
        parts = λ i at_i. (λ some. early i at_i some (cases_eq i e), λ less. late i at_i less (cases_eq i e));
        block_is = own_after;
      }
        where
          early : (i : ℕ) → event_of k t f calls s i ≡ true → 1 ≤ times i (pre ++ e ∷ []) → (i ≡ e) ⊎ (i ≡ e → ⊥) → i < suc e
          early i at_i some (inl equal) = omega arith
          early i at_i some (inr differ) = elim (cases_lt i (suc e)) [
            | inl less ↦ less
            | inr more ↦ let z : ⊥ = omega (arith, not_yet pre rest e is, closed_before pre (e ∷ rest) is e i (same_switch k t f calls s e i (omega arith) here at_i) (omega (arith, some, times_push_other i e pre (λ q. differ (sym q))))) in absurd z
          ]

          late : (i : ℕ) → event_of k t f calls s i ≡ true → i < suc e → (i ≡ e) ⊎ (i ≡ e → ⊥) → 1 ≤ times i (pre ++ e ∷ [])
          late i at_i less (inl equal) = omega (arith, ap (λ z. times z (pre ++ e ∷ [])) equal, times_push e pre)
          late i at_i less (inr differ) = omega (arith, been pre rest e is i (same_switch k t f calls s i e (omega arith) at_i here), times_push_other i e pre (λ q. differ (sym q)))

      stands_other : (j : ℕ) → j < t.switches → j ≢ s → Stands (pre ++ e ∷ []) j
      stands_other j below differ =
          let at = sim.blocks j below in
          record {
            time = at.time;
            inside = at.inside;
            parts = λ i at_i.
                let same = times_push_other i e pre (λ q. differ (one_switch k t f calls j s e (subst (λ z. event_of k t f calls j z ≡ true) (sym q) at_i) here)) in
                (λ some. (at.parts i at_i).0 (omega (arith, some, same)), λ less. omega (arith, (at.parts i at_i).1 less, same));
            block_is = other_after j differ ∙ at.block_is;
          }

      blocks_after : (j : ℕ) → j < t.switches → Stands (pre ++ e ∷ []) j
      blocks_after j below = elim (cases_eq j s) [
        | inl equal ↦ subst (Stands (pre ++ e ∷ [])) (sym equal) stands_own
        | inr differ ↦ stands_other j below differ
      ]

      -- the carrier after an event that is no send

      plain_carrier : is_send (again e) ≡ false → is_retire (again e) ≡ false → (rerun (pre ++ e ∷ [])).carrier ≡ (rerun pre).carrier
      plain_carrier no-send no-retire = ap (λ z. z.carrier) (rerun_push pre e) ∙ way (carries k t (rerun pre) (rerun_kept pre) (again e))
        where
          way : Carries k t (rerun pre) (rerun_kept pre) (again e) → (called k t (rerun pre) (again e)).carrier ≡ (rerun pre).carrier
          way (unmoved kept) = kept
          way (puts r call ok kept) = absurd (both_ways _ no-send (ap is_send call))
          way (retires x call kept) = absurd (both_ways _ no-retire (ap is_retire call))

      sim_plain : is_send (call_at k t f calls e) ≡ false → is_send (again e) ≡ false → is_retire (again e) ≡ false → Sim (pre ++ e ∷ [])
      sim_plain no-send again-no-send no-retire =
          let same = plain_carrier again-no-send no-retire in
          let count : sends k t f calls (pre ++ e ∷ []) ≡ sends k t f calls pre = omega (arith, sends_push k t f calls pre e, ap {B = ℕ} (λ b. cond b 1 0) no-send) in
          record {
            blocks = blocks_after;
            next = ap (λ z. z.next) same ∙ sim.next ∙ sym count;
            many = ap (λ z. length z.held) same ∙ sim.many ∙ sym count;
            capacity = ap (λ z. z.capacity) same ∙ sim.capacity;
            copies = λ i r x sent some.
                let differ : e ≢ i = λ q. both_ways _ (ap (λ z. is_send (call_at k t f calls z)) (sym q) ∙ no-send) (ap is_send sent.call) in
                let old = sim.copies i r x sent (omega (arith, some, times_push_other i e pre differ)) in
                (ap (λ z. copy_under (new_number k t f calls order x) z.held) same ∙ old.0, omega (arith, old.1, count));
          }

      -- and after a send

      sim_send : call_at k t f calls e ≡ send_call s → in_list.act ≡ send → Sim (pre ++ e ∷ [])
      sim_send call acts =
          let sent : Sent k t f calls is_sound new e s (carrier k t f calls e).next = record { is = here; call = call; number = refl } in
          let again_is : again e ≡ send_call s = ap (renamed k t f calls order) call in
          let copy = copy_of k t s (block k t f calls (suc e) s) in
          let new_carrier : (rerun (pre ++ e ∷ [])).carrier ≡ with_copy (rerun pre).carrier copy =
          ap (λ z. z.carrier) (rerun_push pre e)
          ∙ send_carrier k t (rerun pre) s (again e) again_is (ap is_ok done.answered)
          ∙ ap (λ z. with_copy (rerun pre).carrier (copy_of k t s z)) (ap (stepped k t (rerun pre) s) (sym acts) ∙ stepped_is) in
          let count : sends k t f calls (pre ++ e ∷ []) ≡ sends k t f calls pre + 1 = sends_push k t f calls pre e ∙ ap (λ b. sends k t f calls pre + cond b 1 0) (ap is_send call) in
          record {
            blocks = blocks_after;
            next = ap (λ z. z.next) new_carrier ∙ ap (λ z. z + 1) sim.next ∙ sym count;
            many = ap (λ z. length z.held) new_carrier ∙ length_push (rerun pre).carrier.held ((rerun pre).carrier.next, copy) ∙ ap (λ z. z + 1) sim.many ∙ sym count;
            capacity = ap (λ z. z.capacity) new_carrier ∙ sim.capacity;
            copies = λ i r x one some. ap_found new_carrier count i r x one some (cases_eq i e) sent;
          }
        where
          ap_found : (rerun (pre ++ e ∷ [])).carrier ≡ with_copy (rerun pre).carrier (copy_of k t s (block k t f calls (suc e) s)) → sends k t f calls (pre ++ e ∷ []) ≡ sends k t f calls pre + 1 → (i r x : ℕ) → Sent k t f calls is_sound new i r x → 1 ≤ times i (pre ++ e ∷ []) → (i ≡ e) ⊎ (i ≡ e → ⊥) → Sent k t f calls is_sound new e s (carrier k t f calls e).next
              → (copy_under (new_number k t f calls order x) (rerun (pre ++ e ∷ [])).carrier.held ≡ Some (copy_of k t r (block k t f calls (suc i) r))) × (new_number k t f calls order x < sends k t f calls (pre ++ e ∷ []))
          ap_found new_carrier count i r x one some (inl equal) sent =
              let copy = copy_of k t s (block k t f calls (suc e) s) in
              let one_e : Sent k t f calls is_sound new e r x = subst (λ z. Sent k t f calls is_sound new z r x) equal one in
              let switch : r ≡ s = one_switch k t f calls r s e one_e.is here in
              let number : new_number k t f calls order x ≡ sends k t f calls pre = ap (λ z. new_number k t f calls z x) is ∙ number_in k t f calls is_sound new pre rest e r x one_e (not_yet pre rest e is) in (
                ap (λ z. copy_under (new_number k t f calls order x) z.held) new_carrier
                    ∙ ap (λ z. copy_under z (with_copy (rerun pre).carrier copy).held) (number ∙ sym sim.next)
                    ∙ with_next (rerun pre).carrier (rerun_kept pre).numbered copy
                    ∙ ap (λ z. Some (copy_of k t z (block k t f calls (suc e) z))) (sym switch)
                    ∙ ap (λ z. Some (copy_of k t r (block k t f calls (suc z) r))) (sym equal),
                omega (arith, number, count),
              )
          ap_found new_carrier count i r x one some (inr differ) sent =
              let copy = copy_of k t s (block k t f calls (suc e) s) in
              let old = sim.copies i r x one (omega (arith, some, times_push_other i e pre (λ q. differ (sym q)))) in (
                ap (λ z. copy_under (new_number k t f calls order x) z.held) new_carrier
                    ∙ with_other (rerun pre).carrier (rerun_kept pre).numbered copy (new_number k t f calls order x) (λ q. omega (arith, q, old.1, sim.next))
                    ∙ old.0,
                omega (arith, old.1, count),
              )

      sim_more : Sim (pre ++ e ∷ [])
      sim_more = way in_list.does
        where
          way : Does k t (fleet_at k t f calls e) (call_at k t f calls e) s in_list.act → Sim (pre ++ e ∷ [])
          way (sets r w call acts small) = sim_plain (ap is_send call) (ap (λ z. is_send (renamed k t f calls order z)) call) (ap (λ z. is_retire (renamed k t f calls order z)) call)
          way (sends_one call acts free) = sim_send call acts
          way (receives x copy call acts found) = sim_plain (ap is_send call) (ap (λ z. is_send (renamed k t f calls order z)) call) (ap (λ z. is_retire (renamed k t f calls order z)) call)

    pub at_place : (p : ℕ) → p < length order → order ≡ take p order ++ (get_or order p 0 ∷ drop (suc p) order)
    at_place p less =
        let one : p + 1 ≡ suc p = omega arith in
        sym (take-append-drop p order) ∙ ap (λ z. take p order ++ z) (drop_more order p 0 less ∙ ap (λ z. get_or order p 0 ∷ drop z order) one)

    -- every front part of the order runs so
    pub sim_at : (p : ℕ) → p ≤ length order → Sim (take p order)
    sim_at zero le = sim_none
    sim_at (suc p) le =
        let e = get_or order p 0 in
        let is : order ≡ take p order ++ (e ∷ drop (suc p) order) = at_place p le in
        let at = some_switch k t f calls e (next_event (take p order) (drop (suc p) order) e is) in
        let one : suc p ≡ p + 1 = omega arith in
        subst Sim (sym (ap (λ z. take z order) one ∙ take_more order p 0 le)) (sim_more (take p order) (drop (suc p) order) e is (sim_at p (omega arith)) at.0 at.1)
