-- Which send put a copy that a carrier holds. Assumes nothing.
use Rattle.std.proofs.Common.{◌≡◌, ℕ, zero, suc, ◌+◌, ◌-◌, ◌<◌, ◌≤◌, true, List, length, is_ok, Some, None, Ok, Option, sym, refl, ap, ◌∙◌, subst, inl, inr, arith}
use Rattle.std.proofs.lemmas.Bool.{cases_lt, eq-eqb}
use Rattle.table.specs.Tables.{Table, sound}
use Rattle.step.specs.Nodes.{WordKind}
use Rattle.step.specs.Steps.{send}
use Rattle.carriers.specs.Meanings.{copy_under, with_copy}
use Rattle.history.specs.Calls.{Call, send_call, Fleet, answer, block_at, called, copy_of, event_reply, put_block, ran, stepped}
use Rattle.history.specs.Orders.{New}
use Rattle.history.specs.Runs.{answer_at, answered, call_at, event, event_of, fleet_at, is_at}
use Rattle.history.proofs.BlockSteps.{makes_send}
use Rattle.history.proofs.Calling.{answer_ok, called_ok, ok_none, some_none}
use Rattle.history.proofs.Moments.{Puts, accepted_at, block, call_is, carrier, event_accepted, event_at, event_below, fleet_past, fleet_step, held_before, kept_at, moment, next_grows, of_event, own_block}

module _ (k : WordKind) (t : Table) (g : Fleet) (s : ℕ) where
  pub send_carrier : (c : Call) → c ≡ send_call s → is_ok (answer k t g c) ≡ true → (called k t g c).carrier ≡ with_copy g.carrier (copy_of k t s (stepped k t g s send))
  send_carrier c is = subst (λ z. is_ok (answer k t g z) ≡ true → (called k t g z).carrier ≡ with_copy g.carrier (copy_of k t s (stepped k t g s send))) (sym is) (λ ok. ap (λ z. z.carrier) (called_ok k t g (send_call s) (ok_none _ _ ok)))

  pub send_answer : (c : Call) → c ≡ send_call s → is_ok (answer k t g c) ≡ true → answer k t g c ≡ Ok (event_reply k t g s send (Some g.carrier.next))
  send_answer c is = subst (λ z. is_ok (answer k t g z) ≡ true → answer k t g z ≡ Ok (event_reply k t g s send (Some g.carrier.next))) (sym is) (λ ok. answer_ok k t g (send_call s) (ok_none _ _ ok))

  send_memory : (c : Call) → c ≡ send_call s → is_ok (answer k t g c) ≡ true → (called k t g c).memory ≡ put_block k t g.memory s (stepped k t g s send)
  send_memory c is = subst (λ z. is_ok (answer k t g z) ≡ true → (called k t g z).memory ≡ put_block k t g.memory s (stepped k t g s send)) (sym is) (λ ok. ap (λ z. z.memory) (called_ok k t g (send_call s) (ok_none _ _ ok)))

module _ (k : WordKind) (t : Table) (f : Fleet) (calls : List Call) (is_sound : sound t ≡ true) (new : New k t f) where
  -- event i is the send at s that answered the number x
  pub record Sent (i s x : ℕ) : Type 0 where
    pub is : event_of k t f calls s i ≡ true
    pub call : call_at k t f calls i ≡ send_call s
    pub number : (carrier k t f calls i).next ≡ x

  pub next_more : (i : ℕ) → (carrier k t f calls i).next ≤ (carrier k t f calls (suc i)).next
  unfolding carrier
  next_more i = elim (cases_lt i (length calls)) [
    | inr past ↦ omega (arith, ap (λ z. z.carrier.next) (fleet_past k t f calls i past))
    | inl below ↦ omega (arith, ap (λ z. z.carrier.next) (fleet_step k t f calls i below), next_grows k t (fleet_at k t f calls i) (kept_at k t f calls is_sound new i) (call_at k t f calls i))
  ]

  next_rises : (i d : ℕ) → (carrier k t f calls i).next ≤ (carrier k t f calls (i + d)).next
  next_rises i zero = let e : i + 0 ≡ i = omega arith in omega (arith, ap (λ z. (carrier k t f calls z).next) e)
  next_rises i (suc d) =
      let e : i + suc d ≡ suc (i + d) = omega arith in
      omega (arith, ap (λ z. (carrier k t f calls z).next) e, next_rises i d, next_more (i + d))

  pub sent_carrier : (i s x : ℕ) → Sent i s x → carrier k t f calls (suc i) ≡ with_copy (carrier k t f calls i) (copy_of k t s (stepped k t (fleet_at k t f calls i) s send))
  unfolding carrier
  sent_carrier i s x sent =
      let here = of_event k t f calls s i sent.is in
      ap (λ z. z.carrier) (fleet_step k t f calls i (event_below k t f calls i here))
      ∙ send_carrier k t (fleet_at k t f calls i) s (call_at k t f calls i) sent.call (ap is_ok (sym (call_is k t f calls i)) ∙ event_accepted k t f calls i here)

  pub sent_next : (i s x : ℕ) → Sent i s x → (carrier k t f calls (suc i)).next ≡ x + 1
  sent_next i s x sent = ap (λ z. z.next) (sent_carrier i s x sent) ∙ ap (λ z. z + 1) sent.number

  earlier_less : (i j s r x y : ℕ) → Sent i s x → Sent j r y → i < j → x < y
  earlier_less i j s r x y one two less =
      let rest : (d : ℕ) × (suc i + d ≡ j) = (j - suc i, omega arith) in
      omega (arith, sent_next i s x one, next_rises (suc i) rest.0, ap (λ z. (carrier k t f calls z).next) rest.1, two.number)

  -- one send for each number
  pub sent_once : (i j s r x : ℕ) → Sent i s x → Sent j r x → i ≡ j
  sent_once i j s r x one two = elim (cases_lt i j) [
    | inl less ↦ let z : ⊥ = omega (arith, earlier_less i j s r x x one two less) in absurd z
    | inr le ↦ elim (cases_lt j i) [
      | inl less ↦ let z : ⊥ = omega (arith, earlier_less j i r s x x two one less) in absurd z
      | inr ge ↦ omega arith
    ]
  ]

  pub sent_answer : (i s x : ℕ) → Sent i s x → answered k t f calls (answer_at k t f calls i) ≡ Some x
  unfolding carrier
  sent_answer i s x sent =
      let here = of_event k t f calls s i sent.is in
      let ok = ap is_ok (sym (call_is k t f calls i)) ∙ event_accepted k t f calls i here in
      ap (answered k t f calls) (call_is k t f calls i ∙ send_answer k t (fleet_at k t f calls i) s (call_at k t f calls i) sent.call ok)
      ∙ ap (λ z. Some z) sent.number

  pub sent_from_answer : (i s x : ℕ) → event k t f calls i ≡ true → call_at k t f calls i ≡ send_call s → answered k t f calls (answer_at k t f calls i) ≡ Some x → Sent i s x
  sent_from_answer i s x here call says =
      let is = event_at k t f calls s i here (ap (λ z. is_at z s) call ∙ eq-eqb s s refl) in
      let mine : Sent i s (carrier k t f calls i).next = record { is = is; call = call; number = refl } in
      let both : ◌≡◌ {A = Option ℕ} (Some (carrier k t f calls i).next) (Some x) = sym (sent_answer i s (carrier k t f calls i).next mine) ∙ says in
      record { is = is; call = call; number = cc both }

  -- the copy that a send puts is of its block just after it
  pub sent_copy : (i s x : ℕ) → Sent i s x → copy_of k t s (stepped k t (fleet_at k t f calls i) s send) ≡ copy_of k t s (block k t f calls (suc i) s)
  unfolding block
  sent_copy i s x sent =
      let here = of_event k t f calls s i sent.is in
      let ok = ap is_ok (sym (call_is k t f calls i)) ∙ event_accepted k t f calls i here in
      let m = moment k t f calls is_sound new s i sent.is in
      ap (copy_of k t s) (sym (
      ap (λ z. block_at k t z.memory s) (fleet_step k t f calls i (event_below k t f calls i here))
      ∙ ap (λ z. block_at k t z s) (send_memory k t (fleet_at k t f calls i) s (call_at k t f calls i) sent.call ok)
      ∙ own_block k t (fleet_at k t f calls i) (kept_at k t f calls is_sound new i) s m.below send (makes_send t)))

  -- the send that put a copy
  pub record From (i x : ℕ) (copy : List ℕ) : Type 0 where
    pub place : ℕ
    pub switch : ℕ
    pub earlier : place < i
    pub sent : Sent place switch x
    pub copy_is : copy ≡ copy_of k t switch (block k t f calls (suc place) switch)

  none_first : (x : ℕ) → copy_under x (carrier k t f calls 0).held ≡ None
  unfolding carrier fleet_at ran copy_under
  none_first x = ap (copy_under x) new.held

  pub from : (i x : ℕ) (copy : List ℕ) → copy_under x (carrier k t f calls i).held ≡ Some copy → From i x copy
  unfolding carrier
  from zero x copy found = some_none copy (sym found ∙ none_first x)
  from (suc i) x copy found = elim (cases_lt i (length calls)) [
    | inr past ↦ later (from i x copy (ap (λ z. copy_under x z.carrier.held) (sym (fleet_past k t f calls i past)) ∙ found))
    | inl below ↦ elim (held_before k t (fleet_at k t f calls i) (kept_at k t f calls is_sound new i) (call_at k t f calls i) x copy (ap (λ z. copy_under x z.carrier.held) (sym (fleet_step k t f calls i below)) ∙ found)) [
      | inl before ↦ later (from i x copy before)
      | inr put ↦ here put below
    ]
  ]
    where
      later : From i x copy → From (suc i) x copy
      later b = record { place = b.place; switch = b.switch; earlier = omega (arith, b.earlier); sent = b.sent; copy_is = b.copy_is }

      here : Puts k t (fleet_at k t f calls i) (kept_at k t f calls is_sound new i) (call_at k t f calls i) x copy → i < length calls → From (suc i) x copy
      here put below =
          let is = accepted_at k t f calls put.switch i below (ap is_ok (call_is k t f calls i) ∙ put.ok) (ap (λ z. is_at z put.switch) put.send_is ∙ eq-eqb put.switch put.switch refl) in
          let sent : Sent i put.switch x = record { is = is; call = put.send_is; number = sym put.number } in
          record {
            place = i;
            switch = put.switch;
            earlier = omega arith;
            sent = sent;
            copy_is = put.copy_is ∙ sent_copy i put.switch x sent;
          }
