-- How many sends an order has, and the numbers that they get. Assumes nothing.
use Rattle.std.proofs.Common.{◌≡◌, ℕ, zero, suc, ◌+◌, ◌≤◌, Bool, true, false, cond, eqb, ◌≢◌, ◌⊎◌, List, [], ◌∷◌, ◌++◌, length, is_ok, Some, None, Option, sym, refl, ap, ◌∙◌, subst, inl, inr, arith}
use Rattle.std.proofs.lemmas.Bool.{and_from, and_parts, both_ways, cases_Bool, cases_eq, cases_lt, cond-false, cond-true, eq-eqb, eqb-false, eqb-true, or_parts}
use Rattle.table.specs.Tables.{Table, sound}
use Rattle.step.specs.Nodes.{WordKind}
use Rattle.carriers.specs.Meanings.{last_number, no_space}
use Rattle.history.specs.Calls.{Call, set_call, send_call, receive_call, retire_call, Fleet, answer, called}
use Rattle.history.specs.Orders.{Allowed, New, answers_number, is_send, new_number, sends, sent_as, times}
use Rattle.history.specs.Runs.{call_at, event, fleet_at, is_at}
use Rattle.history.proofs.Calling.{clears, event_room, ok_none}
use Rattle.history.proofs.Copies.{Sent, next_more, sent_answer, sent_from_answer, sent_next, sent_once}
use Rattle.history.proofs.Listing.{times_none, times_other, times_same}
use Rattle.history.proofs.Moments.{Carries, unmoved, puts, retires, carrier, carrier_first, carrier_is, carries, event_at, event_below, fleet_past, fleet_step, kept_at, of_event}

-- a call that is a send, with its switch
pub send_of : (c : Call) → is_send c ≡ true → (s : ℕ) × (c ≡ send_call s)
send_of (set_call s g w) is = absurd (both_ways false refl is)
send_of (send_call s) is = (s, refl)
send_of (receive_call s x) is = absurd (both_ways false refl is)
send_of (retire_call x) is = absurd (both_ways false refl is)

-- the list without a place
without : ℕ → List ℕ → List ℕ
without m [] = []
without m (x ∷ xs) = cond (eqb x m) (without m xs) (x ∷ without m xs)

without_same : (m : ℕ) (xs : List ℕ) → times m (without m xs) ≡ 0
unfolding without
without_same m [] = times_none m
without_same m (x ∷ xs) = elim (cases_Bool (eqb x m)) [
  | inl e ↦ ap (times m) (cond-true (eqb x m) (without m xs) (x ∷ without m xs) e) ∙ without_same m xs
  | inr e ↦ ap (times m) (cond-false (eqb x m) (without m xs) (x ∷ without m xs) e) ∙ times_other m x (without m xs) (eqb-false x m e) ∙ without_same m xs
]

without_other : (m i : ℕ) (xs : List ℕ) → i ≢ m → times i (without m xs) ≡ times i xs
unfolding without
without_other m i [] differ = refl
without_other m i (x ∷ xs) differ = elim (cases_Bool (eqb x m)) [
  | inl e ↦
      ap (times i) (cond-true (eqb x m) (without m xs) (x ∷ without m xs) e)
      ∙ without_other m i xs differ
      ∙ sym (times_other i x xs (λ same. differ (sym same ∙ eqb-true x m e)))
  | inr e ↦ ap (times i) (cond-false (eqb x m) (without m xs) (x ∷ without m xs) e) ∙ keep (without_other m i xs differ) (cases_eq x i)
]
  where
    keep : times i (without m xs) ≡ times i xs → (x ≡ i) ⊎ (x ≡ i → ⊥) → times i (x ∷ without m xs) ≡ times i (x ∷ xs)
    keep ih (inl same) = subst (λ z. times i (z ∷ without m xs) ≡ times i (z ∷ xs)) (sym same) (times_same i (without m xs) ∙ ap suc ih ∙ sym (times_same i xs))
    keep ih (inr other) = times_other i x (without m xs) other ∙ ih ∙ sym (times_other i x xs other)

module _ (k : WordKind) (t : Table) (f : Fleet) (calls : List Call) where
  abbrev flag : ℕ → ℕ
  flag i = cond (is_send (call_at k t f calls i)) 1 0

  pub sends_append : (xs ys : List ℕ) → sends k t f calls (xs ++ ys) ≡ sends k t f calls xs + sends k t f calls ys
  unfolding sends
  sends_append [] ys = omega arith
  sends_append (x ∷ xs) ys = omega (arith, sends_append xs ys)

  pub sends_none : sends k t f calls [] ≡ 0
  unfolding sends
  sends_none = refl

  pub sends_one_more : (x : ℕ) (xs : List ℕ) → sends k t f calls (x ∷ xs) ≡ flag x + sends k t f calls xs
  unfolding sends
  sends_one_more x xs = refl

  pub sends_push : (xs : List ℕ) (x : ℕ) → sends k t f calls (xs ++ x ∷ []) ≡ sends k t f calls xs + flag x
  sends_push xs x = omega (arith, sends_append xs (x ∷ []), sends_one_more x [], sends_none)

  sends_without : (m : ℕ) (xs : List ℕ) → sends k t f calls xs ≤ sends k t f calls (without m xs) + cond (is_send (call_at k t f calls m)) (times m xs) 0
  unfolding without
  sends_without m [] = omega (arith, sends_none)
  sends_without m (x ∷ xs) = elim (cases_Bool (eqb x m)) [
    | inl e ↦ gone (eqb-true x m e) (ap (sends k t f calls) (cond-true (eqb x m) (without m xs) (x ∷ without m xs) e)) (sends_without m xs)
    | inr e ↦ stays (eqb-false x m e) (ap (sends k t f calls) (cond-false (eqb x m) (without m xs) (x ∷ without m xs) e)) (sends_without m xs)
  ]
    where
      flagged : (b : Bool) (y : ℕ) → cond b (suc y) 0 ≡ cond b 1 0 + cond b y 0
      flagged true y = omega arith
      flagged false y = omega arith

      gone : x ≡ m → sends k t f calls (without m (x ∷ xs)) ≡ sends k t f calls (without m xs) → sends k t f calls xs ≤ sends k t f calls (without m xs) + cond (is_send (call_at k t f calls m)) (times m xs) 0 → sends k t f calls (x ∷ xs) ≤ sends k t f calls (without m (x ∷ xs)) + cond (is_send (call_at k t f calls m)) (times m (x ∷ xs)) 0
      gone same is ih =
          let more : times m (x ∷ xs) ≡ suc (times m xs) = ap (λ z. times m (z ∷ xs)) same ∙ times_same m xs in
          let one : cond (is_send (call_at k t f calls m)) (times m (x ∷ xs)) 0 ≡ flag m + cond (is_send (call_at k t f calls m)) (times m xs) 0 = ap (λ z. cond (is_send (call_at k t f calls m)) z 0) more ∙ flagged (is_send (call_at k t f calls m)) (times m xs) in
          omega (arith, is, ih, one, sends_one_more x xs, ap flag same)

      stays : x ≢ m → sends k t f calls (without m (x ∷ xs)) ≡ sends k t f calls (x ∷ without m xs) → sends k t f calls xs ≤ sends k t f calls (without m xs) + cond (is_send (call_at k t f calls m)) (times m xs) 0 → sends k t f calls (x ∷ xs) ≤ sends k t f calls (without m (x ∷ xs)) + cond (is_send (call_at k t f calls m)) (times m (x ∷ xs)) 0
      stays differ is ih =
          omega (arith, is, ih, sends_one_more x xs, sends_one_more x (without m xs), ap (λ z. cond (is_send (call_at k t f calls m)) z 0) (times_other m x xs differ))

  module _ (is_sound : sound t ≡ true) (new : New k t f) where
    -- the number of a send
    pub sent_of : (i : ℕ) → event k t f calls i ≡ true → is_send (call_at k t f calls i) ≡ true → (s : ℕ) × Sent k t f calls is_sound new i s (carrier k t f calls i).next
    sent_of i is sending =
        let c = send_of (call_at k t f calls i) sending in
        (c.0, record { is = event_at k t f calls c.0 i is (ap (λ z. is_at z c.0) c.1 ∙ eq-eqb c.0 c.0 refl); call = c.1; number = refl })

    next_flag : (i : ℕ) → event k t f calls i ≡ true → (carrier k t f calls i).next + flag i ≤ (carrier k t f calls (suc i)).next
    next_flag i is = elim (cases_Bool (is_send (call_at k t f calls i))) [
      | inl sending ↦ omega (arith, ap {B = ℕ} (λ b. cond b 1 0) sending, sent_next k t f calls is_sound new i (sent_of i is sending).0 (carrier k t f calls i).next (sent_of i is sending).1)
      | inr other ↦ omega (arith, ap {B = ℕ} (λ b. cond b 1 0) other, next_more k t f calls is_sound new i)
    ]

    -- events that stand at most once in a list have no more sends than there were
    sends_few : (m : ℕ) (xs : List ℕ) → ((i : ℕ) → times i xs ≤ cond (event k t f calls i) 1 0) → ((i : ℕ) → m ≤ i → times i xs ≡ 0) → sends k t f calls xs ≤ (carrier k t f calls m).next
    sends_few zero [] once past = omega (arith, sends_none)
    sends_few zero (x ∷ xs) once past = let z : ⊥ = omega (arith, past x (omega arith), times_same x xs) in absurd z
    sends_few (suc m) xs once past =
        let rest = sends_few m (without m xs) fewer gone in
        more rest (cases_Bool (event k t f calls m))
      where
        fewer : (i : ℕ) → times i (without m xs) ≤ cond (event k t f calls i) 1 0
        fewer i = elim (cases_eq i m) [
          | inl same ↦ omega (arith, ap (λ z. times z (without m xs)) same, without_same m xs)
          | inr differ ↦ omega (arith, without_other m i xs differ, once i)
        ]

        gone : (i : ℕ) → m ≤ i → times i (without m xs) ≡ 0
        gone i le = elim (cases_eq i m) [
          | inl same ↦ ap (λ z. times z (without m xs)) same ∙ without_same m xs
          | inr differ ↦ without_other m i xs differ ∙ past i (omega arith)
        ]

        counted : (b : Bool) (y : ℕ) → y ≤ 1 → cond b y 0 ≤ cond b 1 0
        counted true y le = le
        counted false y le = omega arith

        absent : (b : Bool) (y : ℕ) → y ≡ 0 → cond b y 0 ≡ 0
        absent true y e = e
        absent false y e = refl

        more : sends k t f calls (without m xs) ≤ (carrier k t f calls m).next → (event k t f calls m ≡ true) ⊎ (event k t f calls m ≡ false) → sends k t f calls xs ≤ (carrier k t f calls (suc m)).next
        more rest (inl is) =
            let one : times m xs ≤ 1 = omega (arith, once m, ap {B = ℕ} (λ b. cond b 1 0) is) in
            omega (arith, rest, sends_without m xs, counted (is_send (call_at k t f calls m)) (times m xs) one, next_flag m is)
        more rest (inr nothing) =
            let zero_times : times m xs ≡ 0 = omega (arith, once m, ap {B = ℕ} (λ b. cond b 1 0) nothing) in
            omega (arith, rest, sends_without m xs, absent (is_send (call_at k t f calls m)) (times m xs) zero_times, next_more k t f calls is_sound new m)

    -- the numbers of a carrier never pass the last

    space_sent : (g : Fleet) (c : Call) (s : ℕ) → c ≡ send_call s → is_ok (answer k t g c) ≡ true → no_space g.carrier ≡ false
    space_sent g c s is = subst (λ z. is_ok (answer k t g z) ≡ true → no_space g.carrier ≡ false) (sym is) (λ ok. (clears _ _ _ (event_room k t g s _ (ok_none _ _ ok)).2).0)

    next_last : (i : ℕ) → (carrier k t f calls i).next ≤ last_number
    next_last zero = omega (arith, first_next)
      where
        first_next : (carrier k t f calls 0).next ≡ 0
        first_next = ap (λ z. z.next) (carrier_first k t f calls) ∙ new.next
    next_last (suc i) = elim (cases_lt i (length calls)) [
      | inr past ↦ omega (arith, next_last i, ap (λ z. z.carrier.next) (fleet_past k t f calls i past), ap (λ z. z.next) (carrier_is k t f calls (suc i)), ap (λ z. z.next) (carrier_is k t f calls i))
      | inl below ↦ omega (arith, grown (carries k t (fleet_at k t f calls i) (kept_at k t f calls is_sound new i) (call_at k t f calls i)) (omega (arith, next_last i, ap (λ z. z.next) (carrier_is k t f calls i))), ap (λ z. z.carrier.next) (fleet_step k t f calls i below), ap (λ z. z.next) (carrier_is k t f calls (suc i)))
    ]
      where
        grown : Carries k t (fleet_at k t f calls i) (kept_at k t f calls is_sound new i) (call_at k t f calls i) → (fleet_at k t f calls i).carrier.next ≤ last_number → (called k t (fleet_at k t f calls i) (call_at k t f calls i)).carrier.next ≤ last_number
        grown (unmoved is) le = omega (arith, ap (λ z. z.next) is)
        grown (puts s send_is ok is) le =
            let free = or_parts (eqb (length (fleet_at k t f calls i).carrier.held) (fleet_at k t f calls i).carrier.capacity) (eqb (fleet_at k t f calls i).carrier.next last_number) (space_sent (fleet_at k t f calls i) (call_at k t f calls i) s send_is ok) in
            omega (arith, ap (λ z. z.next) is, eqb-false (fleet_at k t f calls i).carrier.next last_number free.1)
        grown (retires x call is) le = omega (arith, ap (λ z. z.next) is)

    module _ (order : List ℕ) (allowed : Allowed k t f calls order) where
      pub order_sends : sends k t f calls order ≤ last_number
      order_sends =
          let few = sends_few (length calls) order (λ i. omega (arith, allowed.once i)) (λ i past. allowed.once i ∙ ap {B = ℕ} (λ b. cond b 1 0) (no_event i past)) in
          omega (arith, few, next_last (length calls))
        where
          no_event : (i : ℕ) → length calls ≤ i → event k t f calls i ≡ false
          no_event i past = elim (cases_Bool (event k t f calls i)) [
            | inl is ↦ let z : ⊥ = omega (arith, event_below k t f calls i is) in absurd z
            | inr nothing ↦ nothing
          ]

    -- The number of a send in an order

    sent_is : (i s x : ℕ) → Sent k t f calls is_sound new i s x → sent_as k t f calls x i ≡ true
    sent_is i s x sent =
        and_from _ _ (of_event k t f calls s i sent.is)
        (and_from _ _ (ap is_send sent.call) (ap (λ z. answers_number z x) (sent_answer k t f calls is_sound new i s x sent) ∙ eq-eqb x x refl))

    number_some : (o : Option ℕ) (x : ℕ) → answers_number o x ≡ true → o ≡ Some x
    number_some None x is = absurd (both_ways false refl is)
    number_some (Some y) x is = ap (λ z. Some z) (eqb-true y x is)

    is_sent : (i x : ℕ) → sent_as k t f calls x i ≡ true → (s : ℕ) × Sent k t f calls is_sound new i s x
    is_sent i x is =
        let p = and_parts _ _ is in
        let q = and_parts _ _ p.1 in
        let c = send_of (call_at k t f calls i) q.0 in
        (c.0, sent_from_answer k t f calls is_sound new i c.0 x p.0 c.1 (number_some _ x q.1))

    pub number_in : (pre rest : List ℕ) (e s x : ℕ) → Sent k t f calls is_sound new e s x → times e pre ≡ 0 → new_number k t f calls (pre ++ (e ∷ rest)) x ≡ sends k t f calls pre
    unfolding new_number
    number_in [] rest e s x sent none_yet = cond-true (sent_as k t f calls x e) _ _ (sent_is e s x sent) ∙ sym sends_none
    number_in (y ∷ pre) rest e s x sent none_yet = elim (cases_eq y e) [
      | inl same ↦ let z : ⊥ = omega (arith, none_yet, ap (λ z. times e (z ∷ pre)) same, times_same e pre) in absurd z
      | inr differ ↦
          cond-false (sent_as k t f calls x y) _ _ (another differ (cases_Bool (sent_as k t f calls x y)))
          ∙ ap (λ z. flag y + z) (number_in pre rest e s x sent (sym (times_other e y pre differ) ∙ none_yet))
          ∙ sym (sends_one_more y pre)
    ]
      where
        another : y ≢ e → (sent_as k t f calls x y ≡ true) ⊎ (sent_as k t f calls x y ≡ false) → sent_as k t f calls x y ≡ false
        another differ (inr not-sent) = not-sent
        another differ (inl is) = absurd (differ (sent_once k t f calls is_sound new y e (is_sent y x is).0 s x (is_sent y x is).1 sent))
