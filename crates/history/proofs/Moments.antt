-- What each call of a list does to the blocks and the carrier of a new fleet. Assumes nothing.
use Rattle.std.proofs.Common.{◌≡◌, ℕ, suc, ◌+◌, ◌*◌, ◌<◌, ◌≤◌, Bool, true, false, cond, eqb, ◌≢◌, ◌⊎◌, List, [], ◌∷◌, ◌++◌, length, get_or, take, is_ok, Some, Ok, Option, sym, refl, ap, ◌∙◌, subst, inl, inr, arith}
use Rattle.std.proofs.ByRecursion.{All-push}
use Rattle.std.proofs.lemmas.List.{take_all, take_more}
use Rattle.std.proofs.lemmas.Bool.{and_parts, and_from, and_right, both_ways, cases_Bool, cases_lt, cases_eq, eqb-false, eqb-true, eq-eqb, lt-ltb, ltb-true}
use Rattle.std.specs.List.{AllByRecursion}
use Rattle.table.specs.Tables.{Table, sound}
use Rattle.step.specs.Nodes.{WordKind}
use Rattle.step.specs.Opening.{opened}
use Rattle.step.specs.Records.{hand_length}
use Rattle.step.specs.Steps.{Act, Fitting, send, acted_block, advanced, max_count, own_count}
use Rattle.carriers.specs.Meanings.{Held, Meaning, copies_but, copy_under, with_copy, without_copy}
use Rattle.history.specs.Calls.{Call, set_call, send_call, receive_call, retire_call, Fleet, answer, block_at, block_size, called, copy_of, event_reply, put_block, ran, stepped}
use Rattle.history.specs.Orders.{New}
use Rattle.history.specs.Runs.{answer_at, call_at, event, event_of, fleet_at, is_at, is_retire, no_call}
use Rattle.history.proofs.BlockSteps.{Makes, makes_receive, makes_send, makes_set, copy_long, step_fits}
use Rattle.history.proofs.Calling.{Does, sets, sends, receives, Done, Doing, called_ok, called_refused, done, ok_none, some_none}
use Rattle.history.proofs.Carrier.{Below, all_but, all_under, under_but_other, under_but_same, with_below, with_next, with_other, without_below}
use Rattle.history.proofs.Memory as memory

-- The calls of a list, one after another

module _ (k : WordKind) (t : Table) where
  pub ran_append : (f : Fleet) (xs ys : List Call) → ran k t f (xs ++ ys) ≡ ran k t (ran k t f xs) ys
  unfolding ran
  ran_append f [] ys = refl
  ran_append f (x ∷ xs) ys = ran_append (called k t f x) xs ys

  pub ran_push : (f : Fleet) (xs : List Call) (c : Call) → ran k t f (xs ++ c ∷ []) ≡ called k t (ran k t f xs) c
  unfolding ran
  ran_push f xs c = ran_append f xs (c ∷ [])

  -- What every call keeps: the memory's length, and copies of a hand's length under numbers that were given out
  pub record Kept (g : Fleet) : Type 0 where
    pub long : length g.memory ≡ t.switches * block_size k t
    pub numbered : Below g.carrier.next g.carrier.held
    pub copies : AllByRecursion (λ (h : Held). length h.1 ≡ hand_length t.switches (length t.nodes)) g.carrier.held

  module _ (g : Fleet) (kept : Kept g) where
    room : t.switches * block_size k t ≤ length g.memory
    room = omega (arith, kept.long)

    pub does_makes : (c : Call) (s : ℕ) (a : Act) → Does k t g c s a → Makes t a
    does_makes c s a (sets r w is acts below) = subst (Makes t) (sym acts) (makes_set t r w below)
    does_makes c s a (sends is acts space) = subst (Makes t) (sym acts) (makes_send t)
    does_makes c s a (receives x copy is acts found) =
        subst (Makes t) (sym acts) (makes_receive t copy (all_under (λ z. length z ≡ hand_length t.switches (length t.nodes)) x g.carrier.held kept.copies copy found))

    pub block_is : (s : ℕ) → s < t.switches → Fitting t s (block_at k t g.memory s)
    block_is s below = memory.block_fits k t g.memory room s below

    step_long : (s : ℕ) → s < t.switches → (a : Act) → Makes t a → length (stepped k t g s a) ≡ block_size k t
    step_long s below a makes = (step_fits k t s (block_at k t g.memory s) (block_is s below) a makes).shape

    put_kept : (s : ℕ) → s < t.switches → (a : Act) → Makes t a → length (put_block k t g.memory s (stepped k t g s a)) ≡ t.switches * block_size k t
    put_kept s below a makes = memory.put_long k t g.memory room s below (stepped k t g s a) (step_long s below a makes) ∙ kept.long

    apart : (s j : ℕ) → eqb s j ≡ false → j ≢ s
    apart s j away e = eqb-false s j away (sym e)

    pub own_block : (s : ℕ) → s < t.switches → (a : Act) → Makes t a → block_at k t (put_block k t g.memory s (stepped k t g s a)) s ≡ stepped k t g s a
    own_block s below a makes = memory.put_own k t g.memory room s below (stepped k t g s a) (step_long s below a makes)

    pub other_block : (s : ℕ) → s < t.switches → (a : Act) → Makes t a → (j : ℕ) → j ≢ s → block_at k t (put_block k t g.memory s (stepped k t g s a)) j ≡ block_at k t g.memory j
    other_block s below a makes j differ = memory.put_others k t g.memory room s below (stepped k t g s a) (step_long s below a makes) j differ

    other_done : (c : Call) (s : ℕ) → Doing k t g c s → (j : ℕ) → j ≢ s → block_at k t (called k t g c).memory j ≡ block_at k t g.memory j
    other_done c s (a, x, d) j differ = ap (λ z. block_at k t z j) d.memory ∙ other_block s d.below a (does_makes c s a d.does) j differ

    kept_done : (c : Call) (s : ℕ) (a : Act) (x : Option ℕ) → Done k t g c s a x → length (called k t g c).memory ≡ t.switches * block_size k t
    kept_done c s a x d = ap length d.memory ∙ put_kept s d.below a (does_makes c s a d.does)

    kept_ok : (c : Call) → is_ok (answer k t g c) ≡ true → Kept (called k t g c)
    kept_ok (set_call s r w) ok =
        let d = done k t g (set_call s r w) s ok (eq-eqb s s refl) in
        let is = ap (λ z. z.carrier) (called_ok k t g (set_call s r w) (ok_none _ _ ok)) in
        record {
          long = kept_done (set_call s r w) s d.0 d.1 d.2;
          numbered = subst (λ z. Below z.next z.held) (sym is) kept.numbered;
          copies = subst (λ z. AllByRecursion (λ (h : Held). length h.1 ≡ hand_length t.switches (length t.nodes)) z.held) (sym is) kept.copies;
        }
    kept_ok (send_call s) ok =
        let d = done k t g (send_call s) s ok (eq-eqb s s refl) in
        let is = ap (λ z. z.carrier) (called_ok k t g (send_call s) (ok_none _ _ ok)) in
        let copy = copy_of k t s (stepped k t g s send) in
        let long = copy_long k t s (stepped k t g s send) (step_long s d.2.below send (makes_send t)) in
        record {
          long = kept_done (send_call s) s d.0 d.1 d.2;
          numbered = subst (λ z. Below z.next z.held) (sym is) (with_below g.carrier kept.numbered copy);
          copies = subst (λ z. AllByRecursion (λ (h : Held). length h.1 ≡ hand_length t.switches (length t.nodes)) z.held) (sym is) (All-push (λ (h : Held). length h.1 ≡ hand_length t.switches (length t.nodes)) g.carrier.held (g.carrier.next, copy) kept.copies long);
        }
    kept_ok (receive_call s x) ok =
        let d = done k t g (receive_call s x) s ok (eq-eqb s s refl) in
        let is = ap (λ z. z.carrier) (called_ok k t g (receive_call s x) (ok_none _ _ ok)) in
        record {
          long = kept_done (receive_call s x) s d.0 d.1 d.2;
          numbered = subst (λ z. Below z.next z.held) (sym is) kept.numbered;
          copies = subst (λ z. AllByRecursion (λ (h : Held). length h.1 ≡ hand_length t.switches (length t.nodes)) z.held) (sym is) kept.copies;
        }
    kept_ok (retire_call x) ok =
        let is = called_ok k t g (retire_call x) (ok_none _ _ ok) in
        record {
          long = ap (λ z. length z.memory) is ∙ kept.long;
          numbered = subst (λ z. Below z.carrier.next z.carrier.held) (sym is) (without_below g.carrier kept.numbered x);
          copies = subst (λ z. AllByRecursion (λ (h : Held). length h.1 ≡ hand_length t.switches (length t.nodes)) z.carrier.held) (sym is) (all_but (λ (h : Held). length h.1 ≡ hand_length t.switches (length t.nodes)) x g.carrier.held kept.copies);
        }

    pub kept_called : (c : Call) → Kept (called k t g c)
    kept_called c = elim (cases_Bool (is_ok (answer k t g c))) [
      | inl ok ↦ kept_ok c ok
      | inr bad ↦ subst Kept (sym (called_refused k t g c bad)) kept
    ]

    -- a call at another switch leaves the block of j
    pub other_kept : (c : Call) → is_ok (answer k t g c) ≡ true → (j : ℕ) → is_at c j ≡ false → block_at k t (called k t g c).memory j ≡ block_at k t g.memory j
    other_kept (set_call s r w) ok j away = other_done (set_call s r w) s (done k t g (set_call s r w) s ok (eq-eqb s s refl)) j (apart s j away)
    other_kept (send_call s) ok j away = other_done (send_call s) s (done k t g (send_call s) s ok (eq-eqb s s refl)) j (apart s j away)
    other_kept (receive_call s x) ok j away = other_done (receive_call s x) s (done k t g (receive_call s x) s ok (eq-eqb s s refl)) j (apart s j away)
    other_kept (retire_call x) ok j away = ap (λ z. block_at k t z.memory j) (called_ok k t g (retire_call x) (ok_none _ _ ok))

    -- What a call does to the carrier

    pub data Carries (c : Call) : Type 0 where
      unmoved : (called k t g c).carrier ≡ g.carrier → Carries c
      puts : (s : ℕ) → c ≡ send_call s → is_ok (answer k t g c) ≡ true → (called k t g c).carrier ≡ with_copy g.carrier (copy_of k t s (stepped k t g s send)) → Carries c
      retires : (x : ℕ) → c ≡ retire_call x → (called k t g c).carrier ≡ without_copy g.carrier x → Carries c

    carries_ok : (c : Call) → is_ok (answer k t g c) ≡ true → Carries c
    carries_ok (set_call s r w) ok = unmoved (ap (λ z. z.carrier) (called_ok k t g (set_call s r w) (ok_none _ _ ok)))
    carries_ok (send_call s) ok = puts s refl ok (ap (λ z. z.carrier) (called_ok k t g (send_call s) (ok_none _ _ ok)))
    carries_ok (receive_call s x) ok = unmoved (ap (λ z. z.carrier) (called_ok k t g (receive_call s x) (ok_none _ _ ok)))
    carries_ok (retire_call x) ok = retires x refl (ap (λ z. z.carrier) (called_ok k t g (retire_call x) (ok_none _ _ ok)))

    pub carries : (c : Call) → Carries c
    carries c = elim (cases_Bool (is_ok (answer k t g c))) [
      | inl ok ↦ carries_ok c ok
      | inr bad ↦ unmoved (ap (λ z. z.carrier) (called_refused k t g c bad))
    ]

    pub next_grows : (c : Call) → g.carrier.next ≤ (called k t g c).carrier.next
    next_grows c = grows (carries c)
      where
        grows : Carries c → g.carrier.next ≤ (called k t g c).carrier.next
        grows (unmoved is) = omega (arith, ap (λ z. z.next) is)
        grows (puts s send_is ok is) = omega (arith, ap (λ z. z.next) is)
        grows (retires x call is) = omega (arith, ap (λ z. z.next) is)

    -- the copy that a call puts
    pub record Puts (c : Call) (x : ℕ) (copy : List ℕ) : Type 0 where
      pub switch : ℕ
      pub send_is : c ≡ send_call switch
      pub ok : is_ok (answer k t g c) ≡ true
      pub number : x ≡ g.carrier.next
      pub copy_is : copy ≡ copy_of k t switch (stepped k t g switch send)

    -- a copy that is held after a call was held before, or the call put it
    pub held_before : (c : Call) (x : ℕ) (copy : List ℕ) → copy_under x (called k t g c).carrier.held ≡ Some copy → (copy_under x g.carrier.held ≡ Some copy) ⊎ Puts c x copy
    held_before c x copy found = from (carries c)
      where
        from : Carries c → (copy_under x g.carrier.held ≡ Some copy) ⊎ Puts c x copy
        from (unmoved is) = inl (ap (λ z. copy_under x z.held) (sym is) ∙ found)
        from (puts s send_is ok is) =
            let new = copy_of k t s (stepped k t g s send) in
            let in_new : copy_under x (with_copy g.carrier new).held ≡ Some copy = ap (λ z. copy_under x z.held) (sym is) ∙ found in
            elim (cases_eq x g.carrier.next) [
              | inl e ↦
                  let both : ◌≡◌ {A = Option (List ℕ)} (Some new) (Some copy) = sym (with_next g.carrier kept.numbered new) ∙ ap (λ z. copy_under z (with_copy g.carrier new).held) (sym e) ∙ in_new in
                  inr (record { switch = s; send_is = send_is; ok = ok; number = e; copy_is = cc both })
              | inr differ ↦ inl (sym (with_other g.carrier kept.numbered new x differ) ∙ in_new)
            ]
        from (retires y call is) =
            let left : copy_under x (copies_but y g.carrier.held) ≡ Some copy = ap (λ z. copy_under x z.held) (sym is) ∙ found in
            elim (cases_eq x y) [
              | inl e ↦ some_none copy (sym left ∙ ap (λ z. copy_under x (copies_but z g.carrier.held)) (sym e) ∙ under_but_same x g.carrier.held)
              | inr differ ↦ inl (sym (under_but_other x y g.carrier.held differ) ∙ left)
            ]

  pub kept_ran : (g : Fleet) → Kept g → (cs : List Call) → Kept (ran k t g cs)
  unfolding ran
  kept_ran g kept [] = kept
  kept_ran g kept (c ∷ cs) = kept_ran (called k t g c) (kept_called g kept c) cs

  pub kept_new : sound t ≡ true → (f : Fleet) → New k t f → Kept f
  kept_new is_sound f new = record {
    long = ap length new.memory ∙ memory.first_long k t is_sound;
    numbered = subst (Below f.carrier.next) (sym new.held) tt;
    copies = subst (AllByRecursion (λ (h : Held). length h.1 ≡ hand_length t.switches (length t.nodes))) (sym new.held) tt;
  }

-- The moments of a run

module _ (k : WordKind) (t : Table) (f : Fleet) (calls : List Call) where
  -- the block of s before call i
  unfoldable pub block : ℕ → ℕ → List ℕ
  block i s = block_at k t (fleet_at k t f calls i).memory s

  -- the carrier before call i
  unfoldable pub carrier : ℕ → Meaning
  carrier i = (fleet_at k t f calls i).carrier

  pub block_says : (i s : ℕ) → block i s ≡ block_at k t (fleet_at k t f calls i).memory s
  unfolding block
  block_says i s = refl

  pub carrier_is : (i : ℕ) → carrier i ≡ (fleet_at k t f calls i).carrier
  unfolding carrier
  carrier_is i = refl

  pub carrier_first : carrier 0 ≡ f.carrier
  unfolding carrier fleet_at ran
  carrier_first = refl

  pub fleet_step : (i : ℕ) → i < length calls → fleet_at k t f calls (suc i) ≡ called k t (fleet_at k t f calls i) (call_at k t f calls i)
  unfolding fleet_at call_at
  fleet_step i below =
      let one : suc i ≡ i + 1 = omega arith in
      ap (λ z. ran k t f (take z calls)) one ∙ ap (ran k t f) (take_more calls i no_call below) ∙ ran_push k t f (take i calls) (get_or calls i no_call)

  pub fleet_past : (i : ℕ) → length calls ≤ i → fleet_at k t f calls (suc i) ≡ fleet_at k t f calls i
  unfolding fleet_at
  fleet_past i past = ap (ran k t f) (take_all (suc i) calls (omega arith) ∙ sym (take_all i calls past))

  pub call_is : (i : ℕ) → answer_at k t f calls i ≡ answer k t (fleet_at k t f calls i) (call_at k t f calls i)
  unfolding answer_at
  call_is i = refl

  event_parts : (i : ℕ) → event k t f calls i ≡ true → (i < length calls) × (is_ok (answer_at k t f calls i) ≡ true) × (is_retire (call_at k t f calls i) ≡ false)
  unfolding event
  event_parts i is =
      let one = and_parts _ _ is in
      let two = and_parts _ _ one.1 in
      (ltb-true _ _ one.0, two.0, kept_false _ two.1)
    where
      kept_false : (b : Bool) → cond b false true ≡ true → b ≡ false
      kept_false true e = absurd (both_ways false refl e)
      kept_false false e = refl

  pub event_below : (i : ℕ) → event k t f calls i ≡ true → i < length calls
  event_below i is = (event_parts i is).0

  pub event_accepted : (i : ℕ) → event k t f calls i ≡ true → is_ok (answer_at k t f calls i) ≡ true
  event_accepted i is = (event_parts i is).1

  pub of_event : (s i : ℕ) → event_of k t f calls s i ≡ true → event k t f calls i ≡ true
  unfolding event_of
  of_event s i is = (and_parts _ _ is).0

  pub of_switch : (s i : ℕ) → event_of k t f calls s i ≡ true → is_at (call_at k t f calls i) s ≡ true
  unfolding event_of
  of_switch s i is = (and_parts _ _ is).1

  pub event_at : (s i : ℕ) → event k t f calls i ≡ true → is_at (call_at k t f calls i) s ≡ true → event_of k t f calls s i ≡ true
  unfolding event_of
  event_at s i is at = and_from _ _ is at

  pub not_at : (s i : ℕ) → is_at (call_at k t f calls i) s ≡ false → event_of k t f calls s i ≡ false
  unfolding event_of
  not_at s i away = and_right _ _ away

  at_retire : (c : Call) (s : ℕ) → is_at c s ≡ true → is_retire c ≡ false
  at_retire (set_call s g w) j at = refl
  at_retire (send_call s) j at = refl
  at_retire (receive_call s x) j at = refl
  at_retire (retire_call x) j at = absurd (both_ways false refl at)

  -- an accepted call at a switch is an event
  pub accepted_at : (s i : ℕ) → i < length calls → is_ok (answer_at k t f calls i) ≡ true → is_at (call_at k t f calls i) s ≡ true → event_of k t f calls s i ≡ true
  unfolding event_of event
  accepted_at s i below ok at =
      and_from _ _ (and_from _ _ (lt-ltb _ _ below) (and_from _ _ ok (ap (λ b. cond b false true) (at_retire (call_at k t f calls i) s at)))) at

  -- an event is at one switch
  switch_of : Call → ℕ
  switch_of (set_call s g w) = s
  switch_of (send_call s) = s
  switch_of (receive_call s x) = s
  switch_of (retire_call x) = 0

  at_switch : (c : Call) (s : ℕ) → is_at c s ≡ true → switch_of c ≡ s
  unfolding switch_of
  at_switch (set_call s g w) j at = eqb-true s j at
  at_switch (send_call s) j at = eqb-true s j at
  at_switch (receive_call s x) j at = eqb-true s j at
  at_switch (retire_call x) j at = absurd (both_ways false refl at)

  switch_at : (c : Call) → is_retire c ≡ false → is_at c (switch_of c) ≡ true
  unfolding switch_of
  switch_at (set_call s g w) not = eq-eqb s s refl
  switch_at (send_call s) not = eq-eqb s s refl
  switch_at (receive_call s x) not = eq-eqb s s refl
  switch_at (retire_call x) not = absurd (both_ways true not refl)

  pub one_switch : (s j i : ℕ) → event_of k t f calls s i ≡ true → event_of k t f calls j i ≡ true → s ≡ j
  one_switch s j i here there = sym (at_switch (call_at k t f calls i) s (of_switch s i here)) ∙ at_switch (call_at k t f calls i) j (of_switch j i there)

  pub some_switch : (i : ℕ) → event k t f calls i ≡ true → (s : ℕ) × (event_of k t f calls s i ≡ true)
  some_switch i is =
      let c = call_at k t f calls i in
      (switch_of c, event_at (switch_of c) i is (switch_at c (event_parts i is).2))

  module _ (is_sound : sound t ≡ true) (new : New k t f) where
    pub kept_at : (i : ℕ) → Kept k t (fleet_at k t f calls i)
    unfolding fleet_at
    kept_at i = kept_ran k t f (kept_new k t is_sound f new) (take i calls)

    -- what an event at s does
    pub record Moment (s i : ℕ) : Type 0 where
      pub act : Act
      pub number : Option ℕ
      pub below : s < t.switches
      pub room : own_count (length t.nodes) s (block i s) ≢ max_count
      pub does : Does k t (fleet_at k t f calls i) (call_at k t f calls i) s act
      pub makes : Makes t act
      pub answered : answer_at k t f calls i ≡ Ok (event_reply k t (fleet_at k t f calls i) s act number)
      pub becomes : block (suc i) s ≡ advanced k t s (acted_block t s act (block i s))

    pub moment : (s i : ℕ) → event_of k t f calls s i ≡ true → Moment s i
    unfolding block
    moment s i is =
        let here = of_event s i is in
        let (a, x, d) = done k t (fleet_at k t f calls i) (call_at k t f calls i) s (ap is_ok (sym (call_is i)) ∙ event_accepted i here) (of_switch s i is) in
        let makes = does_makes k t (fleet_at k t f calls i) (kept_at i) (call_at k t f calls i) s a d.does in
        record {
          act = a;
          number = x;
          below = d.below;
          room = d.room;
          does = d.does;
          makes = makes;
          answered = call_is i ∙ d.answered;
          becomes =
              ap (λ z. block_at k t z.memory s) (fleet_step i (event_below i here))
              ∙ ap (λ z. block_at k t z s) d.memory
              ∙ own_block k t (fleet_at k t f calls i) (kept_at i) s d.below a makes;
        }

    pub fits_at : (s i : ℕ) → s < t.switches → Fitting t s (block i s)
    unfolding block
    fits_at s i below = block_is k t (fleet_at k t f calls i) (kept_at i) s below

    -- without an event at s its block stays
    pub block_kept : (s i : ℕ) → event_of k t f calls s i ≡ false → block (suc i) s ≡ block i s
    unfolding block
    block_kept s i none = elim (cases_lt i (length calls)) [
      | inr past ↦ ap (λ z. block_at k t z.memory s) (fleet_past i past)
      | inl below ↦ ap (λ z. block_at k t z.memory s) (fleet_step i below) ∙ elim (cases_Bool (is_ok (answer_at k t f calls i))) [
        | inr bad ↦ ap (λ z. block_at k t z.memory s) (called_refused k t (fleet_at k t f calls i) (call_at k t f calls i) (ap is_ok (sym (call_is i)) ∙ bad))
        | inl ok ↦ other_kept k t (fleet_at k t f calls i) (kept_at i) (call_at k t f calls i) (ap is_ok (sym (call_is i)) ∙ ok) s (away ok below)
      ]
    ]
      where
        away : is_ok (answer_at k t f calls i) ≡ true → i < length calls → is_at (call_at k t f calls i) s ≡ false
        away ok below = elim (cases_Bool (is_at (call_at k t f calls i) s)) [
          | inl at ↦ absurd (both_ways _ none (accepted_at s i below ok at))
          | inr no-at ↦ no-at
        ]

    pub block_first : (s : ℕ) → s < t.switches → block 0 s ≡ opened k t s
    unfolding block fleet_at ran
    block_first s below = ap (λ z. block_at k t z s) new.memory ∙ memory.first_block k t is_sound s below
