-- What a switch knows of another: which events it has heard of, and the record of the latest. Assumes nothing.
use Rattle.std.proofs.Common.{◌≡◌, ℕ, zero, suc, ◌<◌, ◌≤◌, Bool, true, false, cond, ◌≢◌, ◌⊎◌, ◌↔◌, List, length, Some, sym, refl, ap, ◌∙◌, subst, inl, inr, ⊎_elim, arith}
use Rattle.std.proofs.lemmas.Bool.{both_ways, cases_lt, cases_eq, ltb-true, ltb-false}
use Rattle.table.specs.Tables.{Table, sound}
use Rattle.step.proofs.OpeningMeaning.{opened_count}
use Rattle.step.specs.Nodes.{WordKind}
use Rattle.step.specs.Opening.{opened}
use Rattle.step.specs.Records.{count_of, hand_records, newer, record_of}
use Rattle.step.specs.Steps.{Act, set_register, send, receive}
use Rattle.carriers.specs.Meanings.{copy_under}
use Rattle.history.specs.Calls.{Call, set_call, send_call, receive_call, retire_call, Fleet}
use Rattle.history.specs.Orders.{New}
use Rattle.history.specs.Runs.{Before, step, chain, Nth, Precedes, next, heard, Until, call_at, event, event_of, events_of, fleet_at}
use Rattle.history.proofs.BlockSteps.{Makes, copy_record, newest, step_other, told}
use Rattle.history.proofs.Calling.{Does, sets, sends, receives}
use Rattle.history.proofs.Copies.{Sent, From, from, sent_answer, sent_from_answer, sent_once}
use Rattle.history.proofs.Counting.{Last, never, last, block_between, events_one, events_upto, last_event, lower_earlier, own_count_is, same_switch}
use Rattle.history.proofs.Memory.{first_records}
use Rattle.history.proofs.Moments.{block, block_first, carrier, carrier_is, fits_at, moment, of_event, of_switch, event_at, one_switch, some_switch}

-- the number of a receive
receive_number : Call → ℕ
receive_number (set_call s g w) = 0
receive_number (send_call s) = 0
receive_number (receive_call s x) = x
receive_number (retire_call x) = 0

received : (c : Call) (r s x y : ℕ) → c ≡ receive_call r x → c ≡ receive_call s y → x ≡ y
unfolding receive_number
received c r s x y one two = ap receive_number (sym one ∙ two)

is_receive : Call → Bool
is_receive (set_call s g w) = false
is_receive (send_call s) = false
is_receive (receive_call s x) = true
is_receive (retire_call x) = false

set_no_receive : {X : Type 0} (c : Call) (r s x g w : ℕ) → c ≡ receive_call r x → c ≡ set_call s g w → X
unfolding is_receive
set_no_receive c r s x g w one two = absurd (both_ways _ (ap is_receive two) (ap is_receive one))

send_no_receive : {X : Type 0} (c : Call) (r s x : ℕ) → c ≡ receive_call r x → c ≡ send_call s → X
unfolding is_receive
send_no_receive c r s x one two = absurd (both_ways _ (ap is_receive two) (ap is_receive one))

module _ (k : WordKind) (t : Table) (f : Fleet) (calls : List Call) (is_sound : sound t ≡ true) (new : New k t f) where
  -- record j of the block of s before call i
  abbrev pub known : ℕ → ℕ → ℕ → List ℕ
  known i s j = record_of (length t.nodes) (block k t f calls i s) j

  -- the record of j in its first state
  abbrev pub first : ℕ → List ℕ
  first j = record_of (length t.nodes) (opened k t j) j

  -- Direct precedence

  -- an event that is no receive
  pub record Alone (e s : ℕ) : Type 0 where
    pub others : (j : ℕ) → j < t.switches → j ≢ s → known (suc e) s j ≡ known e s j
    pub precede : (q : ℕ) → Precedes k t f calls q e → (event_of k t f calls s q ≡ true) × (q < e)

  -- a receive of what event i sent
  pub record Hears (e s : ℕ) : Type 0 where
    pub place : ℕ
    pub sender : ℕ
    pub number : ℕ
    pub sent : Sent k t f calls is_sound new place sender number
    pub call : call_at k t f calls e ≡ receive_call s number
    pub earlier : place < e
    pub precedes : Precedes k t f calls place e
    pub others : (j : ℕ) → j < t.switches → j ≢ s → known (suc e) s j ≡ newest (known (suc place) sender j) (known e s j)
    pub precede : (q : ℕ) → Precedes k t f calls q e → ((event_of k t f calls s q ≡ true) × (q < e)) ⊎ (q ≡ place)

  next_from : (e s : ℕ) → event_of k t f calls s e ≡ true → (r n q : ℕ) → Nth k t f calls r n q → Nth k t f calls r (suc n) e → (event_of k t f calls s q ≡ true) × (q < e)
  next_from e s here r n q one two =
      let same : r ≡ s = one_switch k t f calls r s e two.is here in
      let earlier : q < e = elim (cases_lt q e) [
        | inl less ↦ less
        | inr le ↦
            let both = lower_earlier k t f calls r q e two.is (omega (arith, one.place, two.place)) in
            let e_is : q ≡ e = omega arith in
            let z : ⊥ = omega (arith, one.place, two.place, ap (events_of k t f calls r) e_is) in
            absurd z
      ] in
      (subst (λ z. event_of k t f calls z q ≡ true) same one.is, earlier)

  alone : (e s : ℕ) → event_of k t f calls s e ≡ true → ((r x : ℕ) → call_at k t f calls e ≡ receive_call r x → ⊥) → (q : ℕ) → Precedes k t f calls q e → (event_of k t f calls s q ≡ true) × (q < e)
  alone e s here not q (next r n i j one two) = next_from e s here r n q one two
  alone e s here not q (heard r p x i j at there call says gets) = absurd (not p x gets)

  pub look_back : (e s : ℕ) → event_of k t f calls s e ≡ true → Alone e s ⊎ Hears e s
  look_back e s here = way m.act m.makes m.becomes m.does
    where
      m : Rattle.history.proofs.Moments.Moment k t f calls is_sound new s e
      m = moment k t f calls is_sound new s e here

      fits : Rattle.step.specs.Steps.Fitting t s (block k t f calls e s)
      fits = fits_at k t f calls is_sound new s e m.below

      after : (a : Act) → Makes t a → block k t f calls (suc e) s ≡ Rattle.step.specs.Steps.advanced k t s (Rattle.step.specs.Steps.acted_block t s a (block k t f calls e s)) → (j : ℕ) → j < t.switches → j ≢ s → known (suc e) s j ≡ told (length t.nodes) a (block k t f calls e s) j
      after a makes becomes j below differ = ap (λ z. record_of (length t.nodes) z j) becomes ∙ step_other k t s (block k t f calls e s) fits a makes j below differ

      gets : (x : ℕ) (copy : List ℕ) → call_at k t f calls e ≡ receive_call s x → ((j : ℕ) → j < t.switches → j ≢ s → known (suc e) s j ≡ told (length t.nodes) (receive copy) (block k t f calls e s) j) → From k t f calls is_sound new e x copy → Hears e s
      gets x copy call others b = record {
        place = b.place;
        sender = b.switch;
        number = x;
        sent = b.sent;
        call = call;
        earlier = b.earlier;
        precedes = heard b.switch s x b.place e (of_event k t f calls b.switch b.place b.sent.is) (of_event k t f calls s e here) b.sent.call (sent_answer k t f calls is_sound new b.place b.switch x b.sent) call;
        others = λ j below differ.
            others j below differ
            ∙ ap (λ z. newest (record_of (length t.nodes) (hand_records z) j) (known e s j)) b.copy_is
            ∙ ap (λ z. newest z (known e s j)) (copy_record k t b.switch (block k t f calls (suc b.place) b.switch) (fits_at k t f calls is_sound new b.switch (suc b.place) (moment k t f calls is_sound new b.switch b.place b.sent.is).below).shape j below);
        precede = λ q p. back q p;
      }
        where
          back : (q : ℕ) → Precedes k t f calls q e → ((event_of k t f calls s q ≡ true) × (q < e)) ⊎ (q ≡ b.place)
          back q (next r n i j one two) = inl (next_from e s here r n q one two)
          back q (heard r p y i j at there sends-is says hears) =
              inr (sent_once k t f calls is_sound new q b.place r b.switch x
              (sent_from_answer k t f calls is_sound new q r x at sends-is (says ∙ ap (λ z. Some z) (received (call_at k t f calls e) p s y x hears call)))
              b.sent)

      way : (a : Act) → Makes t a → block k t f calls (suc e) s ≡ Rattle.step.specs.Steps.advanced k t s (Rattle.step.specs.Steps.acted_block t s a (block k t f calls e s)) → Does k t (fleet_at k t f calls e) (call_at k t f calls e) s a → Alone e s ⊎ Hears e s
      way a makes becomes (sets g w is acts small) = inl (record {
        others = λ j below differ. after a makes becomes j below differ ∙ ap (λ z. told (length t.nodes) z (block k t f calls e s) j) acts;
        precede = alone e s here (λ r x got. set_no_receive (call_at k t f calls e) r s x g w got is);
      })
      way a makes becomes (sends is acts space) = inl (record {
        others = λ j below differ. after a makes becomes j below differ ∙ ap (λ z. told (length t.nodes) z (block k t f calls e s) j) acts;
        precede = alone e s here (λ r x got. send_no_receive (call_at k t f calls e) r s x got is);
      })
      way a makes becomes (receives x copy is acts found) =
          inr (gets x copy is
          (λ j below differ. after a makes becomes j below differ ∙ ap (λ z. told (length t.nodes) z (block k t f calls e s) j) acts)
          (from k t f calls is_sound new e x copy (ap (λ z. copy_under x z.held) (carrier_is k t f calls e) ∙ found)))

  pub precedes_event : (q e : ℕ) → Precedes k t f calls q e → event k t f calls e ≡ true
  precedes_event q e (next r n i j one two) = of_event k t f calls r e two.is
  precedes_event q e (heard r p x i j at there call says gets) = there

  pub precedes_from : (q e : ℕ) → Precedes k t f calls q e → event k t f calls q ≡ true
  precedes_from q e (next r n i j one two) = of_event k t f calls r q one.is
  precedes_from q e (heard r p x i j at there call says gets) = at

  -- everything that happens before an event is earlier
  pub precedes_earlier : (q e : ℕ) → Precedes k t f calls q e → q < e
  precedes_earlier q e p =
      let at_e = some_switch k t f calls e (precedes_event q e p) in
      elim (look_back e at_e.0 at_e.1) [
        | inl a ↦ (a.precede q p).1
        | inr h ↦ ⊎_elim (λ b. b.1) (λ b. omega (arith, b, h.earlier)) (h.precede q p)
      ]

  pub before_earlier : (q e : ℕ) → Before k t f calls q e → q < e
  before_earlier q e (step i j p) = precedes_earlier q e p
  before_earlier q e (chain i j l b p) = let less = before_earlier q j b in omega (arith, precedes_earlier j e p)

  pub until_earlier : (q e : ℕ) → Until k t f calls q e → q ≤ e
  until_earlier q e (inl same) = omega arith
  until_earlier q e (inr b) = omega (arith, before_earlier q e b)

  -- one step on
  pub until_step : (q i e : ℕ) → Until k t f calls q i → Precedes k t f calls i e → Until k t f calls q e
  until_step q i e (inl same) p = inr (step q e (subst (λ z. Precedes k t f calls z e) (sym same) p))
  until_step q i e (inr b) p = inr (chain q i e b p)

  pub before_before : (q i e : ℕ) → Before k t f calls q i → Before k t f calls i e → Before k t f calls q e
  before_before q i e b (step x y p) = chain q i e b p
  before_before q i e b (chain x j y c p) = chain q j e (before_before q i j b c) p

  pub until_before : (q i e : ℕ) → Until k t f calls q i → Before k t f calls i e → Until k t f calls q e
  until_before q i e (inl same) b = inr (subst (λ z. Before k t f calls z e) (sym same) b)
  until_before q i e (inr a) b = inr (before_before q i e a b)

  -- one step back
  pub record Back (q e : ℕ) : Type 0 where
    pub place : ℕ
    pub precedes : Precedes k t f calls place e
    pub until : Until k t f calls q place

  pub back : (q e : ℕ) → Before k t f calls q e → Back q e
  back q e (step i j p) = record { place = q; precedes = p; until = inl refl }
  back q e (chain i j l b p) = record { place = j; precedes = p; until = inr b }

  -- A record of j tells of events of j: it counts exactly these, and it is j's own just after the last of them

  pub data Says (j : ℕ) (r : List ℕ) : Type 0 where
    nothing : count_of r ≡ 0 → r ≡ first j → Says j r
    state : (i : ℕ) → event_of k t f calls j i ≡ true → suc (events_of k t f calls j i) ≡ count_of r → r ≡ known (suc i) j j → Says j r

  pub record Tells (j : ℕ) (r : List ℕ) (of : ℕ → Type 0) : Type 0 where
    pub counts : (i : ℕ) → event_of k t f calls j i ≡ true → of i ↔ (events_of k t f calls j i < count_of r)
    pub says : Says j r

  tells_same : (j : ℕ) (r q : List ℕ) (P Q : ℕ → Type 0) → q ≡ r → Tells j r P → ((i : ℕ) → event_of k t f calls j i ≡ true → P i ↔ Q i) → Tells j q Q
  tells_same j r q P Q same tells both =
      subst (λ z. Tells j z Q) (sym same) (record {
        counts = λ i is. (λ h. (tells.counts i is).0 ((both i is).1 h), λ h. (both i is).0 ((tells.counts i is).1 h));
        says = tells.says;
      })

  tells_newest : (j : ℕ) (r q : List ℕ) (P Q : ℕ → Type 0) → Tells j r P → Tells j q Q → Tells j (newest r q) (λ i. P i ⊎ Q i)
  tells_newest j r q P Q one two = way (newer r q) refl
    where
      way : (b : Bool) → newer r q ≡ b → Tells j (cond b r q) (λ i. P i ⊎ Q i)
      way true e = record {
        counts = λ i is. (⊎_elim (λ h. (one.counts i is).0 h) (λ h. omega (arith, (two.counts i is).0 h, ltb-true (count_of q) (count_of r) e)), λ h. inl ((one.counts i is).1 h));
        says = one.says;
      }
      way false e = record {
        counts = λ i is. (⊎_elim (λ h. omega (arith, (one.counts i is).0 h, ltb-false (count_of q) (count_of r) e)) (λ h. (two.counts i is).0 h), λ h. inr ((two.counts i is).1 h));
        says = two.says;
      }

  tells_first : (j : ℕ) → j < t.switches → Tells j (first j) (λ _. ⊥)
  tells_first j below = record {
    counts = λ i is. (λ h. absurd h, λ h. omega (arith, opened_count k t j j below));
    says = nothing (opened_count k t j j below) refl;
  }

  -- what an event's own record tells
  tells_own : (e s : ℕ) → event_of k t f calls s e ≡ true → Tells s (known (suc e) s s) (λ i. Until k t f calls i e)
  tells_own e s here =
      let m = moment k t f calls is_sound new s e here in
      let count = own_count_is k t f calls is_sound new s m.below (suc e) ∙ events_one k t f calls s e here in
      record {
        counts = λ i is. (
          λ u. omega (arith, count, events_upto k t f calls s i e (until_earlier i e u)),
          λ less. near i is (lower_earlier k t f calls s i e here (omega (arith, count))),
        );
        says = state e here (sym count) refl;
      }
    where
      near : (i : ℕ) → event_of k t f calls s i ≡ true → i ≤ e → Until k t f calls i e
      near i is le = elim (cases_eq i e) [
        | inl same ↦ inl same
        | inr differ ↦ inr (same_switch k t f calls s i e (omega arith) is here)
      ]

  -- what the block of s told of another switch before event e: of what the event before it had heard of
  abbrev Past : ℕ → ℕ → ℕ → Type 0
  Past s e i = (p : ℕ) × (event_of k t f calls s p ≡ true) × (p < e) × Until k t f calls i p

  tells_past : (e s j : ℕ) → s < t.switches → j < t.switches → ((p : ℕ) → p < e → event_of k t f calls s p ≡ true → Tells j (known (suc p) s j) (λ i. Until k t f calls i p)) → Tells j (known e s j) (Past s e)
  tells_past e s j there below before = way (last_event k t f calls s e)
    where
      way : Last k t f calls s e → Tells j (known e s j) (Past s e)
      way (never none many) =
          tells_same j (first j) (known e s j) (λ _. ⊥) (Past s e)
          (ap (λ z. record_of (length t.nodes) z j) (block_between k t f calls is_sound new s 0 e (omega arith) (λ q from less. none q less) ∙ block_first k t f calls is_sound new s there) ∙ first_records k t s j j below)
          (tells_first j below)
          (λ i is. (λ h. absurd h, λ h. absurd (both_ways _ (none h.0 h.2) h.1)))
      way (last p less is none many) =
          tells_same j (known (suc p) s j) (known e s j) (λ i. Until k t f calls i p) (Past s e)
          (ap (λ z. record_of (length t.nodes) z j) (block_between k t f calls is_sound new s (suc p) e less (λ q from under. none q from under)))
          (before p less is)
          (λ i at. (λ h. (p, is, less, h), λ h. up i h.0 h.1 h.2 h.3))
        where
          up : (i q : ℕ) → event_of k t f calls s q ≡ true → q < e → Until k t f calls i q → Until k t f calls i p
          up i q at under u = elim (cases_eq q p) [
            | inl same ↦ subst (λ z. Until k t f calls i z) same u
            | inr differ ↦ elim (cases_lt p q) [
              | inl more ↦ absurd (both_ways _ (none q more under) at)
              | inr le ↦ until_before i q p u (same_switch k t f calls s q p (omega arith) at is)
            ]
          ]

  past_until : (e s i : ℕ) → event_of k t f calls s e ≡ true → Past s e i → Until k t f calls i e
  past_until e s i here (p, is, less, u) = until_before i p e u (same_switch k t f calls s p e less is here)

  tells_under : (b e s j : ℕ) → e < b → event_of k t f calls s e ≡ true → j < t.switches → Tells j (known (suc e) s j) (λ i. Until k t f calls i e)
  tells_under zero e s j under here below = let z : ⊥ = omega arith in absurd z
  tells_under (suc b) e s j under here below = elim (cases_eq j s) [
    | inl same ↦ subst (λ z. Tells z (known (suc e) s z) (λ i. Until k t f calls i e)) (sym same) (tells_own e s here)
    | inr differ ↦ other differ (tells_past e s j there below (λ p less is. tells_under b p s j (omega arith) is below)) (λ i r less is. tells_under b i r j (omega arith) is below)
  ]
    where
      there : s < t.switches
      there = (moment k t f calls is_sound new s e here).below

      -- the event that an event has heard of, at another switch
      heard_of : j ≢ s → (i : ℕ) → event_of k t f calls j i ≡ true → Until k t f calls i e → Back i e
      heard_of differ i is (inl same) = absurd (differ (one_switch k t f calls j s e (subst (λ z. event_of k t f calls j z ≡ true) same is) here))
      heard_of differ i is (inr before) = back i e before

      other : j ≢ s → Tells j (known e s j) (Past s e) → ((i r : ℕ) → i < e → event_of k t f calls r i ≡ true → Tells j (known (suc i) r j) (λ q. Until k t f calls q i)) → Tells j (known (suc e) s j) (λ i. Until k t f calls i e)
      other differ past sent = elim (look_back e s here) [
        | inl a ↦ tells_same j (known e s j) (known (suc e) s j) (Past s e) (λ i. Until k t f calls i e) (a.others j below differ) past (λ i is. (
          past_until e s i here,
          λ u.
              let b = heard_of differ i is u in
              let q = a.precede b.place b.precedes in
              (b.place, q.0, q.1, b.until),
        ))
        | inr h ↦ tells_same j (newest (known (suc h.place) h.sender j) (known e s j)) (known (suc e) s j) (λ i. Until k t f calls i h.place ⊎ Past s e i) (λ i. Until k t f calls i e) (h.others j below differ)
            (tells_newest j (known (suc h.place) h.sender j) (known e s j) (λ i. Until k t f calls i h.place) (Past s e) (sent h.place h.sender h.earlier h.sent.is) past)
            (λ i is. (
              ⊎_elim (λ u. until_step i h.place e u h.precedes) (past_until e s i here),
              λ u. from_back h i (heard_of differ i is u),
            ))
      ]
        where
          from_back : (h : Hears e s) (i : ℕ) → Back i e → Until k t f calls i h.place ⊎ Past s e i
          from_back h i b = ⊎_elim
              (λ q. inr (b.place, q.0, q.1, b.until))
              (λ same. inl (subst (λ z. Until k t f calls i z) same b.until))
              (h.precede b.place b.precedes)

  -- Just after an event, each record of its switch tells of the events that are it or happen before it
  pub tells : (e s j : ℕ) → event_of k t f calls s e ≡ true → j < t.switches → Tells j (known (suc e) s j) (λ i. Until k t f calls i e)
  tells e s j here below = tells_under (suc e) e s j (omega arith) here below
