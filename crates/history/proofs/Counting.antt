-- The events of a switch, by their places and numbers. Assumes nothing.
use Rattle.std.proofs.Common.{◌≡◌, ℕ, zero, suc, ◌+◌, ◌-◌, ◌<◌, ◌≤◌, true, false, cond, List, length, sym, refl, ap, ◌∙◌, subst, inl, inr, arith}
use Rattle.std.proofs.lemmas.Bool.{both_ways, cases_Bool, cases_lt, cases_eq}
use Rattle.table.specs.Tables.{Table, sound}
use Rattle.step.proofs.OpeningMeaning.{opened_count}
use Rattle.step.specs.Nodes.{WordKind}
use Rattle.step.specs.Records.{count_of, record_of}
use Rattle.history.specs.Calls.{Call, Fleet}
use Rattle.history.specs.Orders.{New}
use Rattle.history.specs.Runs.{Before, step, chain, Precedes, next, event_of, events_of}
use Rattle.history.proofs.BlockSteps.{step_count}
use Rattle.history.proofs.Moments.{block, block_first, block_kept, fits_at, moment}

module _ (k : WordKind) (t : Table) (f : Fleet) (calls : List Call) where
  events_more : (s i : ℕ) → events_of k t f calls s (suc i) ≡ events_of k t f calls s i + cond (event_of k t f calls s i) 1 0
  unfolding events_of
  events_more s i = refl

  pub events_one : (s i : ℕ) → event_of k t f calls s i ≡ true → events_of k t f calls s (suc i) ≡ suc (events_of k t f calls s i)
  events_one s i is = omega (arith, events_more s i, ap {B = ℕ} (λ b. cond b 1 0) is)

  pub events_same : (s i : ℕ) → event_of k t f calls s i ≡ false → events_of k t f calls s (suc i) ≡ events_of k t f calls s i
  events_same s i none = omega (arith, events_more s i, ap {B = ℕ} (λ b. cond b 1 0) none)

  pub events_none : (s : ℕ) → events_of k t f calls s 0 ≡ 0
  unfolding events_of
  events_none s = refl

  pub events_rise : (s i d : ℕ) → events_of k t f calls s i ≤ events_of k t f calls s (i + d)
  events_rise s i zero = let e : i + 0 ≡ i = omega arith in omega (arith, ap (events_of k t f calls s) e)
  events_rise s i (suc d) =
      let e : i + suc d ≡ suc (i + d) = omega arith in
      omega (arith, ap (events_of k t f calls s) e, events_rise s i d, events_more s (i + d))

  pub events_upto : (s i j : ℕ) → i ≤ j → events_of k t f calls s i ≤ events_of k t f calls s j
  events_upto s i j le =
      let e : i + (j - i) ≡ j = omega arith in
      omega (arith, events_rise s i (j - i), ap (events_of k t f calls s) e)

  pub events_less : (s i j : ℕ) → event_of k t f calls s i ≡ true → i < j → events_of k t f calls s i < events_of k t f calls s j
  events_less s i j is less = omega (arith, events_one s i is, events_upto s (suc i) j less)

  -- events of one switch with the same number are the same
  pub same_number : (s i j : ℕ) → event_of k t f calls s i ≡ true → event_of k t f calls s j ≡ true → events_of k t f calls s i ≡ events_of k t f calls s j → i ≡ j
  same_number s i j here there same = elim (cases_lt i j) [
    | inl less ↦ let z : ⊥ = omega (arith, events_less s i j here less) in absurd z
    | inr le ↦ elim (cases_lt j i) [
      | inl less ↦ let z : ⊥ = omega (arith, events_less s j i there less) in absurd z
      | inr ge ↦ omega arith
    ]
  ]

  -- an event of a lower number is earlier
  pub lower_earlier : (s i j : ℕ) → event_of k t f calls s j ≡ true → events_of k t f calls s i ≤ events_of k t f calls s j → i ≤ j
  lower_earlier s i j there le = elim (cases_lt j i) [
    | inl less ↦ let z : ⊥ = omega (arith, events_less s j i there less) in absurd z
    | inr ge ↦ ge
  ]

  -- the last event of s before call i
  pub data Last (s i : ℕ) : Type 0 where
    never : ((q : ℕ) → q < i → event_of k t f calls s q ≡ false) → events_of k t f calls s i ≡ 0 → Last s i
    last : (p : ℕ) → p < i → event_of k t f calls s p ≡ true → ((q : ℕ) → p < q → q < i → event_of k t f calls s q ≡ false) → events_of k t f calls s i ≡ suc (events_of k t f calls s p) → Last s i

  pub last_event : (s i : ℕ) → Last s i
  last_event s zero = never (λ q less. let z : ⊥ = omega arith in absurd z) (events_none s)
  last_event s (suc i) = elim (cases_Bool (event_of k t f calls s i)) [
    | inl is ↦ last i (omega arith) is (λ q more less. let z : ⊥ = omega arith in absurd z) (events_one s i is)
    | inr none ↦ more none (last_event s i)
  ]
    where
      more : event_of k t f calls s i ≡ false → Last s i → Last s (suc i)
      more none (never not zero-many) = never (λ q less. elim (cases_eq q i) [
        | inl e ↦ ap (event_of k t f calls s) e ∙ none
        | inr differ ↦ not q (omega arith)
      ]) (events_same s i none ∙ zero-many)
      more none (last p less is not many) = last p (omega arith) is (λ q past under. elim (cases_eq q i) [
        | inl e ↦ ap (event_of k t f calls s) e ∙ none
        | inr differ ↦ not q past (omega arith)
      ]) (events_same s i none ∙ many)

  -- there is an event of every lower number
  pub record Numbered (s c i : ℕ) : Type 0 where
    pub place : ℕ
    pub earlier : place < i
    pub is : event_of k t f calls s place ≡ true
    pub number : events_of k t f calls s place ≡ c

  pub numbered : (s c i : ℕ) → c < events_of k t f calls s i → Numbered s c i
  numbered s c zero less = let z : ⊥ = omega (arith, events_none s) in absurd z
  numbered s c (suc i) less = elim (cases_Bool (event_of k t f calls s i)) [
    | inl is ↦ elim (cases_eq c (events_of k t f calls s i)) [
      | inl e ↦ record { place = i; earlier = omega arith; is = is; number = sym e }
      | inr differ ↦ later (numbered s c i (omega (arith, events_one s i is)))
    ]
    | inr none ↦ later (numbered s c i (omega (arith, events_same s i none)))
  ]
    where
      later : Numbered s c i → Numbered s c (suc i)
      later b = record { place = b.place; earlier = omega (arith, b.earlier); is = b.is; number = b.number }

  -- the next event of a switch
  pub next_after : (s p e : ℕ) → event_of k t f calls s p ≡ true → event_of k t f calls s e ≡ true → events_of k t f calls s e ≡ suc (events_of k t f calls s p) → Precedes k t f calls p e
  next_after s p e here there more =
      next s (suc (events_of k t f calls s p)) p e
      (record { is = here; place = refl })
      (record { is = there; place = ap suc more })

  same_switch_under : (b s q e : ℕ) → e ≤ b → q < e → event_of k t f calls s q ≡ true → event_of k t f calls s e ≡ true → Before k t f calls q e
  same_switch_under zero s q e under less here there = let z : ⊥ = omega arith in absurd z
  same_switch_under (suc b) s q e under less here there = go (last_event s e) (λ p lt more is. same_switch_under b s q p (omega arith) more here is)
    where
      go : Last s e → ((p : ℕ) → p < e → q < p → event_of k t f calls s p ≡ true → Before k t f calls q p) → Before k t f calls q e
      go (never not zero-many) ih = absurd (both_ways _ (not q less) here)
      go (last p lt is not many) ih = elim (cases_lt q p) [
        | inl more ↦ chain q p e (ih p lt more is) (next_after s p e is there many)
        | inr le ↦ elim (cases_eq q p) [
          | inl e' ↦ step q e (subst (λ z. Precedes k t f calls z e) (sym e') (next_after s p e is there many))
          | inr differ ↦ absurd (both_ways _ (not q (omega arith) less) here)
        ]
      ]

  -- an earlier event of the same switch happens before
  pub same_switch : (s q e : ℕ) → q < e → event_of k t f calls s q ≡ true → event_of k t f calls s e ≡ true → Before k t f calls q e
  same_switch s q e less here there = same_switch_under e s q e (omega arith) less here there

  module _ (is_sound : sound t ≡ true) (new : New k t f) where
    -- without events of s its block stays
    pub block_since : (s a d : ℕ) → ((q : ℕ) → a ≤ q → q < a + d → event_of k t f calls s q ≡ false) → block k t f calls (a + d) s ≡ block k t f calls a s
    block_since s a zero not = let e : a + 0 ≡ a = omega arith in ap (λ z. block k t f calls z s) e
    block_since s a (suc d) not =
        let e : a + suc d ≡ suc (a + d) = omega arith in
        ap (λ z. block k t f calls z s) e
        ∙ block_kept k t f calls is_sound new s (a + d) (not (a + d) (omega arith) (omega arith))
        ∙ block_since s a d (λ q le less. not q le (omega arith))

    pub block_between : (s a b : ℕ) → a ≤ b → ((q : ℕ) → a ≤ q → q < b → event_of k t f calls s q ≡ false) → block k t f calls b s ≡ block k t f calls a s
    block_between s a b le not =
        let e : b ≡ a + (b - a) = omega arith in
        ap (λ z. block k t f calls z s) e
        ∙ block_since s a (b - a) (λ q from less. not q from (omega arith))

    -- a switch's own count is the number of its events
    pub own_count_is : (s : ℕ) → s < t.switches → (i : ℕ) → count_of (record_of (length t.nodes) (block k t f calls i s) s) ≡ events_of k t f calls s i
    own_count_is s below zero =
        ap (λ z. count_of (record_of (length t.nodes) z s)) (block_first k t f calls is_sound new s below)
        ∙ opened_count k t s s below
        ∙ sym (events_none s)
    own_count_is s below (suc i) = elim (cases_Bool (event_of k t f calls s i)) [
      | inl is ↦
          let m = moment k t f calls is_sound new s i is in
          let grows = step_count k t s (block k t f calls i s) (fits_at k t f calls is_sound new s i below) m.act m.makes in
          omega (arith, ap (λ z. count_of (record_of (length t.nodes) z s)) m.becomes, grows, own_count_is s below i, events_one s i is)
      | inr none ↦
          ap (λ z. count_of (record_of (length t.nodes) z s)) (block_kept k t f calls is_sound new s i none) ∙ own_count_is s below i ∙ sym (events_same s i none)
    ]
