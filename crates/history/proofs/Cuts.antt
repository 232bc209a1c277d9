-- Some allowed order begins with exactly what happens before an event, and then the event. Assumes nothing.
use Rattle.std.proofs.Common.{◌≡◌, ℕ, zero, suc, ◌+◌, ◌<◌, ◌≤◌, Bool, true, false, cond, not, ◌&&◌, eqb, ltb, ◌≢◌, ◌⊎◌, List, [], ◌∷◌, ◌++◌, length, filter, sym, refl, ap, ◌∙◌, subst, inl, inr, arith}
use Rattle.std.proofs.lemmas.List.Elements.{filter-append}
use Rattle.std.proofs.lemmas.Bool.{and_from, and_left, and_parts, and_right, both_ways, cases_Bool, cases_eq, cond-false, cond-true, eq-eqb, eqb-false, lt-ltb, ltb-true, ne_eqb, not_from_false, not_from_true, not-true}
use Rattle.table.specs.Tables.{Table, sound}
use Rattle.step.specs.Nodes.{WordKind}
use Rattle.step.specs.Records.{count_of}
use Rattle.history.specs.Calls.{Call, Fleet}
use Rattle.history.specs.Orders.{Allowed, New, times}
use Rattle.history.specs.Runs.{Before, step, chain, Precedes, Until, event, event_of, events_of}
use Rattle.history.proofs.Clocks.{before_before, before_earlier, known, precedes_earlier, precedes_event, precedes_from, tells}
use Rattle.history.proofs.Listing.{AlwaysAfter, Cut, left, right, cut, stands_from, split, times_append, times_none, times_other, times_same}
use Rattle.history.proofs.Moments.{event_below, moment, of_event, some_switch}

stands_left : (i j : ℕ) (a b : List ℕ) → times j b ≡ 0 → AlwaysAfter i j a → AlwaysAfter i j (a ++ b)
stands_left i j a b none-there before front rest is = way (cut a b front rest j is)
  where
    way : Cut a b front rest j → 1 ≤ times i front
    way (left r q) = before front r q
    way (right m q b-is) = let z : ⊥ = omega (arith, none-there, ap (times j) b-is, times_append j m (j ∷ rest), times_same j rest) in absurd z

stands_right : (i j : ℕ) (a b : List ℕ) → times j a ≡ 0 → (1 ≤ times i a) ⊎ AlwaysAfter i j b → AlwaysAfter i j (a ++ b)
stands_right i j a b none-there before front rest is = way (cut a b front rest j is) before
  where
    way : Cut a b front rest j → (1 ≤ times i a) ⊎ AlwaysAfter i j b → 1 ≤ times i front
    way (left r q) before' = let z : ⊥ = omega (arith, none-there, ap (times j) q, times_append j front (j ∷ r), times_same j r) in absurd z
    way (right m q b-is) (inl early) = omega (arith, early, ap (times i) q, times_append i a m)
    way (right m q b-is) (inr later) = omega (arith, later m rest b-is, ap (times i) q, times_append i a m)

-- The places below n in their order, and those that pass a test

places : ℕ → List ℕ
places zero = []
places (suc n) = places n ++ n ∷ []

module _ (passes : ℕ → Bool) where
  kept : ℕ → List ℕ
  kept n = filter passes (places n)

  last_one : ℕ → List ℕ
  last_one n = cond (passes n) (n ∷ []) []

  kept_more : (n : ℕ) → kept (suc n) ≡ kept n ++ last_one n
  unfolding kept places last_one
  kept_more n = filter-append passes (places n) (n ∷ [])

  kept_none : kept 0 ≡ []
  unfolding kept places
  kept_none = refl

  last_same : (n : ℕ) → passes n ≡ true → times n (last_one n) ≡ 1
  unfolding last_one
  last_same n is = omega (arith, ap (times n) (cond-true (passes n) (n ∷ []) [] is), times_same n [], times_none n)

  last_fails : (i n : ℕ) → passes n ≡ false → times i (last_one n) ≡ 0
  unfolding last_one
  last_fails i n fails = ap (times i) (cond-false (passes n) (n ∷ []) [] fails) ∙ times_none i

  last_is : (n : ℕ) → passes n ≡ true → last_one n ≡ n ∷ []
  unfolding last_one
  last_is n is = cond-true (passes n) (n ∷ []) [] is

  last_other : (i n : ℕ) → n ≢ i → times i (last_one n) ≡ 0
  last_other i n differ = elim (cases_Bool (passes n)) [
    | inr fails ↦ last_fails i n fails
    | inl is ↦ one is
  ]
    where
      one : passes n ≡ true → times i (last_one n) ≡ 0
      one is = ap (times i) (last_is n is) ∙ times_other i n [] differ ∙ times_none i

  kept_past : (i n : ℕ) → n ≤ i → times i (kept n) ≡ 0
  kept_past i zero le = ap (times i) kept_none ∙ times_none i
  kept_past i (suc n) le = omega (arith, ap (times i) (kept_more n), times_append i (kept n) (last_one n), kept_past i n (omega arith), last_other i n (λ e. omega (arith, e)))

  kept_fails : (i n : ℕ) → passes i ≡ false → times i (kept n) ≡ 0
  kept_fails i zero fails = ap (times i) kept_none ∙ times_none i
  kept_fails i (suc n) fails = elim (cases_eq n i) [
    | inl same ↦ omega (arith, ap (times i) (kept_more n), times_append i (kept n) (last_one n), kept_fails i n fails, last_fails i n (ap passes same ∙ fails))
    | inr differ ↦ omega (arith, ap (times i) (kept_more n), times_append i (kept n) (last_one n), kept_fails i n fails, last_other i n differ)
  ]

  kept_passes : (i n : ℕ) → i < n → passes i ≡ true → times i (kept n) ≡ 1
  kept_passes i zero less is = let z : ⊥ = omega arith in absurd z
  kept_passes i (suc n) less is = elim (cases_eq n i) [
    | inl same ↦ omega (arith, ap (times i) (kept_more n), times_append i (kept n) (last_one n), kept_past i n (omega arith), ap (λ z. times z (last_one n)) (sym same), last_same n (ap passes same ∙ is))
    | inr differ ↦ omega (arith, ap (times i) (kept_more n), times_append i (kept n) (last_one n), kept_passes i n (omega arith) is, last_other i n differ)
  ]

  -- an earlier place stands before a later one
  kept_stands : (n i j : ℕ) → i < j → passes i ≡ true → AlwaysAfter i j (kept n)
  kept_stands zero i j less is = λ front rest e.
      let z : ⊥ = omega (arith, times_none j, ap (times j) (sym kept_none ∙ e), times_append j front (j ∷ rest), times_same j rest) in absurd z
  kept_stands (suc n) i j less is = subst (AlwaysAfter i j) (sym (kept_more n)) (elim (cases_eq n j) [
    | inl same ↦ stands_right i j (kept n) (last_one n) (kept_past j n (omega arith)) (inl (omega (arith, kept_passes i n (omega arith) is)))
    | inr differ ↦ stands_left i j (kept n) (last_one n) (last_other j n differ) (kept_stands n i j less is)
  ])

-- The order

module _ (k : WordKind) (t : Table) (f : Fleet) (calls : List Call) (is_sound : sound t ≡ true) (new : New k t f) (e s : ℕ) (here : event_of k t f calls s e ≡ true) where
  abbrev of : ℕ → Bool
  of i = event k t f calls i

  -- whether event i is e or happens before it, by the counts
  heard_at : (i : ℕ) → (of i ≡ true) ⊎ (of i ≡ false) → Bool
  heard_at i (inl is) = let j = (some_switch k t f calls i is).0 in ltb (events_of k t f calls j i) (count_of (known k t f calls is_sound new (suc e) s j))
  heard_at i (inr nothing) = false

  heard : ℕ → Bool
  heard i = heard_at i (cases_Bool (of i))

  heard_until : (i : ℕ) → heard i ≡ true → Until k t f calls i e
  unfolding heard heard_at
  heard_until i is = way (cases_Bool (of i)) is
    where
      way : (d : (of i ≡ true) ⊎ (of i ≡ false)) → heard_at i d ≡ true → Until k t f calls i e
      way (inl is-event) so =
          let at = some_switch k t f calls i is-event in
          ((tells k t f calls is_sound new e s at.0 here (moment k t f calls is_sound new at.0 i at.1).below).counts i at.1).1 (ltb-true _ _ so)
      way (inr nothing) so = absurd (both_ways false refl so)

  heard_event : (i : ℕ) → heard i ≡ true → of i ≡ true
  unfolding heard heard_at
  heard_event i is = way (cases_Bool (of i)) is
    where
      way : (d : (of i ≡ true) ⊎ (of i ≡ false)) → heard_at i d ≡ true → of i ≡ true
      way (inl is-event) so = is-event
      way (inr nothing) so = absurd (both_ways false refl so)

  until_heard : (i : ℕ) → of i ≡ true → Until k t f calls i e → heard i ≡ true
  unfolding heard heard_at
  until_heard i is-event until = way (cases_Bool (of i))
    where
      way : (d : (of i ≡ true) ⊎ (of i ≡ false)) → heard_at i d ≡ true
      way (inl is) =
          let at = some_switch k t f calls i is in
          lt-ltb _ _ (((tells k t f calls is_sound new e s at.0 here (moment k t f calls is_sound new at.0 i at.1).below).counts i at.1).0 until)
      way (inr nothing) = absurd (both_ways _ nothing is-event)

  in_front : ℕ → Bool
  in_front i = heard i && not (eqb i e)

  in_rest : ℕ → Bool
  in_rest i = of i && not (heard i)

  pub front : List ℕ
  front = kept in_front (length calls)

  pub rest : List ℕ
  rest = kept in_rest (length calls)

  e_event : of e ≡ true
  e_event = of_event k t f calls s e here

  e_heard : heard e ≡ true
  e_heard = until_heard e e_event (inl refl)

  -- where a place stands

  front_is : (i : ℕ) → in_front i ≡ true → (heard i ≡ true) × (i ≢ e)
  unfolding in_front
  front_is i is = let p = and_parts (heard i) (not (eqb i e)) is in (p.0, eqb-false i e (not-true (eqb i e) p.1))

  is_front : (i : ℕ) → heard i ≡ true → i ≢ e → in_front i ≡ true
  unfolding in_front
  is_front i so differ = and_from (heard i) (not (eqb i e)) so (not_from_false (eqb i e) (ne_eqb i e differ))

  e_no_front : in_front e ≡ false
  unfolding in_front
  e_no_front = and_right (heard e) (not (eqb e e)) (not_from_true (eqb e e) (eq-eqb e e refl))

  silent_no_front : (i : ℕ) → heard i ≡ false → in_front i ≡ false
  unfolding in_front
  silent_no_front i silent = and_left (heard i) (not (eqb i e)) silent

  heard_no_rest : (i : ℕ) → heard i ≡ true → in_rest i ≡ false
  unfolding in_rest
  heard_no_rest i so = and_right (of i) (not (heard i)) (not_from_true (heard i) so)

  is_rest : (i : ℕ) → of i ≡ true → heard i ≡ false → in_rest i ≡ true
  unfolding in_rest
  is_rest i is silent = and_from (of i) (not (heard i)) is (not_from_false (heard i) silent)

  quiet_no_rest : (i : ℕ) → of i ≡ false → in_rest i ≡ false
  unfolding in_rest
  quiet_no_rest i quiet = and_left (of i) (not (heard i)) quiet

  times_front : (i : ℕ) → heard i ≡ true → i ≢ e → times i front ≡ 1
  unfolding front
  times_front i so differ = kept_passes in_front i (length calls) (event_below k t f calls i (heard_event i so)) (is_front i so differ)

  times_no_front : (i : ℕ) → in_front i ≡ false → times i front ≡ 0
  unfolding front
  times_no_front i fails = kept_fails in_front i (length calls) fails

  times_rest : (i : ℕ) → of i ≡ true → heard i ≡ false → times i rest ≡ 1
  unfolding rest
  times_rest i is silent = kept_passes in_rest i (length calls) (event_below k t f calls i is) (is_rest i is silent)

  times_no_rest : (i : ℕ) → in_rest i ≡ false → times i rest ≡ 0
  unfolding rest
  times_no_rest i fails = kept_fails in_rest i (length calls) fails

  -- the three parts of the order

  pub order : List ℕ
  order = front ++ (e ∷ rest)

  times_order : (i : ℕ) → times i order ≡ times i front + times i (e ∷ rest)
  unfolding order
  times_order i = times_append i front (e ∷ rest)

  once : (i : ℕ) → times i order ≡ cond (of i) 1 0
  once i = elim (cases_eq i e) [
    | inl same ↦ omega (arith, times_order i, ap (λ z. times z front) same, times_no_front e e_no_front, ap (λ z. times z (e ∷ rest)) same, times_same e rest, times_no_rest e (heard_no_rest e e_heard), ap {B = ℕ} (λ b. cond b 1 0) (ap of same ∙ e_event))
    | inr differ ↦ apart differ (cases_Bool (of i)) (cases_Bool (heard i))
  ]
    where
      apart : i ≢ e → (of i ≡ true) ⊎ (of i ≡ false) → (heard i ≡ true) ⊎ (heard i ≡ false) → times i order ≡ cond (of i) 1 0
      apart differ (inl is) (inl so) = omega (arith, times_order i, times_front i so differ, times_other i e rest (λ q. differ (sym q)), times_no_rest i (heard_no_rest i so), ap {B = ℕ} (λ b. cond b 1 0) is)
      apart differ (inl is) (inr silent) = omega (arith, times_order i, times_no_front i (silent_no_front i silent), times_other i e rest (λ q. differ (sym q)), times_rest i is silent, ap {B = ℕ} (λ b. cond b 1 0) is)
      apart differ (inr quiet) (inl so) = absurd (both_ways _ quiet (heard_event i so))
      apart differ (inr quiet) (inr silent) = omega (arith, times_order i, times_no_front i (silent_no_front i silent), times_other i e rest (λ q. differ (sym q)), times_no_rest i (quiet_no_rest i quiet), ap {B = ℕ} (λ b. cond b 1 0) quiet)

  -- what precedes an event that e has heard of is heard of too, and is not e
  heard_back : (i j : ℕ) → Precedes k t f calls i j → heard j ≡ true → (heard i ≡ true) × (i ≢ e)
  heard_back i j p so = way (heard_until j so)
    where
      from : Before k t f calls i e → (heard i ≡ true) × (i ≢ e)
      from before = (until_heard i (precedes_from k t f calls is_sound new i j p) (inr before), λ same. omega (arith, same, before_earlier k t f calls is_sound new i e before))

      way : Until k t f calls j e → (heard i ≡ true) × (i ≢ e)
      way (inl same) = from (step i e (subst (λ z. Precedes k t f calls i z) same p))
      way (inr before) = from (before_before k t f calls is_sound new i j e (step i j p) before)

  rest_stands : (i j : ℕ) → i < j → of i ≡ true → heard i ≡ false → AlwaysAfter i j rest
  unfolding rest
  rest_stands i j less is silent = kept_stands in_rest (length calls) i j less (is_rest i is silent)

  front_stands : (i j : ℕ) → i < j → heard i ≡ true → i ≢ e → AlwaysAfter i j front
  unfolding front
  front_stands i j less so differ = kept_stands in_front (length calls) i j less (is_front i so differ)

  keeps : (i j : ℕ) → Precedes k t f calls i j → AlwaysAfter i j order
  unfolding order
  keeps i j p = elim (cases_Bool (heard j)) [
    | inl so ↦ elim (cases_eq j e) [
      | inl same ↦ subst (λ z. AlwaysAfter i z (front ++ (e ∷ rest))) (sym same) (stands_right i e front (e ∷ rest) (times_no_front e e_no_front) (inl (early so)))
      | inr differ ↦ stands_left i j front (e ∷ rest) (times_other j e rest (λ q. differ (sym q)) ∙ times_no_rest j (heard_no_rest j so)) (front_stands i j less (heard_back i j p so).0 (heard_back i j p so).1)
    ]
    | inr silent ↦ stands_right i j front (e ∷ rest) (times_no_front j (silent_no_front j silent)) (after silent (cases_Bool (heard i)) (cases_eq i e))
  ]
    where
      less : i < j
      less = precedes_earlier k t f calls is_sound new i j p

      early : heard j ≡ true → 1 ≤ times i front
      early so = let b = heard_back i j p so in omega (arith, times_front i b.0 b.1)

      after : heard j ≡ false → (heard i ≡ true) ⊎ (heard i ≡ false) → (i ≡ e) ⊎ (i ≡ e → ⊥) → (1 ≤ times i front) ⊎ AlwaysAfter i j (e ∷ rest)
      after silent (inl so) (inr differ) = inl (omega (arith, times_front i so differ))
      after silent (inl so) (inl same) = inr (stands_right i j (e ∷ []) rest (alone silent) (inl (omega (arith, ap (λ z. times z (e ∷ [])) same, times_same e []))))
        where
          alone : heard j ≡ false → times j (e ∷ []) ≡ 0
          alone quiet = times_other j e [] (λ q. both_ways _ quiet (ap heard (sym q) ∙ e_heard)) ∙ times_none j
      after silent (inr mute) d =
          inr (stands_right i j (e ∷ []) rest (times_other j e [] (λ q. both_ways _ silent (ap heard (sym q) ∙ e_heard)) ∙ times_none j) (inr (rest_stands i j less (precedes_from k t f calls is_sound new i j p) mute)))

  pub order_allowed : Allowed k t f calls order
  order_allowed = record {
    once = once;
    keeps = λ i j p. stands_from i j order (once j ∙ ap {B = ℕ} (λ b. cond b 1 0) (precedes_event k t f calls is_sound new i j p)) (keeps i j p);
  }

  pub order_split : order ≡ front ++ (e ∷ rest)
  unfolding order
  order_split = refl

  pub front_exactly : (p q : List ℕ) (i : ℕ) → front ≡ p ++ (i ∷ q) → Before k t f calls i e
  front_exactly p q i is = elim (cases_Bool (in_front i)) [
    | inr fails ↦ let z : ⊥ = omega (arith, times_no_front i fails, ap (times i) is, times_append i p (i ∷ q), times_same i q) in absurd z
    | inl so ↦ before (front_is i so)
  ]
    where
      before : (heard i ≡ true) × (i ≢ e) → Before k t f calls i e
      before (so, differ) = way (heard_until i so)
        where
          way : Until k t f calls i e → Before k t f calls i e
          way (inl same) = absurd (differ same)
          way (inr b) = b

  before_event : (i : ℕ) → Before k t f calls i e → of i ≡ true
  before_event i b = first_event i e b
    where
      first_event : (i j : ℕ) → Before k t f calls i j → of i ≡ true
      first_event i j (step x y p) = precedes_from k t f calls is_sound new i j p
      first_event i j (chain x l y c p) = first_event i l c

  pub front_all : (i : ℕ) → Before k t f calls i e → (p : List ℕ) × (q : List ℕ) × (front ≡ p ++ (i ∷ q))
  front_all i b =
      let so = until_heard i (before_event i b) (inr b) in
      let found = split i front (omega (arith, times_front i so (λ same. omega (arith, same, before_earlier k t f calls is_sound new i e b)))) in
      (found.front, found.rest, found.is)
