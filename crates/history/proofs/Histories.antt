-- Every run has values that the logic defines over its history. Assumes nothing.
use Rattle.std.proofs.Common.{◌≡◌, ℕ, zero, suc, ◌<◌, Bool, true, false, cond, ◌&&◌, eqb, ◌≢◌, ◌⊎◌, List, length, get_or, sym, refl, ap, ◌∙◌, subst, inl, inr, arith}
use Rattle.std.proofs.lemmas.Bool.{and_from, and_parts, and_right, cases_Bool, cases_eq, cond-false, cond-true, eq-eqb, eqb-true, ne_eqb}
use Rattle.std.specs.List.{AllByRecursion}
use Rattle.table.specs.Tables.{Table, sound}
use Rattle.readings.specs.Kinds.{Kind, Lawful}
use Rattle.step.specs.Logic.{Values, Meaning, after, none}
use Rattle.step.specs.Nodes.{on_words, WordKind}
use Rattle.step.specs.Opening.{start_registers}
use Rattle.step.specs.Records.{count_of}
use Rattle.history.specs.Calls.{Call, Fleet}
use Rattle.history.specs.Law.{History}
use Rattle.history.specs.Orders.{New}
use Rattle.history.specs.Runs.{Latest, Nth, WordCall, event_of, events_of, register_at}
use Rattle.history.proofs.Agreement.{moved}
use Rattle.history.proofs.Clocks.{Says, nothing, state, first, known, tells}
use Rattle.history.proofs.Counting.{same_number}
use Rattle.history.proofs.Judging.{judged, judged_first, values_in}
use Rattle.history.proofs.Moments.{event_below, moment, of_event}
use Rattle.history.proofs.Verdicts.{Own, at_first, at_last, latest_is, latest_once, own_before}

module _ (k : WordKind) (t : Table) (f : Fleet) (calls : List Call) (is_sound : sound t ≡ true) (new : New k t f) where
  abbrev makes : ℕ → ℕ → ℕ → Bool
  makes s n i = event_of k t f calls s i && eqb (suc (events_of k t f calls s i)) n

  -- the own record of s in its state n, looked for among the first i calls
  own_record : ℕ → ℕ → ℕ → List ℕ
  own_record s n zero = first k t f calls is_sound new s
  own_record s n (suc i) = cond (makes s n i) (known k t f calls is_sound new (suc i) s s) (own_record s n i)

  record_first : (s i : ℕ) → own_record s 0 i ≡ first k t f calls is_sound new s
  unfolding own_record
  record_first s zero = refl
  record_first s (suc i) = cond-false (makes s 0 i) _ _ (and_right _ _ (ne_eqb (suc (events_of k t f calls s i)) 0 (λ e. omega (arith, e)))) ∙ record_first s i

  record_nth : (s n e : ℕ) → Nth k t f calls s n e → (i : ℕ) → e < i → own_record s n i ≡ known k t f calls is_sound new (suc e) s s
  unfolding own_record
  record_nth s n e nth zero less = let z : ⊥ = omega arith in absurd z
  record_nth s n e nth (suc i) less = elim (cases_eq i e) [
    | inl same ↦
        cond-true (makes s n i) _ _ (and_from _ _ (subst (λ z. event_of k t f calls s z ≡ true) (sym same) nth.is) (eq-eqb _ _ (ap (λ z. suc (events_of k t f calls s z)) same ∙ nth.place)))
        ∙ ap (λ z. known k t f calls is_sound new (suc z) s s) same
    | inr differ ↦
        cond-false (makes s n i) _ _ (other differ (cases_Bool (makes s n i))) ∙ record_nth s n e nth i (omega arith)
  ]
    where
      other : i ≢ e → (makes s n i ≡ true) ⊎ (makes s n i ≡ false) → makes s n i ≡ false
      other differ (inr not_made) = not_made
      other differ (inl made) =
          let p = and_parts _ _ made in
          absurd (differ (same_number k t f calls s i e p.0 nth.is (omega (arith, eqb-true _ _ p.1, nth.place))))

module _ {R : Type 0} (k : Kind R) (held : R → Type 0) (law : Lawful k held) (t : Table) (is_sound : sound t ≡ true) (f : Fleet) (new : New (on_words k) t f) (calls : List Call) (words : AllByRecursion WordCall calls) where
  abbrev the_record : ℕ → ℕ → List ℕ
  the_record s n = own_record (on_words k) t f calls is_sound new s n (length calls)

  abbrev the_values : ℕ → ℕ → Values R
  the_values s n = values_in k (the_record s n)

  nth_record : (s n e : ℕ) → Nth (on_words k) t f calls s n e → the_record s n ≡ known (on_words k) t f calls is_sound new (suc e) s s
  nth_record s n e nth = record_nth (on_words k) t f calls is_sound new s n e nth (length calls) (event_below (on_words k) t f calls e (of_event (on_words k) t f calls s e nth.is))

  starts : (s : ℕ) → s < t.switches → Meaning k (λ g. k.reading (get_or (start_registers t s) g 0)) none (λ j. the_values j 0) (the_values s 0) t.nodes
  starts s below =
      let same : (λ j. first (on_words k) t f calls is_sound new j) ≡ (λ j. the_record j 0) = λ z j. sym (record_first (on_words k) t f calls is_sound new j (length calls)) z in
      subst (λ (w : ℕ → List ℕ). Meaning k (λ g. k.reading (get_or (start_registers t s) g 0)) none (λ j. values_in k (w j)) (values_in k (w s)) t.nodes) same
      (judged_first k held law t is_sound s below f new calls)

  before_is : (s n e : ℕ) → s < t.switches → Nth (on_words k) t f calls s (suc n) e → the_record s n ≡ known (on_words k) t f calls is_sound new e s s
  before_is s n e below nth = way (own_before (on_words k) t f calls is_sound new s e below)
    where
      way : Own (on_words k) t f calls is_sound new s e → the_record s n ≡ known (on_words k) t f calls is_sound new e s s
      way (at_first zero-many is) =
          let none_yet : n ≡ 0 = omega (arith, nth.place) in
          ap (the_record s) none_yet ∙ record_first (on_words k) t f calls is_sound new s (length calls) ∙ sym is
      way (at_last p less at_p more is) =
          nth_record s n p (record { is = at_p; place = omega (arith, nth.place) }) ∙ sym is

  at_is : (e s j l : ℕ) → event_of (on_words k) t f calls s e ≡ true → j < t.switches → Latest (on_words k) t f calls j e l → known (on_words k) t f calls is_sound new (suc e) s j ≡ the_record j l
  at_is e s j l here below latest = way (tells (on_words k) t f calls is_sound new e s j here below).says
    where
      same : count_of (known (on_words k) t f calls is_sound new (suc e) s j) ≡ l
      same = latest_once (on_words k) t f calls is_sound new j e _ l (latest_is (on_words k) t f calls is_sound new e s j here below) latest

      way : Says (on_words k) t f calls is_sound new j (known (on_words k) t f calls is_sound new (suc e) s j) → known (on_words k) t f calls is_sound new (suc e) s j ≡ the_record j l
      way (nothing zero-count is) = is ∙ sym (record_first (on_words k) t f calls is_sound new j (length calls)) ∙ ap (the_record j) (sym zero-count ∙ same)
      way (state i at_i count is) = is ∙ sym (nth_record j l i (record { is = at_i; place = count ∙ same }))

  goes : (e s n : ℕ) → Nth (on_words k) t f calls s (suc n) e → (latest : ℕ → ℕ) → ((j : ℕ) → j < t.switches → Latest (on_words k) t f calls j e (latest j)) → Meaning k (λ g. k.reading (register_at (on_words k) t f calls s g (suc e))) (after (the_values s n)) (λ j. the_values j (latest j)) (the_values s (suc n)) t.nodes
  goes e s n nth latest known-to =
      let kw = on_words k in
      let regs : ℕ → R = λ g. k.reading (register_at kw t f calls s g (suc e)) in
      let below = (moment kw t f calls is_sound new s e nth.is).below in
      moved k t is_sound regs regs (λ g small. refl) (after (the_values s n))
      (λ j. values_in k (known kw t f calls is_sound new (suc e) s j)) (λ j. the_values j (latest j))
      (λ j there. ap (values_in k) (at_is e s j (latest j) nth.is there (known-to j there)))
      (the_values s (suc n))
      (subst (λ z. Meaning k regs (after (values_in k z)) (λ j. values_in k (known kw t f calls is_sound new (suc e) s j)) (the_values s (suc n)) t.nodes) (sym (before_is s n e below nth))
      (subst (λ z. Meaning k regs (after (values_in k (known kw t f calls is_sound new e s s))) (λ j. values_in k (known kw t f calls is_sound new (suc e) s j)) (values_in k z) t.nodes) (sym (nth_record s (suc n) e nth))
      (judged k held law t is_sound f new calls words e s nth.is)))

  pub history : (v : ℕ → ℕ → Values R) × History k t f calls v
  history = (the_values, record { starts = starts; goes = goes })
