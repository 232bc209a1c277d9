-- Counts are happens-before, and an event's mask is the logic's verdict over the history. Assumes nothing.
use Rattle.std.proofs.Common.{◌≡◌, ℕ, zero, suc, ◌+◌, ◌-◌, ◌<◌, ◌≤◌, Bool, true, not, ◌&&◌, eqb, ltb, ◌≢◌, ◌⊎◌, ◌↔◌, List, [], ◌∷◌, length, get_or, drop, Result, sym, refl, ap, ◌∙◌, subst, inl, inr, add-one, arith}
use Rattle.std.proofs.lemmas.Bool.{and_left, and_parts, cases_Bool, cases_eq, ltb-true}
use Rattle.std.specs.List.{AllByRecursion}
use Rattle.readings.specs.Ports.{has}
use Rattle.table.proofs.Soundness.{sound_parts}
use Rattle.table.specs.Nodes.{is_truth, rule_fits, truth_node}
use Rattle.table.specs.Tables.{Table, every, sound}
use Rattle.table.specs.declared.fault.Fault.{Fault}
use Rattle.table.specs.declared.node.Rule.{Rule}
use Rattle.step.proofs.Laws.{step_law}
use Rattle.readings.specs.Kinds.{Kind, Lawful}
use Rattle.step.specs.Logic.{Values, after, values_of}
use Rattle.step.specs.Nodes.{on_words, WordKind}
use Rattle.step.specs.Opening.{start_registers}
use Rattle.step.specs.Records.{count_of, record_of}
use Rattle.step.specs.Steps.{acted_block, own_count, own_mask, own_words}
use Rattle.history.specs.Calls.{Call, Fleet, Reply, block_at}
use Rattle.history.specs.Law.{Counts, History, Verdict, knows, mask_of}
use Rattle.history.specs.AnsweredLaw.{AnsweredNumbers, count_in}
use Rattle.history.specs.Orders.{New}
use Rattle.history.specs.Runs.{Heard, Latest, Nth, Until, WordCall, answer_at, event, event_of, events_of, fleet_at, register_at}
use Rattle.history.proofs.Agreement.{Agree, agree_first, agree_later, both_after, node_of}
use Rattle.history.proofs.BlockSteps.{acted_count, acted_fits, step_own}
use Rattle.history.proofs.Clocks.{Says, nothing, state, Tells, first, known, tells, until_earlier}
use Rattle.history.proofs.Counting.{Last, never, last, block_between, events_one, last_event, numbered, own_count_is}
use Rattle.history.proofs.Judging.{judged, judged_first, values_in}
use Rattle.history.proofs.Moments.{block, block_first, block_says, fits_at, moment, one_switch}
use Rattle.history.proofs.WordRuns.{acting_words}

every_at : (t : Table) (rs : List Rule) (i : ℕ) (d : Rule) → every (rule_fits t.switches t.nodes) rs ≡ true → i < length rs → rule_fits t.switches t.nodes (get_or rs i d) ≡ true
every_at t [] i d all less = let z : ⊥ = omega arith in absurd z
every_at t (r ∷ rs) zero d all less = (and_parts _ _ all).0
every_at t (r ∷ rs) (suc i) d all less = every_at t rs i d (and_parts _ _ all).1 (omega arith)

module _ (k : WordKind) (t : Table) (f : Fleet) (calls : List Call) (is_sound : sound t ≡ true) (new : New k t f) where
  nth_is : (s e : ℕ) → event_of k t f calls s e ≡ true → Nth k t f calls s (suc (events_of k t f calls s e)) e
  nth_is s e is = record { is = is; place = refl }

  pub count_heard : (e s j : ℕ) → event_of k t f calls s e ≡ true → j < t.switches → (l : ℕ) → 1 ≤ l → (l ≤ count_of (known k t f calls is_sound new (suc e) s j)) ↔ Heard k t f calls j l e
  count_heard e s j here below l some = (λ le. from le told.says, λ h. omega (arith, h.1.place, (told.counts h.0 h.1.is).0 h.2))
    where
      told : Tells k t f calls is_sound new j (known k t f calls is_sound new (suc e) s j) (λ i. Until k t f calls i e)
      told = tells k t f calls is_sound new e s j here below

      from : l ≤ count_of (known k t f calls is_sound new (suc e) s j) → Says k t f calls is_sound new j (known k t f calls is_sound new (suc e) s j) → Heard k t f calls j l e
      from le (nothing zero-count is) = let z : ⊥ = omega (arith, zero-count) in absurd z
      from le (state i at count is) =
          let one = numbered k t f calls j (l - 1) (suc i) (omega (arith, count, events_one k t f calls j i at)) in
          let place : suc (events_of k t f calls j one.place) ≡ l = omega (arith, one.number) in
          (one.place, record { is = one.is; place = place }, (told.counts one.place one.is).1 (omega (arith, one.number)))

  -- the latest state of j known to s is the one that its record counts
  pub latest_is : (e s j : ℕ) → event_of k t f calls s e ≡ true → j < t.switches → Latest k t f calls j e (count_of (known k t f calls is_sound new (suc e) s j))
  latest_is e s j here below = record {
    reached = reach (tells k t f calls is_sound new e s j here below).says;
    last = λ l h. omega (arith, h.1.place, ((tells k t f calls is_sound new e s j here below).counts h.0 h.1.is).0 h.2);
  }
    where
      reach : Says k t f calls is_sound new j (known k t f calls is_sound new (suc e) s j) → (count_of (known k t f calls is_sound new (suc e) s j) ≡ 0) ⊎ Heard k t f calls j (count_of (known k t f calls is_sound new (suc e) s j)) e
      reach (nothing zero-count is) = inl zero-count
      reach (state i at count is) = inr (i, record { is = at; place = count }, ((tells k t f calls is_sound new e s j here below).counts i at).1 (omega (arith, count)))

  under : (j e a b : ℕ) → Latest k t f calls j e a → Latest k t f calls j e b → a ≤ b
  under j e a b one two = elim one.reached [
    | inl none-heard ↦ omega arith
    | inr h ↦ two.last a h
  ]

  pub latest_once : (j e a b : ℕ) → Latest k t f calls j e a → Latest k t f calls j e b → a ≡ b
  latest_once j e a b one two = omega (arith, under j e a b one two, under j e b a two one)

  -- the event of another switch that a record tells of is earlier
  pub told_earlier : (e s j i : ℕ) → event_of k t f calls s e ≡ true → j < t.switches → j ≢ s → event_of k t f calls j i ≡ true → suc (events_of k t f calls j i) ≡ count_of (known k t f calls is_sound new (suc e) s j) → i < e
  told_earlier e s j i here below differ at count =
      let le = until_earlier k t f calls is_sound new i e (((tells k t f calls is_sound new e s j here below).counts i at).1 (omega (arith, count))) in
      elim (cases_eq i e) [
        | inl same ↦ absurd (differ (one_switch k t f calls j s e (subst (λ z. event_of k t f calls j z ≡ true) same at) here))
        | inr other ↦ omega arith
      ]

  -- the own record of s before an event: of its first state, or of the state that its last event made
  pub data Own (s e : ℕ) : Type 0 where
    at_first : events_of k t f calls s e ≡ 0 → known k t f calls is_sound new e s s ≡ first k t f calls is_sound new s → Own s e
    at_last : (p : ℕ) → p < e → event_of k t f calls s p ≡ true → events_of k t f calls s e ≡ suc (events_of k t f calls s p) → known k t f calls is_sound new e s s ≡ known k t f calls is_sound new (suc p) s s → Own s e

  pub own_before : (s e : ℕ) → s < t.switches → Own s e
  own_before s e below = way (last_event k t f calls s e)
    where
      way : Last k t f calls s e → Own s e
      way (never none_is many) = at_first many (ap (λ z. record_of (length t.nodes) z s) (block_between k t f calls is_sound new s 0 e (omega arith) (λ q from less. none_is q less) ∙ block_first k t f calls is_sound new s below))
      way (last p less is none_is many) = at_last p less is many (ap (λ z. record_of (length t.nodes) z s) (block_between k t f calls is_sound new s (suc p) e less (λ q from less'. none_is q from less')))

module _ {R : Type 0} (k : Kind R) (held : R → Type 0) (law : Lawful k held) (t : Table) (is_sound : sound t ≡ true) (f : Fleet) (new : New (on_words k) t f) (calls : List Call) (words : AllByRecursion WordCall calls) where
  abbrev rec : ℕ → ℕ → ℕ → List ℕ
  rec i s j = known (on_words k) t f calls is_sound new i s j

  abbrev rec_first : ℕ → List ℕ
  rec_first j = first (on_words k) t f calls is_sound new j

  abbrev of : ℕ → ℕ → Bool
  of s i = event_of (on_words k) t f calls s i

  abbrev many : ℕ → ℕ → ℕ
  many s i = events_of (on_words k) t f calls s i

  pub knows_is : (e s j : ℕ) → knows k t f calls e s j ≡ rec (suc e) s j
  unfolding block
  knows_is e s j = refl

  pub counts : (e : ℕ) → event (on_words k) t f calls e ≡ true → Counts k t f calls e
  counts e is s n nth j below l some =
      subst (λ z. (l ≤ count_of z) ↔ Heard (on_words k) t f calls j l e) (sym (knows_is e s j)) (count_heard (on_words k) t f calls is_sound new e s j nth.is below l some)

  -- Values of a history agree with the words of the run

  module _ (values : ℕ → ℕ → Values R) (history : History k t f calls values) where
    agree_start : (s : ℕ) → s < t.switches → Agree t (values s 0) (values_in k (rec_first s))
    agree_start =
        agree_first k t is_sound (λ s g. k.reading (get_or (start_registers t s) g 0)) (λ s. values s 0) (λ s. values_in k (rec_first s))
        (λ s below. history.starts s below)
        (λ s below. judged_first k held law t is_sound s below f new calls)

    agree_under : (b e s : ℕ) → e < b → of s e ≡ true → Agree t (values s (suc (many s e))) (values_in k (rec (suc e) s s))
    agree_under zero e s less here = let z : ⊥ = omega arith in absurd z
    agree_under (suc b) e s less here =
        go (λ p lower is. agree_under b p s (omega arith) is) (λ j i lower is. agree_under b i j (omega arith) is)
      where
        there : s < t.switches
        there = (moment (on_words k) t f calls is_sound new s e here).below

        go : ((p : ℕ) → p < e → of s p ≡ true → Agree t (values s (suc (many s p))) (values_in k (rec (suc p) s s))) → ((j i : ℕ) → i < e → of j i ≡ true → Agree t (values j (suc (many j i))) (values_in k (rec (suc i) j j))) → Agree t (values s (suc (many s e))) (values_in k (rec (suc e) s s))
        go back others =
            agree_later k t is_sound (λ g. k.reading (register_at (on_words k) t f calls s g (suc e))) (λ g. k.reading (register_at (on_words k) t f calls s g (suc e))) (λ g small. refl)
            (values s (suc (many s e))) (values_in k (rec (suc e) s s))
            (after (values s (many s e))) (after (values_in k (rec e s s)))
            (both_after (before (own_before (on_words k) t f calls is_sound new s e there)))
            (λ j. values j (count_of (rec (suc e) s j))) (λ j. values_in k (rec (suc e) s j))
            at
            (history.goes e s (many s e) (nth_is (on_words k) t f calls is_sound new s e here) (λ j. count_of (rec (suc e) s j)) (λ j below. latest_is (on_words k) t f calls is_sound new e s j here below))
            (judged k held law t is_sound f new calls words e s here)
          where
            before : Own (on_words k) t f calls is_sound new s e → Agree t (values s (many s e)) (values_in k (rec e s s))
            before (at_first zero-many is) = subst (λ z. Agree t (values s z) (values_in k (rec e s s))) (sym zero-many) (subst (λ z. Agree t (values s 0) (values_in k z)) (sym is) (agree_start s there))
            before (at_last p lower at_p more is) = subst (λ z. Agree t (values s z) (values_in k (rec e s s))) (sym more) (subst (λ z. Agree t (values s (suc (many s p))) (values_in k z)) (sym is) (back p lower at_p))

            at : (j : ℕ) → j < t.switches → Agree t (values j (count_of (rec (suc e) s j))) (values_in k (rec (suc e) s j)) ⊎ ((values j (count_of (rec (suc e) s j)) ≡ values s (suc (many s e))) × (values_in k (rec (suc e) s j) ≡ values_in k (rec (suc e) s s)))
            at j below = elim (cases_eq j s) [
              | inl same ↦ inr (
                ap (λ z. values z (count_of (rec (suc e) s z))) same ∙ ap (values s) (own_count_is (on_words k) t f calls is_sound new s there (suc e) ∙ events_one (on_words k) t f calls s e here),
                ap (λ z. values_in k (rec (suc e) s z)) same,
              )
              | inr differ ↦ inl (said differ (tells (on_words k) t f calls is_sound new e s j here below).says)
            ]
              where
                said : j ≢ s → Says (on_words k) t f calls is_sound new j (rec (suc e) s j) → Agree t (values j (count_of (rec (suc e) s j))) (values_in k (rec (suc e) s j))
                said differ (nothing zero-count is) = subst (λ z. Agree t (values j z) (values_in k (rec (suc e) s j))) (sym zero-count) (subst (λ z. Agree t (values j 0) (values_in k z)) (sym is) (agree_start j below))
                said differ (state i at_i count is) = subst (λ z. Agree t (values j z) (values_in k (rec (suc e) s j))) count (subst (λ z. Agree t (values j (suc (many j i))) (values_in k z)) (sym is) (others j i (told_earlier (on_words k) t f calls is_sound new e s j i here below differ at_i count) at_i))

    agree_at : (e s : ℕ) → of s e ≡ true → Agree t (values s (suc (many s e))) (values_in k (rec (suc e) s s))
    agree_at e s here = agree_under (suc e) e s (omega arith) here

  -- The verdict

  rule_truth : (r : ℕ) (d : Rule) → r < length t.rules → ((get_or t.rules r d).node < length t.nodes) × (is_truth (node_of t (get_or t.rules r d).node) ≡ true)
  unfolding truth_node
  rule_truth r d less =
      let fits = and_parts _ _ (every_at t t.rules r d (sound_parts t is_sound).rules less) in
      let p = and_parts (ltb (get_or t.rules r d).node (length t.nodes)) _ fits.1 in
      (ltb-true _ _ p.0, p.1)

  pub verdict : (e : ℕ) → Verdict k t f calls e
  verdict e values history s n nth r d =
      let kw = on_words k in
      let here = nth.is in
      let m = moment kw t f calls is_sound new s e here in
      let old = block kw t f calls e s in
      let acted = acted_block t s m.act old in
      let fits = fits_at kw t f calls is_sound new s e m.below in
      let fits' = acted_fits t s old fits m.act m.makes in
      let said = (step_law k held law t is_sound s acted (own_mask kw t s acted) fits' (acting_words k held law t is_sound f new calls words s e m.act m.does) refl).broken r d in
      let rule = get_or t.rules r d in
      let own_is : drop 1 (rec (suc e) s s) ≡ own_words kw t s acted = ap (λ z. drop 1 (record_of (length t.nodes) z s)) m.becomes ∙ ap (drop 1) (step_own kw t s old fits m.act m.makes) in
      ap (λ z. has (mask_of z) r) m.answered
      ∙ mask_is e s m.act r
      ∙ said
      ∙ elim (cases_Bool (ltb r (length t.rules))) [
        | inr past ↦ and_left _ _ past ∙ sym (and_left _ _ past)
        | inl inside ↦
            let truth = rule_truth r d (ltb-true _ _ inside) in
            let same : (values s n).truths rule.node ≡ (values_of k (own_words kw t s acted)).truths rule.node =
            ap (λ z. (values s z).truths rule.node) (sym nth.place)
            ∙ (agree_at values history e s here).truths rule.node truth.0 truth.1
            ∙ ap (λ z. (values_of k z).truths rule.node) own_is in
            ap (λ b. ltb r (length t.rules) && (eqb rule.switch s && not b)) (sym same)
      ]
    where
      mask_is : (e s : ℕ) (a : Rattle.step.specs.Steps.Act) (r : ℕ) → has (own_mask (on_words k) t s (acted_block t s a (block_at (on_words k) t (fleet_at (on_words k) t f calls e).memory s))) r ≡ has (own_mask (on_words k) t s (acted_block t s a (block (on_words k) t f calls e s))) r
      mask_is e s a r = ap (λ z. has (own_mask (on_words k) t s (acted_block t s a z)) r) (sym (block_says (on_words k) t f calls e s))

  -- the count of an event's answer is its number
  pub numbers : (said : ℕ → Result Reply Fault) (left : List ℕ) (e : ℕ) → said e ≡ answer_at (on_words k) t f calls e → AnsweredNumbers k t f calls said left e
  numbers said left e said-is s n nth =
      let kw = on_words k in
      let m = moment kw t f calls is_sound new s e nth.is in
      let fits = fits_at kw t f calls is_sound new s e m.below in
      let own = own_count (length t.nodes) s in
      ap count_in (said-is ∙ m.answered)
      ∙ ap (λ z. own (acted_block t s m.act z) + 1) (sym (block_says kw t f calls e s))
      ∙ ap (λ z. z + 1) (acted_count t s (block kw t f calls e s) fits m.act m.makes ∙ own_count_is kw t f calls is_sound new s m.below e)
      ∙ add-one (events_of kw t f calls s e)
      ∙ nth.place
