-- The words of a run stand for the values that the logic defines over its history. Assumes nothing.
use Rattle.std.proofs.Common.{◌≡◌, ℕ, zero, suc, ◌<◌, true, false, cond, ◌&&◌, eqb, ◌⊎◌, List, length, get_or, drop, set, sym, refl, ap, ◌∙◌, subst, inl, inr, arith}
use Rattle.std.proofs.lemmas.List.{get_or-set_other, get_or-set_same, length-drop, length-take-le}
use Rattle.std.proofs.lemmas.Bool.{and_cases, both_ways, cases_Bool, cases_eq, cond-false, cond-true, eq-eqb, ne_eqb}
use Rattle.std.specs.List.{AllByRecursion}
use Rattle.table.specs.Limits.{register_count}
use Rattle.table.specs.Tables.{Table, sound}
use Rattle.step.proofs.OpeningMeaning.{opened_registers, opening_meaning}
use Rattle.step.proofs.StepMeaning.{step_meaning}
use Rattle.readings.specs.Kinds.{Kind, Lawful}
use Rattle.step.specs.Logic.{Values, Meaning, after, none, values_of}
use Rattle.step.specs.Nodes.{on_words, WordKind}
use Rattle.step.specs.Opening.{opened, start_registers}
use Rattle.step.specs.Records.{record_of, records_length, registers_of}
use Rattle.step.specs.StepLaws.{record_words}
use Rattle.step.specs.StepLaws as laws
use Rattle.step.specs.Steps.{Act, acted_block, own_words}
use Rattle.history.specs.Calls.{Call, set_call, send_call, receive_call, retire_call, Fleet}
use Rattle.history.specs.Orders.{New}
use Rattle.history.specs.Runs.{WordCall, call_at, event, event_of, fleet_at, is_at, register_at, written}
use Rattle.history.proofs.Agreement.{moved}
use Rattle.history.proofs.BlockSteps.{acted_fits, acted_own, advanced_other, advanced_registers, registered, step_own, step_registers}
use Rattle.history.proofs.Calling.{Does, sets, sends, receives}
use Rattle.history.proofs.Clocks.{first, known}
use Rattle.history.proofs.Memory.{first_records}
use Rattle.history.proofs.Moments.{block, block_first, block_kept, fits_at, moment, of_event}
use Rattle.history.proofs.WordRuns.{acting_words}

-- The registers

written_other : (k : WordKind) (t : Table) (f : Fleet) (calls : List Call) (c : Call) (s g old : ℕ) → is_at c s ≡ false → written k t f calls c s g old ≡ old
written_other k t f calls (set_call r h w) s g old away = ap (λ b. cond (b && eqb h g) w old) away
written_other k t f calls (send_call r) s g old away = refl
written_other k t f calls (receive_call r x) s g old away = refl
written_other k t f calls (retire_call x) s g old away = refl

set_one : (regs : List ℕ) (r w g : ℕ) → r < length regs → get_or (set regs r w) g 0 ≡ cond (eqb r g) w (get_or regs g 0)
set_one regs r w g inside = elim (cases_eq g r) [
  | inl e ↦ ap (λ z. get_or (set regs r w) z 0) e ∙ get_or-set_same regs r w 0 inside ∙ sym (cond-true _ w (get_or regs g 0) (eq-eqb r g (sym e)))
  | inr differ ↦ get_or-set_other regs r g w 0 differ ∙ sym (cond-false _ w (get_or regs g 0) (ne_eqb r g (λ e. differ (sym e))))
]

module _ (k : WordKind) (t : Table) (f : Fleet) (calls : List Call) where
  register_event : (s g i : ℕ) → event k t f calls i ≡ true → register_at k t f calls s g (suc i) ≡ written k t f calls (call_at k t f calls i) s g (register_at k t f calls s g i)
  unfolding register_at
  register_event s g i is = cond-true (event k t f calls i) _ _ is

  register_quiet : (s g i : ℕ) → event_of k t f calls s i ≡ false → register_at k t f calls s g (suc i) ≡ register_at k t f calls s g i
  unfolding register_at event_of
  register_quiet s g i quiet = elim (cases_Bool (event k t f calls i)) [
    | inr nothing ↦ cond-false (event k t f calls i) _ _ nothing
    | inl is ↦ cond-true (event k t f calls i) _ _ is ∙ written_other k t f calls (call_at k t f calls i) s g (register_at k t f calls s g i) (away is (and_cases _ _ quiet))
  ]
    where
      away : event k t f calls i ≡ true → (event k t f calls i ≡ false) ⊎ (is_at (call_at k t f calls i) s ≡ false) → is_at (call_at k t f calls i) s ≡ false
      away is (inl nothing) = absurd (both_ways _ nothing is)
      away is (inr no-at) = no-at

  register_start : (s g : ℕ) → register_at k t f calls s g 0 ≡ get_or (start_registers t s) g 0
  unfolding register_at
  register_start s g = refl

  module _ (is_sound : sound t ≡ true) (new : New k t f) where
    abbrev registers : ℕ → ℕ → List ℕ
    registers i s = registers_of t.switches (length t.nodes) (block k t f calls i s)

    registers_long : (s i : ℕ) → s < t.switches → length (registers i s) ≡ register_count
    registers_long s i below =
        let shape = (fits_at k t f calls is_sound new s i below).shape in
        length-take-le register_count _ (omega (arith, shape, length-drop (records_length t.switches (length t.nodes)) (block k t f calls i s)))

    -- the registers in a block are those of the history
    pub registers_are : (s g : ℕ) → s < t.switches → (i : ℕ) → get_or (registers i s) g 0 ≡ register_at k t f calls s g i
    registers_are s g below zero =
        ap (λ z. get_or (registers_of t.switches (length t.nodes) z) g 0) (block_first k t f calls is_sound new s below)
        ∙ ap (λ z. get_or z g 0) (opened_registers k t is_sound s below)
        ∙ sym (register_start s g)
    registers_are s g below (suc i) = elim (cases_Bool (event_of k t f calls s i)) [
      | inr quiet ↦
          ap (λ z. get_or (registers_of t.switches (length t.nodes) z) g 0) (block_kept k t f calls is_sound new s i quiet)
          ∙ registers_are s g below i
          ∙ sym (register_quiet s g i quiet)
      | inl is ↦ now is (registers_are s g below i)
    ]
      where
        now : event_of k t f calls s i ≡ true → get_or (registers i s) g 0 ≡ register_at k t f calls s g i → get_or (registers (suc i) s) g 0 ≡ register_at k t f calls s g (suc i)
        now is before =
            let m = moment k t f calls is_sound new s i is in
            ap (λ z. get_or (registers_of t.switches (length t.nodes) z) g 0) m.becomes
            ∙ ap (λ z. get_or z g 0) (step_registers k t s (block k t f calls i s) (fits_at k t f calls is_sound new s i below) m.act m.makes)
            ∙ way m.act m.does
            ∙ sym (register_event s g i (of_event k t f calls s i is))
          where
            way : (a : Act) → Does k t (fleet_at k t f calls i) (call_at k t f calls i) s a → get_or (registered a (registers i s)) g 0 ≡ written k t f calls (call_at k t f calls i) s g (register_at k t f calls s g i)
            way a (sets r w call acts small) =
                ap (λ z. get_or (registered z (registers i s)) g 0) acts
                ∙ set_one (registers i s) r w g (omega (arith, small, registers_long s i below))
                ∙ ap (λ z. cond (eqb r g) w z) before
                ∙ sym (ap (λ z. written k t f calls z s g (register_at k t f calls s g i)) call ∙ ap (λ b. cond (b && eqb r g) w (register_at k t f calls s g i)) (eq-eqb s s refl))
            way a (sends call acts space) = ap (λ z. get_or (registered z (registers i s)) g 0) acts ∙ before ∙ sym (ap (λ z. written k t f calls z s g (register_at k t f calls s g i)) call)
            way a (receives x copy call acts found) = ap (λ z. get_or (registered z (registers i s)) g 0) acts ∙ before ∙ sym (ap (λ z. written k t f calls z s g (register_at k t f calls s g i)) call)

-- The values that a record stands for

abbrev pub values_in : {R : Type 0} → Kind R → List ℕ → Values R
values_in k r = values_of k (drop 1 r)

module _ {R : Type 0} (k : Kind R) (held : R → Type 0) (law : Lawful k held) (t : Table) (is_sound : sound t ≡ true) where
  -- at the first states
  pub judged_first : (s : ℕ) → s < t.switches → (f : Fleet) (new : New (on_words k) t f) (calls : List Call)
      → Meaning k (λ g. k.reading (get_or (start_registers t s) g 0)) none (λ j. values_in k (first (on_words k) t f calls is_sound new j)) (values_in k (first (on_words k) t f calls is_sound new s)) t.nodes
  judged_first s below f new calls =
      moved k t is_sound (λ g. k.reading (get_or (start_registers t s) g 0)) (λ g. k.reading (get_or (start_registers t s) g 0)) (λ g small. refl) none
      (λ j. values_of k (record_words (length t.nodes) (opened (on_words k) t s) j)) (λ j. values_in k (first (on_words k) t f calls is_sound new j))
      (λ j known_j. ap (values_in k) (first_records (on_words k) t s j j known_j))
      (values_in k (first (on_words k) t f calls is_sound new s))
      (opening_meaning k held law t is_sound s below s below)

  module _ (f : Fleet) (new : New (on_words k) t f) (calls : List Call) (words : AllByRecursion WordCall calls) where
    abbrev record_at : ℕ → ℕ → ℕ → List ℕ
    record_at i s j = known (on_words k) t f calls is_sound new i s j

    -- at the state that an event makes
    pub judged : (e s : ℕ) → event_of (on_words k) t f calls s e ≡ true
        → Meaning k (λ g. k.reading (register_at (on_words k) t f calls s g (suc e))) (after (values_in k (record_at e s s))) (λ j. values_in k (record_at (suc e) s j)) (values_in k (record_at (suc e) s s)) t.nodes
    judged e s here =
        let m = length t.nodes in
        let kw = on_words k in
        let old = block kw t f calls e s in
        let mo = moment kw t f calls is_sound new s e here in
        let fits = fits_at kw t f calls is_sound new s e mo.below in
        let acted = acted_block t s mo.act old in
        let fits' = acted_fits t s old fits mo.act mo.makes in
        let own_is : drop 1 (record_at (suc e) s s) ≡ own_words kw t s acted = ap (λ z. drop 1 (record_of m z s)) mo.becomes ∙ ap (drop 1) (step_own kw t s old fits mo.act mo.makes) in
        let before_is : drop 1 (record_of m acted s) ≡ drop 1 (record_at e s s) = ap (drop 1) (acted_own t s old fits mo.act mo.makes) in
        let meant = step_meaning k held law t is_sound s acted fits' (acting_words k held law t is_sound f new calls words s e mo.act mo.does) in
        let v = values_of k (own_words kw t s acted) in
        subst (λ z. Meaning k (λ g. k.reading (register_at kw t f calls s g (suc e))) (after (values_in k (record_at e s s))) (λ j. values_in k (record_at (suc e) s j)) (values_of k z) t.nodes) (sym own_is)
        (moved k t is_sound (λ g. k.reading (get_or (registers_of t.switches m acted) g 0)) (λ g. k.reading (register_at kw t f calls s g (suc e)))
        (λ g small. ap k.reading (
        sym (ap (λ z. get_or z g 0) (advanced_registers kw t s acted fits'))
        ∙ ap (λ z. get_or (registers_of t.switches m z) g 0) (sym mo.becomes)
        ∙ registers_are kw t f calls is_sound new s g mo.below (suc e)))
        (after (values_in k (record_at e s s)))
        (laws.known k m acted s v) (λ j. values_in k (record_at (suc e) s j))
        (λ j below. elim (cases_eq j s) [
          | inl same ↦ cond-true (eqb j s) v _ (eq-eqb j s same) ∙ ap (values_of k) (sym own_is) ∙ ap (λ z. values_in k (record_at (suc e) s z)) (sym same)
          | inr differ ↦ cond-false (eqb j s) v _ (ne_eqb j s differ) ∙ ap (values_in k) (sym (ap (λ z. record_of m z j) mo.becomes ∙ advanced_other kw t s acted fits' j differ))
        ])
        v
        (subst (λ z. Meaning k (λ g. k.reading (get_or (registers_of t.switches m acted) g 0)) (after (values_of k z)) (laws.known k m acted s v) v t.nodes) before_is meant))
