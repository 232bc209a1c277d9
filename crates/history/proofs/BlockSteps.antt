-- What a step leaves in a block, record by record. Assumes nothing.
use Rattle.std.proofs.Common.{◌≡◌, ℕ, zero, suc, ◌+◌, ◌<◌, ◌≤◌, Bool, true, false, cond, not, ◌&&◌, ◌≢◌, List, ◌∷◌, ◌++◌, length, drop, set, sym, refl, ap, ◌∙◌, inl, inr, arith}
use Rattle.std.proofs.lemmas.List.{length-drop, length-set, length-take-le, drop-set-add, take_all, take-append-drop}
use Rattle.std.proofs.lemmas.Bool.{cases_eq, eq-eqb, eqb-true, lt-ltb, ltb-true, ne_eqb}
use Rattle.table.specs.Limits.{register_count}
use Rattle.table.specs.Tables.{Table}
use Rattle.step.specs.Nodes.{WordKind}
use Rattle.step.specs.Records.{block_length, count_of, hand_length, hand_records, newer, put_record, record_length, record_of, records_length, registers_of}
use Rattle.step.specs.Steps.{Act, Fitting, acted_block, advanced, hand_fits, own_count, own_words, receive, register_fits, send, set_register, taken, taken_one}
use Rattle.step.proofs.RecordLaws.{full_record, one_way, put_length, put_other, put_registers, put_same, set_record, taken_length, taken_own}
use Rattle.step.proofs.StepMeaning.{own_length}
use Rattle.history.specs.Calls.{copy_of}
use Rattle.history.proofs.Rows.{row_front, row_length, rows_same}

-- the newer of two records
abbrev pub newest : List ℕ → List ℕ → List ℕ
newest r q = cond (newer r q) r q

-- A takeover

module _ (n m s : ℕ) (copy : List ℕ) (full : records_length n m ≤ length copy) (block : List ℕ) (room : records_length n m ≤ length block) where
  -- record i put leaves record j
  put_leaves : (i : ℕ) → i < n → (j : ℕ) → j ≢ i → (r : List ℕ) → record_of m (taken m s copy block i) j ≡ r → record_of m (taken_one m s copy (taken m s copy block i) i) j ≡ r
  put_leaves i below j differ r was =
      let long = taken_length n m s copy full block room i (omega arith) in
      one_way n m s copy full (λ b. record_of m b j ≡ r) (taken m s copy block i) i was
      (λ _. put_other n m (taken m s copy block i) (omega (arith, long, room)) i below (record_of m copy i) (full_record n m s copy full i below) j differ ∙ was)

  -- not yet reached
  taken_before : (i : ℕ) → i ≤ n → (j : ℕ) → i ≤ j → record_of m (taken m s copy block i) j ≡ record_of m block j
  unfolding taken
  taken_before zero le j later = refl
  taken_before (suc i) le j later =
      put_leaves i (omega arith) j (λ e. omega arith) (record_of m block j) (taken_before i (omega arith) j (omega arith))

  taken_now : (j : ℕ) → j < n → j ≢ s → record_of m (taken_one m s copy (taken m s copy block j) j) j ≡ newest (record_of m copy j) (record_of m block j)
  taken_now j below other =
      let held = taken m s copy block j in
      let long = taken_length n m s copy full block room j (omega arith) in
      let was = taken_before j (omega arith) j (omega arith) in
      let put = put_same n m held (omega (arith, long, room)) j below (record_of m copy j) (full_record n m s copy full j below)
      ∙ take_all (record_length m) (record_of m copy j) (omega (arith, row_length (record_length m) n copy full j below)) in
      ap (λ z. record_of m (cond (not z && newer (record_of m copy j) (record_of m held j)) (put_record m held j (record_of m copy j)) held) j) (ne_eqb j s other)
      ∙ ways (newer (record_of m copy j) (record_of m held j)) held j put
      ∙ ap (λ z. newest (record_of m copy j) z) was
    where
      ways : (b : Bool) (held : List ℕ) (j : ℕ) → record_of m (put_record m held j (record_of m copy j)) j ≡ record_of m copy j → record_of m (cond b (put_record m held j (record_of m copy j)) held) j ≡ cond b (record_of m copy j) (record_of m held j)
      ways true held j put = put
      ways false held j put = refl

  taken_after : (i : ℕ) → i ≤ n → (j : ℕ) → j < i → j ≢ s → record_of m (taken m s copy block i) j ≡ newest (record_of m copy j) (record_of m block j)
  unfolding taken
  taken_after zero le j below other = absurd (omega arith)
  taken_after (suc i) le j below other = elim (cases_eq j i) [
    | inl e ↦ ap (λ z. record_of m (taken_one m s copy (taken m s copy block z) z) j) (sym e) ∙ taken_now j (omega arith) other
    | inr ne ↦ put_leaves i (omega arith) j ne _ (taken_after i (omega arith) j (omega arith) other)
  ]

  taken_registers : (i : ℕ) → i ≤ n → registers_of n m (taken m s copy block i) ≡ registers_of n m block
  unfolding taken
  taken_registers zero le = refl
  taken_registers (suc i) le =
      let long = taken_length n m s copy full block room i (omega arith) in
      let was = taken_registers i (omega arith) in
      one_way n m s copy full (λ b. registers_of n m b ≡ registers_of n m block) (taken m s copy block i) i was
      (λ _. put_registers n m (taken m s copy block i) (omega (arith, long, room)) i (omega arith) (record_of m copy i) (full_record n m s copy full i (omega arith)) ∙ was)

-- The own record worked out

module _ (k : WordKind) (t : Table) (s : ℕ) (block : List ℕ) (fits : Fitting t s block) where
  new_long : record_length (length t.nodes) ≡ length ((own_count (length t.nodes) s block + 1) ∷ own_words k t s block)
  new_long = omega (arith, own_length k t s block)

  room : records_length t.switches (length t.nodes) ≤ length block
  room = omega (arith, fits.shape)

  pub advanced_own : record_of (length t.nodes) (advanced k t s block) s ≡ (own_count (length t.nodes) s block + 1) ∷ own_words k t s block
  advanced_own =
      put_same t.switches (length t.nodes) block room s fits.there _ (omega (arith, new_long))
      ∙ take_all (record_length (length t.nodes)) _ (omega (arith, new_long))

  pub advanced_other : (j : ℕ) → j ≢ s → record_of (length t.nodes) (advanced k t s block) j ≡ record_of (length t.nodes) block j
  advanced_other j differ = put_other t.switches (length t.nodes) block room s fits.there _ (omega (arith, new_long)) j differ

  pub advanced_registers : registers_of t.switches (length t.nodes) (advanced k t s block) ≡ registers_of t.switches (length t.nodes) block
  advanced_registers = put_registers t.switches (length t.nodes) block room s fits.there _ (omega (arith, new_long))

  pub advanced_fits : Fitting t s (advanced k t s block)
  advanced_fits = record {
    there = fits.there;
    shape = put_length t.switches (length t.nodes) block room s fits.there _ (omega (arith, new_long)) ∙ fits.shape;
  }

-- What an act leaves

-- the record of another switch j after an act
abbrev pub told : ℕ → Act → List ℕ → ℕ → List ℕ
told m (set_register g w) block j = record_of m block j
told m send block j = record_of m block j
told m (receive hand) block j = newest (record_of m (hand_records hand) j) (record_of m block j)

-- the registers after an act
abbrev pub registered : Act → List ℕ → List ℕ
registered (set_register g w) registers = set registers g w
registered send registers = registers
registered (receive hand) registers = registers

-- an act that a switch of the table can make
pub record Makes (t : Table) (a : Act) : Type 0 where
  pub hand : hand_fits (hand_length t.switches (length t.nodes)) a ≡ true
  pub register : register_fits a ≡ true

pub makes_set : (t : Table) (g w : ℕ) → g < register_count → Makes t (set_register g w)
makes_set t g w below = record { hand = refl; register = lt-ltb g register_count below }

pub makes_send : (t : Table) → Makes t send
makes_send t = record { hand = refl; register = refl }

pub makes_receive : (t : Table) (hand : List ℕ) → length hand ≡ hand_length t.switches (length t.nodes) → Makes t (receive hand)
makes_receive t hand long = record { hand = eq-eqb (length hand) (hand_length t.switches (length t.nodes)) long; register = refl }

module _ (t : Table) (s : ℕ) (block : List ℕ) (fits : Fitting t s block) where
  wide : records_length t.switches (length t.nodes) ≤ length block
  wide = omega (arith, fits.shape)

  hand_wide : (hand : List ℕ) → Makes t (receive hand) → records_length t.switches (length t.nodes) ≤ length (hand_records hand)
  hand_wide hand makes = omega (arith, length-drop 1 hand, eqb-true (length hand) (hand_length t.switches (length t.nodes)) makes.hand)

  pub acted_fits : (a : Act) → Makes t a → Fitting t s (acted_block t s a block)
  acted_fits (set_register g w) makes = record {
    there = fits.there;
    shape = length-set block (records_length t.switches (length t.nodes) + g) w ∙ fits.shape;
  }
  acted_fits send makes = fits
  acted_fits (receive hand) makes = record {
    there = fits.there;
    shape = taken_length t.switches (length t.nodes) s (hand_records hand) (hand_wide hand makes) block wide t.switches (omega arith) ∙ fits.shape;
  }

  register_record : (g w : ℕ) → Makes t (set_register g w) → (j : ℕ) → j < t.switches → record_of (length t.nodes) (acted_block t s (set_register g w) block) j ≡ record_of (length t.nodes) block j
  register_record g w makes j below =
      set_record t.switches (length t.nodes) block g w (omega (arith, fits.shape, ltb-true g register_count makes.register)) j below

  -- the own record stays
  pub acted_own : (a : Act) → Makes t a → record_of (length t.nodes) (acted_block t s a block) s ≡ record_of (length t.nodes) block s
  acted_own (set_register g w) makes = register_record g w makes s fits.there
  acted_own send makes = refl
  acted_own (receive hand) makes =
      taken_own t.switches (length t.nodes) s (hand_records hand) (hand_wide hand makes) block wide t.switches (omega arith)

  pub acted_count : (a : Act) → Makes t a → own_count (length t.nodes) s (acted_block t s a block) ≡ own_count (length t.nodes) s block
  acted_count a makes = ap count_of (acted_own a makes)

  pub acted_other : (a : Act) → Makes t a → (j : ℕ) → j < t.switches → j ≢ s → record_of (length t.nodes) (acted_block t s a block) j ≡ told (length t.nodes) a block j
  acted_other (set_register g w) makes j below differ = register_record g w makes j below
  acted_other send makes j below differ = refl
  acted_other (receive hand) makes j below differ =
      taken_after t.switches (length t.nodes) s (hand_records hand) (hand_wide hand makes) block wide t.switches (omega arith) j below differ

  registers_long : (b : List ℕ) → length b ≡ block_length t.switches (length t.nodes) → registers_of t.switches (length t.nodes) b ≡ drop (records_length t.switches (length t.nodes)) b
  registers_long b long = take_all register_count _ (omega (arith, length-drop (records_length t.switches (length t.nodes)) b))

  pub acted_registers : (a : Act) → Makes t a → registers_of t.switches (length t.nodes) (acted_block t s a block) ≡ registered a (registers_of t.switches (length t.nodes) block)
  acted_registers (set_register g w) makes =
      registers_long (acted_block t s (set_register g w) block) (acted_fits (set_register g w) makes).shape
      ∙ drop-set-add (records_length t.switches (length t.nodes)) block g w
      ∙ ap (λ z. set z g w) (sym (registers_long block fits.shape))
  acted_registers send makes = refl
  acted_registers (receive hand) makes =
      taken_registers t.switches (length t.nodes) s (hand_records hand) (hand_wide hand makes) block wide t.switches (omega arith)

-- What a step leaves

module _ (k : WordKind) (t : Table) (s : ℕ) (block : List ℕ) (fits : Fitting t s block) (a : Act) (makes : Makes t a) where
  pub step_fits : Fitting t s (advanced k t s (acted_block t s a block))
  step_fits = advanced_fits k t s (acted_block t s a block) (acted_fits t s block fits a makes)

  pub step_own : record_of (length t.nodes) (advanced k t s (acted_block t s a block)) s ≡ (own_count (length t.nodes) s (acted_block t s a block) + 1) ∷ own_words k t s (acted_block t s a block)
  step_own = advanced_own k t s (acted_block t s a block) (acted_fits t s block fits a makes)

  -- the own count grows by 1
  pub step_count : own_count (length t.nodes) s (advanced k t s (acted_block t s a block)) ≡ own_count (length t.nodes) s block + 1
  step_count = ap count_of step_own ∙ ap (λ z. z + 1) (acted_count t s block fits a makes)

  pub step_other : (j : ℕ) → j < t.switches → j ≢ s → record_of (length t.nodes) (advanced k t s (acted_block t s a block)) j ≡ told (length t.nodes) a block j
  step_other j below differ =
      advanced_other k t s (acted_block t s a block) (acted_fits t s block fits a makes) j differ ∙ acted_other t s block fits a makes j below differ

  pub step_registers : registers_of t.switches (length t.nodes) (advanced k t s (acted_block t s a block)) ≡ registered a (registers_of t.switches (length t.nodes) block)
  step_registers =
      advanced_registers k t s (acted_block t s a block) (acted_fits t s block fits a makes) ∙ acted_registers t s block fits a makes

-- A copy of a block

module _ (k : WordKind) (t : Table) (s : ℕ) (block : List ℕ) (long : length block ≡ block_length t.switches (length t.nodes)) where
  pub copy_long : length (copy_of k t s block) ≡ hand_length t.switches (length t.nodes)
  copy_long = omega (arith, length-take-le (records_length t.switches (length t.nodes)) block (omega (arith, long)))

  pub copy_record : (j : ℕ) → j < t.switches → record_of (length t.nodes) (hand_records (copy_of k t s block)) j ≡ record_of (length t.nodes) block j
  copy_record j below = row_front (record_length (length t.nodes)) t.switches block j below

-- blocks with the same records and registers are the same
pub same_block : (n m : ℕ) (one two : List ℕ) → length one ≡ block_length n m → length two ≡ block_length n m → ((j : ℕ) → j < n → record_of m one j ≡ record_of m two j) → registers_of n m one ≡ registers_of n m two → one ≡ two
same_block n m one two long long' records registers =
    let front = rows_same (record_length m) n one two records in
    let back : drop (records_length n m) one ≡ drop (records_length n m) two =
    sym (take_all register_count _ (omega (arith, long, length-drop (records_length n m) one)))
    ∙ registers
    ∙ take_all register_count _ (omega (arith, long', length-drop (records_length n m) two)) in
    sym (take-append-drop (records_length n m) one)
    ∙ (λ i. front i ++ back i)
    ∙ take-append-drop (records_length n m) two
