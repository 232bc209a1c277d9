-- The logic's definition has one solution: values that obey it from the same beginnings agree. Assumes nothing.
use Rattle.std.proofs.Common.{◌≡◌, ℕ, zero, suc, ◌<◌, ◌≤◌, Bool, true, false, not, ◌&&◌, ◌||◌, ltb, ◌⊎◌, List, length, get_or, take, sym, refl, ap, ◌∙◌, subst, inl, inr, arith}
use Rattle.std.proofs.lemmas.List.{get_or_default, get_or-take, length-take-le}
use Rattle.std.proofs.lemmas.Bool.{and_parts, both_ways, cases_eq, ltb-true, not-true}
use Rattle.table.proofs.Soundness.{nodes_at, sound_parts}
use Rattle.table.specs.Limits.{register_count}
use Rattle.table.specs.Nodes.{is_truth, node_fits, reading_node, truth_node}
use Rattle.table.specs.Tables.{Table, node_holds, sound}
use Rattle.table.specs.declared.node.Node.{Node}
use Rattle.table.specs.declared.node.Node.TheVariants.{Truth, Not, And, Or, Implies, Iff, Previously, Once, Always, Since, TruthAt, Within, Same, Constant, Register, Join, Cut, ReadingAt}
use Rattle.readings.specs.Kinds.{Kind}
use Rattle.step.specs.Logic.{Values, Before, none, after, Obeys, Meaning, previously, once, always, since}
use Rattle.step.specs.Truths.{implied, iff}

-- node i of the table; past its end it does not matter
abbrev pub node_of : Table → ℕ → Node
node_of t i = get_or t.nodes i (Truth false)

-- the same truths at the truth nodes below i, and the same readings at the reading nodes
pub record AgreeBelow {R : Type 0} (t : Table) (i : ℕ) (v u : Values R) : Type 0 where
  pub truths : (a : ℕ) → a < i → is_truth (node_of t a) ≡ true → v.truths a ≡ u.truths a
  pub readings : (a : ℕ) → a < i → is_truth (node_of t a) ≡ false → v.readings a ≡ u.readings a

abbrev pub Agree : {R : Type 0} → Table → Values R → Values R → Type 0
Agree t v u = AgreeBelow t (length t.nodes) v u

pub data AgreeBefore {R : Type 0} (t : Table) : Before R → Before R → Type 0 where
  both_none : AgreeBefore t none none
  both_after : {v u : Values R} → Agree t v u → AgreeBefore t (after v) (after u)

-- agreement on fewer nodes
pub agree_less : {R : Type 0} (t : Table) (i j : ℕ) (v u : Values R) → i ≤ j → AgreeBelow t j v u → AgreeBelow t i v u
agree_less t i j v u le agree = record {
  truths = λ a less is. agree.truths a (omega arith) is;
  readings = λ a less is. agree.readings a (omega arith) is;
}

-- One node

module _ {R : Type 0} (k : Kind R) (t : Table) (is_sound : sound t ≡ true) (regs regs' : ℕ → R) (same_registers : (g : ℕ) → g < register_count → regs g ≡ regs' g)
    (v u : Values R) (old old' : Before R) (same_old : AgreeBefore t old old') (at at' : ℕ → Values R)
    (i : ℕ) (inside : i < length t.nodes) (lower : AgreeBelow t i v u) (same_at : (j : ℕ) → j < t.switches → AgreeBelow t i (at j) (at' j)) where
  truth_low : (a : ℕ) → truth_node (take i t.nodes) a ≡ true → (a < i) × (is_truth (node_of t a) ≡ true)
  unfolding truth_node
  truth_low a h =
      let p = and_parts (ltb a (length (take i t.nodes))) _ h in
      let less : a < i = omega (arith, ltb-true a _ p.0, length-take-le i t.nodes (omega arith)) in
      (less, ap is_truth (sym (get_or-take i t.nodes a (Truth false) less)) ∙ p.1)

  reading_low : (a : ℕ) → reading_node (take i t.nodes) a ≡ true → (a < i) × (is_truth (node_of t a) ≡ false)
  unfolding reading_node
  reading_low a h =
      let p = and_parts (ltb a (length (take i t.nodes))) _ h in
      let less : a < i = omega (arith, ltb-true a _ p.0, length-take-le i t.nodes (omega arith)) in
      (less, ap is_truth (sym (get_or-take i t.nodes a (Truth false) less)) ∙ not-true _ p.1)

  one : {A : Type 0} (f : Bool → A) (a : ℕ) → truth_node (take i t.nodes) a ≡ true → f (v.truths a) ≡ f (u.truths a)
  one f a h = let p = truth_low a h in ap f (lower.truths a p.0 p.1)

  two : (f : Bool → Bool → Bool) (a b : ℕ) → (truth_node (take i t.nodes) a && truth_node (take i t.nodes) b) ≡ true → f (v.truths a) (v.truths b) ≡ f (u.truths a) (u.truths b)
  two f a b h = let p = and_parts _ _ h in one (λ x. f x (v.truths b)) a p.0 ∙ one (λ x. f (u.truths a) x) b p.1

  two_readings : {A : Type 0} (f : R → R → A) (a b : ℕ) → (reading_node (take i t.nodes) a && reading_node (take i t.nodes) b) ≡ true → f (v.readings a) (v.readings b) ≡ f (u.readings a) (u.readings b)
  two_readings f a b h =
      let p = and_parts _ _ h in
      let x = reading_low a p.0 in
      let y = reading_low b p.1 in
      ap (λ z. f z (v.readings b)) (lower.readings a x.0 x.1) ∙ ap (λ z. f (u.readings a) z) (lower.readings b y.0 y.1)

  at_truth : (j b : ℕ) → (ltb j t.switches && truth_node (take i t.nodes) b) ≡ true → (at j).truths b ≡ (at' j).truths b
  at_truth j b h = let p = and_parts _ _ h in let x = truth_low b p.1 in (same_at j (ltb-true _ _ p.0)).truths b x.0 x.1

  at_reading : (j b : ℕ) → (ltb j t.switches && reading_node (take i t.nodes) b) ≡ true → (at j).readings b ≡ (at' j).readings b
  at_reading j b h = let p = and_parts _ _ h in let x = reading_low b p.1 in (same_at j (ltb-true _ _ p.0)).readings b x.0 x.1

  previously_same : (o o' : Before R) → AgreeBefore t o o' → (a : ℕ) → truth_node (take i t.nodes) a ≡ true → previously o (v.truths a) a ≡ previously o' (u.truths a) a
  previously_same o o' both_none a h = one (λ x. x) a h
  previously_same o o' (both_after agree) a h = let p = truth_low a h in agree.truths a (omega (arith, p.0)) p.1

  once_same : (o o' : Before R) → AgreeBefore t o o' → is_truth (node_of t i) ≡ true → (x : Bool) → once o x i ≡ once o' x i
  once_same o o' both_none is x = refl
  once_same o o' (both_after agree) is x = ap (λ z. x || z) (agree.truths i inside is)

  always_same : (o o' : Before R) → AgreeBefore t o o' → is_truth (node_of t i) ≡ true → (x : Bool) → always o x i ≡ always o' x i
  always_same o o' both_none is x = refl
  always_same o o' (both_after agree) is x = ap (λ z. x && z) (agree.truths i inside is)

  since_same : (o o' : Before R) → AgreeBefore t o o' → is_truth (node_of t i) ≡ true → (x y : Bool) → since o x y i ≡ since o' x y i
  since_same o o' both_none is x y = refl
  since_same o o' (both_after agree) is x y = ap (λ z. y || (x && z)) (agree.truths i inside is)

  Value : Node → Type 0
  Value x = (is_truth x ≡ true → v.truths i ≡ u.truths i) × (is_truth x ≡ false → v.readings i ≡ u.readings i)

  truth_value : (x : Node) → is_truth x ≡ true → v.truths i ≡ u.truths i → Value x
  unfolding Value
  truth_value x is e = (λ _. e, λ no_truth. absurd (both_ways _ no_truth is))

  reading_value : (x : Node) → is_truth x ≡ false → v.readings i ≡ u.readings i → Value x
  unfolding Value
  reading_value x is e = (λ a_truth. absurd (both_ways _ is a_truth), λ _. e)

  value_same : (x : Node) → (is_truth x ≡ true → is_truth (node_of t i) ≡ true) → node_holds x ≡ true → node_fits t.switches (take i t.nodes) x ≡ true → Obeys k regs old at v i x → Obeys k regs' old' at' u i x → Value x
  value_same (Truth b) is holds fits p q = truth_value (Truth b) refl (p ∙ sym q)
  value_same (Not a) is holds fits p q = truth_value (Not a) refl (p ∙ one (λ x. not x) a fits ∙ sym q)
  value_same (And a b) is holds fits p q = truth_value (And a b) refl (p ∙ two (λ x y. x && y) a b fits ∙ sym q)
  value_same (Or a b) is holds fits p q = truth_value (Or a b) refl (p ∙ two (λ x y. x || y) a b fits ∙ sym q)
  value_same (Implies a b) is holds fits p q = truth_value (Implies a b) refl (p ∙ two implied a b fits ∙ sym q)
  value_same (Iff a b) is holds fits p q = truth_value (Iff a b) refl (p ∙ two iff a b fits ∙ sym q)
  value_same (Previously a) is holds fits p q = truth_value (Previously a) refl (p ∙ previously_same old old' same_old a fits ∙ sym q)
  value_same (Once a) is holds fits p q = truth_value (Once a) refl (p ∙ once_same old old' same_old (is refl) (v.truths a) ∙ one (λ x. once old' x i) a fits ∙ sym q)
  value_same (Always a) is holds fits p q = truth_value (Always a) refl (p ∙ always_same old old' same_old (is refl) (v.truths a) ∙ one (λ x. always old' x i) a fits ∙ sym q)
  value_same (Since a b) is holds fits p q = truth_value (Since a b) refl (p ∙ since_same old old' same_old (is refl) (v.truths a) (v.truths b) ∙ two (λ x y. since old' x y i) a b fits ∙ sym q)
  value_same (TruthAt j b) is holds fits p q = truth_value (TruthAt j b) refl (p ∙ at_truth j b fits ∙ sym q)
  value_same (Within a b) is holds fits p q = truth_value (Within a b) refl (p ∙ two_readings k.inside a b fits ∙ sym q)
  value_same (Same a b) is holds fits p q = truth_value (Same a b) refl (p ∙ two_readings k.equal a b fits ∙ sym q)
  value_same (Constant w) is holds fits p q = reading_value (Constant w) refl (p ∙ sym q)
  value_same (Register g) is holds fits p q = reading_value (Register g) refl (p ∙ same_registers g (ltb-true g register_count holds) ∙ sym q)
  value_same (Join a b) is holds fits p q = reading_value (Join a b) refl (p ∙ two_readings k.joined a b fits ∙ sym q)
  value_same (Cut a b) is holds fits p q = reading_value (Cut a b) refl (p ∙ two_readings k.less a b fits ∙ sym q)
  value_same (ReadingAt j b) is holds fits p q = reading_value (ReadingAt j b) refl (p ∙ at_reading j b fits ∙ sym q)

  -- node i has the same value, where what it is worked out from agrees
  agree_more : Meaning k regs old at v t.nodes → Meaning k regs' old' at' u t.nodes → AgreeBelow t (suc i) v u
  unfolding Value
  agree_more one_obeys two_obeys =
      let node = nodes_at t.switches t.nodes (sound_parts t is_sound).nodes i inside in
      let here = value_same (node_of t i) (λ z. z) node.holds node.fits (one_obeys i (Truth false) inside) (two_obeys i (Truth false) inside) in
      record {
        truths = λ a less is. elim (cases_eq a i) [
          | inl e ↦ subst (λ z. v.truths z ≡ u.truths z) (sym e) (here.0 (ap (λ z. is_truth (node_of t z)) (sym e) ∙ is))
          | inr differ ↦ lower.truths a (omega arith) is
        ];
        readings = λ a less is. elim (cases_eq a i) [
          | inl e ↦ subst (λ z. v.readings z ≡ u.readings z) (sym e) (here.1 (ap (λ z. is_truth (node_of t z)) (sym e) ∙ is))
          | inr differ ↦ lower.readings a (omega arith) is
        ];
      }

agree_none : {R : Type 0} (t : Table) (v u : Values R) → AgreeBelow t 0 v u
agree_none t v u = record { truths = λ a less is. let z : ⊥ = omega arith in absurd z; readings = λ a less is. let z : ⊥ = omega arith in absurd z }

-- A later state: every other switch's state agrees already

module _ {R : Type 0} (k : Kind R) (t : Table) (is_sound : sound t ≡ true) (regs regs' : ℕ → R) (same_registers : (g : ℕ) → g < register_count → regs g ≡ regs' g)
    (v u : Values R) (old old' : Before R) (same_old : AgreeBefore t old old') (at at' : ℕ → Values R)
    (same_at : (j : ℕ) → j < t.switches → Agree t (at j) (at' j) ⊎ ((at j ≡ v) × (at' j ≡ u)))
    (one_obeys : Meaning k regs old at v t.nodes) (two_obeys : Meaning k regs' old' at' u t.nodes) where
  agree_to : (i : ℕ) → i ≤ length t.nodes → AgreeBelow t i v u
  agree_to zero le = agree_none t v u
  agree_to (suc i) le =
      let lower = agree_to i (omega arith) in
      agree_more k t is_sound regs regs' same_registers v u old old' same_old at at' i le lower
      (λ j below. elim (same_at j below) [
        | inl agree ↦ agree_less t i (length t.nodes) (at j) (at' j) (omega arith) agree
        | inr own ↦ subst (λ z. AgreeBelow t i z (at' j)) (sym own.0) (subst (λ z. AgreeBelow t i v z) (sym own.1) lower)
      ])
      one_obeys two_obeys

  -- values that obey the logic from the same beginnings agree
  pub agree_later : Agree t v u
  agree_later = agree_to (length t.nodes) (omega arith)

-- The first states of all switches together

module _ {R : Type 0} (k : Kind R) (t : Table) (is_sound : sound t ≡ true) (regs : ℕ → ℕ → R) (v u : ℕ → Values R)
    (one_obeys : (s : ℕ) → s < t.switches → Meaning k (regs s) none v (v s) t.nodes) (two_obeys : (s : ℕ) → s < t.switches → Meaning k (regs s) none u (u s) t.nodes) where
  agree_first_to : (i : ℕ) → i ≤ length t.nodes → (s : ℕ) → s < t.switches → AgreeBelow t i (v s) (u s)
  agree_first_to zero le s below = agree_none t (v s) (u s)
  agree_first_to (suc i) le s below =
      let lower = agree_first_to i (omega arith) in
      agree_more k t is_sound (regs s) (regs s) (λ g small. refl) (v s) (u s) none none both_none v u i le (lower s below) lower (one_obeys s below) (two_obeys s below)

  pub agree_first : (s : ℕ) → s < t.switches → Agree t (v s) (u s)
  agree_first = agree_first_to (length t.nodes) (omega arith)

-- The same values obey the logic where what it names is the same

module _ {R : Type 0} (k : Kind R) (t : Table) (is_sound : sound t ≡ true) (regs regs' : ℕ → R) (same_registers : (g : ℕ) → g < register_count → regs g ≡ regs' g)
    (old : Before R) (at at' : ℕ → Values R) (same_at : (j : ℕ) → j < t.switches → at j ≡ at' j) (v : Values R) where
  move : (i : ℕ) (earlier : List Node) (x : Node) → node_holds x ≡ true → node_fits t.switches earlier x ≡ true → Obeys k regs old at v i x → Obeys k regs' old at' v i x
  move i earlier (Truth b) holds fits p = p
  move i earlier (Not a) holds fits p = p
  move i earlier (And a b) holds fits p = p
  move i earlier (Or a b) holds fits p = p
  move i earlier (Implies a b) holds fits p = p
  move i earlier (Iff a b) holds fits p = p
  move i earlier (Previously a) holds fits p = p
  move i earlier (Once a) holds fits p = p
  move i earlier (Always a) holds fits p = p
  move i earlier (Since a b) holds fits p = p
  move i earlier (TruthAt j b) holds fits p = p ∙ ap (λ z. z.truths b) (same_at j (ltb-true _ _ (and_parts _ _ fits).0))
  move i earlier (Within a b) holds fits p = p
  move i earlier (Same a b) holds fits p = p
  move i earlier (Constant w) holds fits p = p
  move i earlier (Register g) holds fits p = p ∙ same_registers g (ltb-true g register_count holds)
  move i earlier (Join a b) holds fits p = p
  move i earlier (Cut a b) holds fits p = p
  move i earlier (ReadingAt j b) holds fits p = p ∙ ap (λ z. z.readings b) (same_at j (ltb-true _ _ (and_parts _ _ fits).0))

  pub moved : Meaning k regs old at v t.nodes → Meaning k regs' old at' v t.nodes
  moved obeys i d inside =
      let node = nodes_at t.switches t.nodes (sound_parts t is_sound).nodes i inside in
      let same = get_or_default t.nodes i (Truth false) d inside in
      subst (Obeys k regs' old at' v i) same (move i (take i t.nodes) (node_of t i) node.holds node.fits (obeys i (Truth false) inside))
