-- The logic: what the value of each node is at one state of a switch. Assumes nothing.
use Rattle.std.specs.Prelude.{◌≡◌, ℕ, ◌<◌, Bool, not, ◌&&◌, ◌||◌, List, length, slice_index, slice_index_or}
use Rattle.table.specs.declared.node.Node.{Node}
use Rattle.table.specs.declared.node.Node.TheVariants.{Truth, Not, And, Or, Implies, Iff, Previously, Once, Always, Since, TruthAt, Within, Same, Constant, Register, Join, Cut, ReadingAt}
use Rattle.readings.specs.Kinds.{Kind}
use Rattle.step.specs.Truths.{truth, implied, iff}

-- The values of the nodes at one state: a truth node has a truth, a reading node a reading
pub record Values (R : Type 0) : Type 0 where
  pub truths : ℕ → Bool
  pub readings : ℕ → R

-- the values that the words of a record stand for
abbrev pub values_of : {R : Type 0} → Kind R → List ℕ → Values R
values_of k words = record { truths = λ i. truth (slice_index words i); readings = λ i. k.reading (slice_index words i) }

-- The state before, of the same switch; a first state has none
pub data Before (R : Type 0) : Type 0 where
  none : Before R
  after : Values R → Before R

abbrev pub previously : {R : Type 0} → Before R → Bool → ℕ → Bool
previously none now a = now
previously (after u) now a = u.truths a

abbrev pub once : {R : Type 0} → Before R → Bool → ℕ → Bool
once none a i = a
once (after u) a i = a || u.truths i

abbrev pub always : {R : Type 0} → Before R → Bool → ℕ → Bool
always none a i = a
always (after u) a i = a && u.truths i

abbrev pub since : {R : Type 0} → Before R → Bool → Bool → ℕ → Bool
since none a b i = b
since (after u) a b i = b || (a && u.truths i)

-- Node i has the value that its kind says, at a state with these values: registers are those of the switch, before is
-- the state before, and at j is switch j's latest known state, which is this state where j is the switch itself
abbrev pub Obeys : {R : Type 0} → Kind R → (ℕ → R) → Before R → (ℕ → Values R) → Values R → ℕ → Node → Type 0
Obeys k registers before at v i (Truth b) = v.truths i ≡ b
Obeys k registers before at v i (Not a) = v.truths i ≡ not (v.truths a)
Obeys k registers before at v i (And a b) = v.truths i ≡ (v.truths a && v.truths b)
Obeys k registers before at v i (Or a b) = v.truths i ≡ (v.truths a || v.truths b)
Obeys k registers before at v i (Implies a b) = v.truths i ≡ implied (v.truths a) (v.truths b)
Obeys k registers before at v i (Iff a b) = v.truths i ≡ iff (v.truths a) (v.truths b)
Obeys k registers before at v i (Previously a) = v.truths i ≡ previously before (v.truths a) a
Obeys k registers before at v i (Once a) = v.truths i ≡ once before (v.truths a) i
Obeys k registers before at v i (Always a) = v.truths i ≡ always before (v.truths a) i
Obeys k registers before at v i (Since a b) = v.truths i ≡ since before (v.truths a) (v.truths b) i
Obeys k registers before at v i (TruthAt j b) = v.truths i ≡ (at j).truths b
Obeys k registers before at v i (Within a b) = v.truths i ≡ k.inside (v.readings a) (v.readings b)
Obeys k registers before at v i (Same a b) = v.truths i ≡ k.equal (v.readings a) (v.readings b)
Obeys k registers before at v i (Constant w) = v.readings i ≡ k.reading w
Obeys k registers before at v i (Register g) = v.readings i ≡ registers g
Obeys k registers before at v i (Join a b) = v.readings i ≡ k.joined (v.readings a) (v.readings b)
Obeys k registers before at v i (Cut a b) = v.readings i ≡ k.less (v.readings a) (v.readings b)
Obeys k registers before at v i (ReadingAt j b) = v.readings i ≡ (at j).readings b

-- every node does
abbrev pub Meaning : {R : Type 0} → Kind R → (ℕ → R) → Before R → (ℕ → Values R) → Values R → List Node → Type 0
Meaning k registers before at v nodes = (i : ℕ) (d : Node) → i < length nodes → Obeys k registers before at v i (slice_index_or nodes i d)
