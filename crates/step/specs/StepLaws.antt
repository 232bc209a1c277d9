-- What a step and an opening do, in the logic's words. Assumes nothing.
use Rattle.std.specs.Prelude.{◌≡◌, ℕ, ◌^◌, ◌<◌, cond, not, ◌&&◌, List, length, drop, Result, ◌==◌, nat_lt, slice_index, slice_index_or}
use Rattle.std.specs.List.{AllByRecursion}
use Rattle.readings.specs.Ports.{has}
use Rattle.table.specs.Tables.{Table}
use Rattle.table.specs.declared.fault.Fault.{Fault}
use Rattle.table.specs.declared.node.Rule.{Rule}
use Rattle.readings.specs.Kinds.{Kind}
use Rattle.step.specs.Logic.{Values, values_of, none, after, Meaning}
use Rattle.step.specs.Nodes.{on_words}
use Rattle.step.specs.Opening.{open_refusal, opened, start_registers}
use Rattle.step.specs.Records.{count_of, record_of, registers_of}
use Rattle.step.specs.Steps.{answer_of, mask, own_words}

-- the words of record j, after its count
abbrev pub record_words : ℕ → List ℕ → ℕ → List ℕ
record_words m block j = drop 1 (record_of m block j)

-- the values that switch s knows of switch j; v are its own
abbrev pub known : {R : Type 0} → Kind R → ℕ → List ℕ → ℕ → Values R → ℕ → Values R
known k m block s v j = cond (j == s) v (values_of k (record_words m block j))

abbrev pub Words : List ℕ → Type 0
Words block = AllByRecursion (λ w. w < 2 ^ 32) block

-- The own words that a step works out from a block stand for values that obey the logic: the state before is the one
-- whose words the own record had, and of another switch it is the one that its record tells of.
abbrev pub StepMeaning : {R : Type 0} → Kind R → Table → ℕ → List ℕ → Type 0
StepMeaning k t s block =
    let m = length t.nodes in
    let v = values_of k (own_words (on_words k) t s block) in
    Meaning k (λ g. k.reading (slice_index (registers_of t.switches m block) g)) (after (values_of k (record_words m block s))) (known k m block s v) v t.nodes

-- The records of an opened block stand for the values at the first states: there is no state before, and of another
-- switch it is its first state that is known.
abbrev pub OpeningMeaning : {R : Type 0} → Kind R → Table → ℕ → Type 0
OpeningMeaning k t s =
    let m = length t.nodes in
    let values = λ (j : ℕ). values_of k (record_words m (opened (on_words k) t s) j) in
    (j : ℕ) → j < t.switches → Meaning k (λ g. k.reading (slice_index (start_registers t j) g)) none values (values j) t.nodes

-- Bit i of the mask that a step answers is set exactly when there is a rule i, it is at s, and its node is false at the
-- new state.
abbrev pub MaskMeaning : {R : Type 0} → Kind R → Table → ℕ → List ℕ → ℕ → Type 0
MaskMeaning k t s block mask =
    let v = values_of k (own_words (on_words k) t s block) in
    (i : ℕ) (d : Rule) → has mask i ≡ (nat_lt i (length t.rules) && ((slice_index_or t.rules i d).switch == s && not (v.truths (slice_index_or t.rules i d).node)))

-- what a step from a block means
pub record StepLaw {R : Type 0} (k : Kind R) (t : Table) (s : ℕ) (block : List ℕ) (mask : ℕ) : Type 0 where
  pub state : StepMeaning k t s block
  pub broken : MaskMeaning k t s block mask

-- what an opened block means
pub record OpeningLaw {R : Type 0} (k : Kind R) (t : Table) (s : ℕ) : Type 0 where
  pub states : OpeningMeaning k t s
  pub counts : (j : ℕ) → j < t.switches → count_of (record_of (length t.nodes) (opened (on_words k) t s) j) ≡ 0
  pub registers : registers_of t.switches (length t.nodes) (opened (on_words k) t s) ≡ start_registers t s

-- the broken mask of the own record in a block, as it stands
abbrev pub standing_answer : Table → ℕ → List ℕ → Result ℕ Fault
standing_answer t s block = answer_of (open_refusal t s block) (mask s (record_words (length t.nodes) block s) t.rules)
