-- The law of a run, for every allowed order. Assumes nothing.
use Rattle.std.specs.Prelude.{◌≡◌, ℕ, suc, ◌<◌, ◌≤◌, true, not, ◌&&◌, ◌↔◌, List, ◌∷◌, ◌++◌, length, get_or, take, Ok, Err, Result, ◌==◌, nat_lt, slice_index, slice_index_or}
use Rattle.readings.specs.Ports.{has}
use Rattle.table.specs.Tables.{Table}
use Rattle.table.specs.declared.fault.Fault.{Fault}
use Rattle.table.specs.declared.node.Rule.{Rule}
use Rattle.readings.specs.Kinds.{Kind}
use Rattle.step.specs.Logic.{Values, none, after, Meaning}
use Rattle.step.specs.Nodes.{on_words}
use Rattle.step.specs.Opening.{start_registers}
use Rattle.step.specs.Records.{count_of, record_of}
use Rattle.history.specs.Calls.{Call, Fleet, Reply, block_at, ran}
use Rattle.history.specs.Orders.{Allowed, New, calls_of, sends}
use Rattle.history.specs.Runs.{Before, Heard, Latest, Nth, answer_at, event, fleet_at, register_at}

-- the broken mask of an answer
abbrev pub mask_of : Result Reply Fault → ℕ
mask_of (Ok r) = r.broken
mask_of (Err e) = 0

-- two answers are the same, the number of a copy apart
abbrev pub SameAnswer : Result Reply Fault → Result Reply Fault → Type 0
SameAnswer (Ok a) (Ok b) = (a.count ≡ b.count) × (a.broken ≡ b.broken)
SameAnswer (Ok a) (Err e) = ⊥
SameAnswer (Err e) (Ok b) = ⊥
SameAnswer (Err e) (Err d) = ⊥

module _ {R : Type 0} (k : Kind R) (t : Table) (f : Fleet) (calls : List Call) where
  -- The values of all nodes at all states, by the logic's recursive definition over the history: at state 0 of each switch
  -- there is no state before, and every switch is known at state 0; at the state that an event makes, the state before is
  -- the switch's last one, and every switch j is known at its latest state that is the event's or happens before it.
  pub record History (values : ℕ → ℕ → Values R) : Type 0 where
    pub starts : (s : ℕ) → s < t.switches → Meaning k (λ g. k.reading (slice_index (start_registers t s) g)) none (λ j. values j 0) (values s 0) t.nodes
    pub goes : (e s n : ℕ) → Nth (on_words k) t f calls s (suc n) e → (latest : ℕ → ℕ) → ((j : ℕ) → j < t.switches → Latest (on_words k) t f calls j e (latest j)) → Meaning k (λ g. k.reading (register_at (on_words k) t f calls s g (suc e))) (after (values s n)) (λ j. values j (latest j)) (values s (suc n)) t.nodes

  -- what switch s knows of j just after call e
  abbrev pub knows : ℕ → ℕ → ℕ → List ℕ
  knows e s j = record_of (length t.nodes) (block_at (on_words k) t (fleet_at (on_words k) t f calls (suc e)).memory s) j

  -- The verdict of an event: its mask has exactly the rules at its switch that are false at the state that it makes
  abbrev pub Verdict : ℕ → Type 0
  Verdict e =
      (values : ℕ → ℕ → Values R) → History values → (s n : ℕ) → Nth (on_words k) t f calls s n e → (r : ℕ) (d : Rule)
      → has (mask_of (answer_at (on_words k) t f calls e)) r
      ≡ (nat_lt r (length t.rules) && ((get_or t.rules r d).switch == s && not ((values s n).truths (get_or t.rules r d).node)))

  -- Counts are happens-before
  abbrev pub Counts : ℕ → Type 0
  Counts e =
      (s n : ℕ) → Nth (on_words k) t f calls s n e → (j : ℕ) → j < t.switches → (l : ℕ) → 1 ≤ l
      → (l ≤ count_of (knows e s j)) ↔ Heard (on_words k) t f calls j l e

  -- an order that begins with exactly the events that happen before e, and then e
  pub record Begins (e : ℕ) (order front rest : List ℕ) : Type 0 where
    pub allowed : Allowed (on_words k) t f calls order
    pub split : order ≡ front ++ (e ∷ rest)
    pub exactly : (p q : List ℕ) (i : ℕ) → front ≡ p ++ (i ∷ q) → Before (on_words k) t f calls i e
    pub all : (i : ℕ) → Before (on_words k) t f calls i e → (p : List ℕ) × (q : List ℕ) × (front ≡ p ++ (i ∷ q))

  -- a new fleet of the same table and kind, with space for an order's sends
  abbrev pub Fits : List ℕ → Fleet → Type 0
  Fits order g = New (on_words k) t g × (sends (on_words k) t f calls order ≤ g.carrier.capacity)

  -- What a switch knows is a state that some order passes through
  pub record PassedThrough (e : ℕ) : Type 0 where
    pub some : (order : List ℕ) × (front : List ℕ) × (rest : List ℕ) × Begins e order front rest
    pub every : (order front rest : List ℕ) → Begins e order front rest → (g : Fleet) → Fits order g → (s n : ℕ) → Nth (on_words k) t f calls s n e → (j : ℕ) → j < t.switches
        → record_of (length t.nodes) (block_at (on_words k) t (ran (on_words k) t g (take (suc (length front)) (calls_of (on_words k) t f calls order))).memory j) j ≡ knows e s j

  -- Every allowed order gives the same answers and the same memory
  pub record SameEverywhere : Type 0 where
    pub answers : (order : List ℕ) → Allowed (on_words k) t f calls order → (g : Fleet) → Fits order g → (p : ℕ) (d : ℕ) → p < length order
        → SameAnswer (answer_at (on_words k) t g (calls_of (on_words k) t f calls order) p) (answer_at (on_words k) t f calls (slice_index_or order p d))
    pub memory : (order : List ℕ) → Allowed (on_words k) t f calls order → (g : Fleet) → Fits order g
        → (ran (on_words k) t g (calls_of (on_words k) t f calls order)).memory ≡ (ran (on_words k) t f calls).memory

  -- The law of a list of calls on a new fleet
  pub record Law : Type 0 where
    -- there are such values, so the verdict says something
    pub values : (v : ℕ → ℕ → Values R) × History v
    pub verdict : (e : ℕ) → event (on_words k) t f calls e ≡ true → Verdict e
    pub counts : (e : ℕ) → event (on_words k) t f calls e ≡ true → Counts e
    pub passed : (e : ℕ) → event (on_words k) t f calls e ≡ true → PassedThrough e
    pub same : SameEverywhere
