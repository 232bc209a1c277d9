-- The law of a list of calls as they really went: with the answers that they gave, and the memory that they left. Assumes nothing.
use Rattle.std.specs.Prelude.{◌≡◌, ℕ, ◌<◌, true, List, length, Some, Ok, Err, Result, slice_index_or}
use Rattle.table.specs.Tables.{Table}
use Rattle.table.specs.declared.fault.Fault.{Fault}
use Rattle.readings.specs.Kinds.{Kind}
use Rattle.step.specs.Nodes.{on_words}
use Rattle.history.specs.Calls.{Call, send_call, Fleet, Reply}
use Rattle.history.specs.Law.{Fits, Law}
use Rattle.history.specs.Orders.{Allowed, calls_of, new_number}
use Rattle.history.specs.Runs.{Nth, answer_at, answered, call_at, event, fleet_at}

-- the count of an answer
abbrev pub count_in : Result Reply Fault → ℕ
count_in (Ok r) = r.count
count_in (Err e) = 0

-- said are the answers that the calls really gave, and left is the memory that the last of them really left
module _ {R : Type 0} (k : Kind R) (t : Table) (f : Fleet) (calls : List Call) (said : ℕ → Result Reply Fault) (left : List ℕ) where
  -- The n-th event of a switch answers the count n
  abbrev pub AnsweredNumbers : ℕ → Type 0
  AnsweredNumbers e = (s n : ℕ) → Nth (on_words k) t f calls s n e → count_in (said e) ≡ n

  -- The law of a list of calls on a new fleet, and that its answers and its memory are those of the calls as they went
  pub record AnsweredLaw : Type 0 where
    pub law : Law k t f calls
    -- the history is that of the calls as they really went: each answer, and the memory after the last
    pub told : (i : ℕ) → i < length calls → answer_at (on_words k) t f calls i ≡ said i
    pub ended : (fleet_at (on_words k) t f calls (length calls)).memory ≡ left
    -- the counts that the answers give
    pub numbers : (e : ℕ) → event (on_words k) t f calls e ≡ true → AnsweredNumbers e
    -- in an allowed order, the number that a send answers is the one that the receives of its copy name
    pub copies : (order : List ℕ) → Allowed (on_words k) t f calls order → (g : Fleet) → Fits k t f calls order g → (p : ℕ) (d : ℕ) → p < length order → (s x : ℕ)
        → call_at (on_words k) t f calls (slice_index_or order p d) ≡ send_call s → answered (on_words k) t f calls (said (slice_index_or order p d)) ≡ Some x
        → answered (on_words k) t f calls (answer_at (on_words k) t g (calls_of (on_words k) t f calls order) p) ≡ Some (new_number (on_words k) t f calls order x)
