-- What fits a table: memory, hand and carrier. Assumes nothing.
use Rattle.std.specs.Prelude.{◌≡◌, ℕ, ◌*◌, Bool, true, cond, ◌&&◌, List, length, Ok, Err, Result, ◌==◌, nat_le}
use Rattle.table.specs.Refusals.{number}
use Rattle.table.specs.Tables.{Table}
use Rattle.table.specs.declared.fault.Reason.{Reason}
use Rattle.table.specs.declared.fault.Reason.TheVariants as why
use Rattle.step.specs.Nodes.{WordKind}
use Rattle.step.specs.Records.{block_length, hand_length}
use Rattle.carriers.specs.Figures.{figures_of}
use Rattle.carriers.specs.Meanings.{Meaning}
use Rattle.carriers.specs.declared.carrier.Figures.{Figures}
use Rattle.history.specs.Calls.{Fleet, first_memory}
use Rattle.history.specs.Orders.{New}

-- memory, hand and what the carrier means, together
abbrev pub state : List ℕ → List ℕ → Meaning → Fleet
state memory hand carrier = record { memory = memory; hand = hand; carrier = carrier }

-- a carrier with these figures is for the table
abbrev pub carries : Table → Figures → Bool
carries t g = g.code == t.code && (g.switches == t.switches && g.nodes == length t.nodes)

-- memory and hand have the table's lengths
abbrev pub sized : Table → ℕ → ℕ → Bool
sized t memory hand =
    (memory == t.switches * block_length t.switches (length t.nodes))
    && hand == hand_length t.switches (length t.nodes)

-- the table is of the kind with this code, and memory, hand and carrier are for the table
abbrev pub shaped_by : ℕ → Table → ℕ → ℕ → Figures → Bool
shaped_by code t memory hand g = t.code == code && (sized t memory hand && carries t g)

abbrev pub shaped : ℕ → Table → Fleet → Bool
shaped code t f = shaped_by code t (length f.memory) (length f.hand) (figures_of f.carrier)

-- the same lengths, as equations
pub record Sized (t : Table) (memory hand : List ℕ) : Type 0 where
  pub memory_is : length memory ≡ t.switches * block_length t.switches (length t.nodes)
  pub hand_is : length hand ≡ hand_length t.switches (length t.nodes)

-- a carrier with these figures is new, and has space
abbrev pub unused : Figures → Bool
unused g = g.next == 0 && (g.held == 0 && nat_le 1 g.capacity)

-- everything fits the table, and the carrier is new
abbrev pub fits : ℕ → Table → Fleet → Bool
fits code t f = shaped code t f && unused (figures_of f.carrier)

-- the number of an answer: 0, or the number of the refusal
abbrev pub answer_number : Result (Unit {0}) Reason → ℕ
answer_number (Ok u) = 0
answer_number (Err r) = number r

-- 0, or the number of the refusal for a wrong shape
abbrev pub fit_answer : ℕ → Table → Fleet → ℕ
fit_answer code t f = cond (fits code t f) 0 (number why.Shape)

-- What opening a fleet does: it is live exactly where everything fits; then it is new, and else the memory is as it was
pub record Opened (code : ℕ) (k : WordKind) (t : Table) (before : Fleet) (memory : List ℕ) (live : Bool) : Type 0 where
  pub is_live : live ≡ fits code t before
  pub memory_is : memory ≡ cond (fits code t before) (first_memory k t) before.memory
  pub is_new : live ≡ true → New k t (state memory before.hand before.carrier)
