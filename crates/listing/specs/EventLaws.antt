-- What holds of reading and writing the calls of a rehearsal file, in the format's own words. Assumes nothing.
use Rattle.std.specs.Prelude.{◌≡◌, ℕ, ◌+◌, ◌*◌, ◌≤◌, Bool, true, not, ◌||◌, List, [], ◌∷◌, ◌++◌, length, drop, Ok, ◌==◌, nat_le}
use Rattle.fleet.specs.declared.call.Call.{Call}
use Rattle.listing.specs.Events.{call_size, call_sound, calls_end, events_at, events_bytes, most_calls}
use Rattle.table.specs.TableLaws.{Condition, each, first_fault, refusal}
use Rattle.table.specs.Tables.{every}
use Rattle.table.specs.Wire.{fault, word_at, between}
use Rattle.table.specs.declared.fault.Reason.TheVariants as why

-- From an offset of the input on, exactly the encodings of at most most_calls calls are accepted,
-- and encoding and decoding undo each other.
pub record AcceptsExactly (bs : List ℕ) (at : ℕ) : Type 0 where
  -- what is accepted is the encoding of calls, and those calls are the answer
  pub only : (cs : List Call) → events_at bs at ≡ Ok cs → (length cs ≤ most_calls) × (every call_sound cs ≡ true) × (events_bytes cs ≡ drop at bs)
  -- every such encoding is accepted, and decodes to the calls
  pub all : (cs : List Call) → length cs ≤ most_calls → every call_sound cs ≡ true → events_bytes cs ≡ drop at bs → events_at bs at ≡ Ok cs

-- A refusal is the first fault in reading order. The conditions on the calls at an offset, in that order:

-- the word at an offset is there
abbrev pub present : List ℕ → ℕ → Condition
present bs at = record { holds = nat_le (at + 4) (length bs); otherwise = fault why.Events at }

-- and is allowed
abbrev pub allowed : Bool → ℕ → Condition
allowed ok at = record { holds = ok; otherwise = fault why.Events at }

-- a word that is used or 0
abbrev pub word_conditions : Bool → List ℕ → ℕ → List Condition
word_conditions used bs at = present bs at ∷ allowed (used || word_at bs at == 0) at ∷ []

-- the words that an operation uses: every one but a retire's switch, a send's a, and b of all but a set
abbrev pub uses_switch : ℕ → Bool
uses_switch operation = not (operation == 4)

abbrev pub uses_a : ℕ → Bool
uses_a operation = not (operation == 2)

abbrev pub uses_b : ℕ → Bool
uses_b operation = operation == 1

-- what follows the operation at an offset
abbrev pub operand_conditions : ℕ → List ℕ → ℕ → List Condition
operand_conditions operation bs at =
    word_conditions (uses_switch operation) bs (at + 4)
    ++ (word_conditions (uses_a operation) bs (at + 4 + 4) ++ word_conditions (uses_b operation) bs (at + 4 + 4 + 4))

abbrev pub call_conditions : List ℕ → ℕ → List Condition
call_conditions bs at =
    present bs at ∷ allowed (between 1 4 (word_at bs at)) at ∷ operand_conditions (word_at bs at) bs at

abbrev pub event_conditions : List ℕ → ℕ → List Condition
event_conditions bs at =
    (present bs at ∷ allowed (nat_le (word_at bs at) most_calls) at ∷ [])
    ++ (each (λ i. call_conditions bs (at + 4 + i * call_size)) (word_at bs at)
    ++ allowed (calls_end at (word_at bs at) == length bs) (calls_end at (word_at bs at)) ∷ [])

-- what holds of all bytes and offsets
pub record EventLaws (bs : List ℕ) (at : ℕ) : Type 0 where
  pub exactly : AcceptsExactly bs at
  pub first : refusal (events_at bs at) ≡ first_fault (event_conditions bs at)
