-- The worked cases: the listing of ten calls on the worked table of three switches, and those of the parts below.
-- Assumes nothing.
use Rattle.std.specs.Prelude.{◌≡◌, ℕ, List, [], ◌∷◌, take, replicate, Some, None, Ok, Result}
use Rattle.readings.specs.Worked.{WorkedReadings}
use Rattle.table.specs.Wire.{refuse}
use Rattle.table.specs.Worked.{worked_table}
use Rattle.table.specs.declared.fault.Fault.{Fault}
use Rattle.table.specs.declared.fault.Reason.TheVariants as why
use Rattle.step.specs.Records.{count_of, record_of}
use Rattle.step.specs.StepLaws.{record_words}
use Rattle.step.specs.Worked.{WorkedSteps, number_words}
use Rattle.history.specs.Calls.{Call, set_call, send_call, receive_call, Fleet, Reply, block_at, first_memory, ran}
use Rattle.history.specs.Runs.{answer_at}

abbrev pub worked_calls : List Call
worked_calls =
    set_call 0 0 9 ∷ send_call 0 ∷ set_call 0 0 4 ∷ send_call 0 ∷ receive_call 2 1
    ∷ send_call 2 ∷ receive_call 1 2 ∷ receive_call 1 0 ∷ set_call 1 0 3 ∷ receive_call 1 7 ∷ []

-- a new fleet on a carrier with space for 16 copies
abbrev pub worked_fleet : Fleet
worked_fleet = record {
  memory = first_memory number_words worked_table;
  hand = replicate 16 0;
  carrier = record { code = 1; switches = 3; nodes = 4; capacity = 16; next = 0; held = [] };
}

-- block s after the first i calls
abbrev pub worked_block : ℕ → ℕ → List ℕ
worked_block i s = block_at number_words worked_table (ran number_words worked_table worked_fleet (take i worked_calls)).memory s

abbrev pub worked_answer : ℕ → Result Reply Fault
worked_answer i = answer_at number_words worked_table worked_fleet worked_calls i

abbrev pub replied : ℕ → ℕ → Result Reply Fault
replied count broken = Ok (record { count = count; broken = broken; number = None })

abbrev pub replied_as : ℕ → ℕ → ℕ → Result Reply Fault
replied_as count broken x = Ok (record { count = count; broken = broken; number = Some x })

-- what switch 1 knows after lines 7, 8 and 9, and what each line answers
pub record WorkedListing : Type 0 where
  pub seven : record_words 4 (worked_block 7 1) 1 ≡ 7 ∷ 4 ∷ 1 ∷ 1 ∷ []
  pub eight : count_of (record_of 4 (worked_block 8 1) 0) ≡ 4
  pub nine : record_words 4 (worked_block 9 1) 1 ≡ 3 ∷ 4 ∷ 0 ∷ 0 ∷ []
  pub line1 : worked_answer 0 ≡ replied 1 0
  pub line2 : worked_answer 1 ≡ replied_as 2 0 0
  pub line3 : worked_answer 2 ≡ replied 3 0
  pub line4 : worked_answer 3 ≡ replied_as 4 0 1
  pub line5 : worked_answer 4 ≡ replied 1 0
  pub line6 : worked_answer 5 ≡ replied_as 2 0 2
  pub line7 : worked_answer 6 ≡ replied 1 0
  pub line8 : worked_answer 7 ≡ replied 2 0
  pub line9 : worked_answer 8 ≡ replied 3 1
  pub line10 : worked_answer 9 ≡ refuse why.NotHeld 0

-- all worked cases together
pub record WorkedCases : Type 0 where
  -- sums and differences at the ends of the range, and a difference of port sets
  pub readings : WorkedReadings
  -- switch 0 after line 1, and the table of four nodes: at state 0, after a set, and after a send
  pub steps : WorkedSteps
  pub listing : WorkedListing
