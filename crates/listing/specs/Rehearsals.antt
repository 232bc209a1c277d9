-- A rehearsal: calls on a new fleet with a carrier for 16 copies. Assumes nothing.
use Rattle.std.specs.Prelude.{◌≡◌, ℕ, ◌+◌, ◌*◌, ◌/◌, ◌%◌, Bool, true, cond, List, [], ◌∷◌, length, replicate, Ok, Err, Result, ◌==◌}
use Rattle.table.specs.Tables.{Table}
use Rattle.table.specs.Wire.{refuse}
use Rattle.table.specs.declared.fault.Fault.{Fault}
use Rattle.table.specs.declared.fault.Reason.TheVariants as why
use Rattle.readings.specs.Kinds.{Kind}
use Rattle.step.specs.Nodes.{on_words, WordKind}
use Rattle.step.specs.Records.{block_length, hand_length}
use Rattle.carriers.specs.Pools.{opened}
use Rattle.history.specs.Calls.{Fleet, first_memory, ran}
use Rattle.history.specs.AnsweredLaw.{AnsweredLaw}
use Rattle.fleet.specs.FleetCalls.{look_answer}
use Rattle.fleet.specs.FleetRuns.{answers, listed, said_by}
use Rattle.fleet.specs.Shapes.{fits, state}
use Rattle.fleet.specs.declared.call.Call.{Call}
use Rattle.fleet.specs.declared.call.Known.{Known}
use Rattle.fleet.specs.declared.call.Reply.{Reply}
use Rattle.listing.specs.declared.rehearsal.Place.{Place}

abbrev pub pool_copies : ℕ
pool_copies = 16

module _ (k : WordKind) (t : Table) where
  -- every switch as it starts, and an unused carrier
  abbrev pub new_fleet : Fleet
  new_fleet = record {
    memory = first_memory k t;
    hand = replicate (hand_length t.switches (length t.nodes)) 0;
    carrier = opened t.code t.switches (length t.nodes) pool_copies;
  }

  -- what the calls answer
  abbrev pub rehearsed : List Call → List (Result Reply Fault)
  rehearsed calls = answers k t new_fleet (listed calls)

-- the same, of a table of the kind with this code; a fleet on any other is shut
abbrev pub rehearsal : ℕ → WordKind → Table → List Call → Result (List (Result Reply Fault)) Fault
rehearsal code k t calls = cond (t.code == code) (Ok (rehearsed k t calls)) (refuse why.Shut 0)

-- whose entry i is
abbrev pub place_of : Table → ℕ → Place
place_of t i = record { switch = i / (t.switches * length t.nodes); of = i / length t.nodes % t.switches; node = i % length t.nodes }

-- Entry i of what the switches know, each node of each switch at each switch: what a look answers, or else x

abbrev pub found_or : Known → Result Known Fault → Known
found_or x (Ok found) = found
found_or x (Err e) = x

abbrev pub look_entry : Bool → ℕ → Table → Fleet → ℕ → Known → Known
look_entry live code t f i x =
    found_or x (look_answer live code t f (i / (t.switches * length t.nodes)) (i / length t.nodes % t.switches) (i % length t.nodes))

-- the entries from i on
unfoldable pub looks_from : Bool → ℕ → Table → Fleet → ℕ → List Known → List Known
looks_from live code t f i [] = []
looks_from live code t f i (x ∷ xs) = look_entry live code t f i x ∷ looks_from live code t f (i + 1) xs

-- how many entries there are
abbrev pub entry_count : Table → ℕ
entry_count t = t.switches * t.switches * length t.nodes

abbrev pub unknown : Known
unknown = record { count = 0; word = 0 }

-- what the switches know after the calls, where that is asked for
abbrev pub known_after : ℕ → WordKind → Table → List Call → Bool → List Known
known_after code k t calls asked = looks_from true code t (ran k t (new_fleet k t) (listed calls)) 0 (replicate (cond asked (entry_count t) 0) unknown)

-- Memory and hand for a fleet that is not yet open: of the table's lengths, and the hand zero
pub record StartsAs (t : Table) (memory hand : List ℕ) : Type 0 where
  pub long : length memory ≡ t.switches * block_length t.switches (length t.nodes)
  pub zero : hand ≡ replicate (hand_length t.switches (length t.nodes)) 0

-- A run on a fleet that is opened for it, where everything fits: the fleet as it starts,
abbrev pub started : WordKind → Table → Fleet → Fleet
started k t before = state (first_memory k t) before.hand before.carrier

-- what the calls answer, or that the fleet is shut,
abbrev pub run_answers : ℕ → WordKind → Table → Fleet → List Call → Result (List (Result Reply Fault)) Fault
run_answers code k t before calls = cond (fits code t before) (Ok (answers k t (started k t before) (listed calls))) (refuse why.Shut 0)

-- what the switches know after the calls, where that is asked for,
abbrev pub known_after_run : ℕ → WordKind → Table → Fleet → List Call → Bool → List Known
known_after_run code k t before calls asked = looks_from true code t (ran k t (started k t before) (listed calls)) 0 (replicate (cond asked (entry_count t) 0) unknown)

-- and the law of the replies and of the memory after the calls
abbrev pub RunLaw : {R : Type 0} → Kind R → Table → Fleet → List Call → List (Result Reply Fault) → Type 0
RunLaw k t before calls replies =
    AnsweredLaw k t (started (on_words k) t before) (listed calls) (said_by replies)
    (ran (on_words k) t (started (on_words k) t before) (listed calls)).memory

-- The law of a rehearsal
abbrev pub RehearsalLaw : {R : Type 0} → Kind R → Table → List Call → List (Result Reply Fault) → Type 0
RehearsalLaw k t calls replies =
    AnsweredLaw k t (new_fleet (on_words k) t) (listed calls) (said_by replies) (ran (on_words k) t (new_fleet (on_words k) t) (listed calls)).memory
