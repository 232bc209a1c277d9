-- A list of calls on a fleet. Assumes nothing.
use Rattle.std.specs.Prelude.{◌≡◌, ℕ, ◌<◌, Bool, cond, List, [], ◌∷◌, map, length, Some, None, Ok, Err, Option, Result, ◌==◌, slice_index_or}
use Rattle.table.specs.Tables.{Table}
use Rattle.table.specs.Wire.{refuse}
use Rattle.table.specs.declared.fault.Fault.{Fault}
use Rattle.table.specs.declared.fault.Reason.{Reason}
use Rattle.table.specs.declared.fault.Reason.TheVariants as why
use Rattle.step.specs.Nodes.{WordKind}
use Rattle.step.specs.Steps.{answer_of}
use Rattle.history.specs.Calls as history
use Rattle.history.specs.Calls.{Fleet, answer, called, fleet_of, ran}
use Rattle.history.specs.Runs.{answer_at}
use Rattle.fleet.specs.FleetCalls.{call_of, or_else, reply_of, unready_by}
use Rattle.fleet.specs.declared.call.Call.{Call}
use Rattle.fleet.specs.declared.call.Reply.{Reply}

-- the calls of the code
abbrev pub listed : List Call → List history.Call
listed calls = map call_of calls

-- an answer as the code gives it
abbrev pub result_of : Result history.Reply Fault → Result Reply Fault
result_of (Ok r) = Ok (reply_of r)
result_of (Err e) = Err e

-- and back
abbrev pub told : Result Reply Fault → Result history.Reply Fault
told (Ok r) = Ok (record { count = r.count; broken = r.broken; number = r.number })
told (Err e) = Err e

-- what call i answered, by the replies
abbrev pub said_by : List (Result Reply Fault) → ℕ → Result history.Reply Fault
said_by replies i = told (slice_index_or replies i (refuse why.Shape 0))

-- why no call of a list is made: the fleet is shut, something has the wrong shape, or the replies are not as many
abbrev pub run_refusal : Bool → ℕ → Table → Fleet → ℕ → ℕ → Option Reason
run_refusal live code t f calls replies = or_else (unready_by live code t f) (cond (replies == calls) None (Some why.Shape))

abbrev pub replies_of : Option Reason → List (Result Reply Fault) → List (Result Reply Fault) → List (Result Reply Fault)
replies_of None before after = after
replies_of (Some why) before after = before

module _ (k : WordKind) (t : Table) where
  -- what the calls of a list answer, one after another
  unfoldable pub answers : Fleet → List history.Call → List (Result Reply Fault)
  answers f [] = []
  answers f (c ∷ cs) = result_of (answer k t f c) ∷ answers (called k t f c) cs

-- What a run does; kept is what the carrier keeps of its own
pub record Ran (code : ℕ) (k : WordKind) (t : Table) (live : Bool) (before : Fleet) (live_after : Bool) (after : Fleet) (calls : List history.Call) (old new : List (Result Reply Fault)) (r : Result (Unit {0}) Fault) (kept : Type 0) : Type 0 where
  pub answer : r ≡ answer_of (run_refusal live code t before (length calls) (length old)) tt
  pub fleet : after ≡ fleet_of k t (run_refusal live code t before (length calls) (length old)) before (ran k t before calls)
  pub replies : new ≡ replies_of (run_refusal live code t before (length calls) (length old)) old (answers k t before calls)
  -- the answer of each call, as the history of the run has it
  pub each : run_refusal live code t before (length calls) (length old) ≡ None → (i : ℕ) (d : Result Reply Fault) → i < length calls → slice_index_or new i d ≡ result_of (answer_at k t before calls i)
  pub stays : live_after ≡ live
  pub sound : kept
