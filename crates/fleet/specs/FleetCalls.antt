-- The calls of a fleet, live or shut, on table, memory and hand as they are handed in. Assumes nothing.
use Rattle.std.specs.Prelude.{◌≡◌, ℕ, ◌+◌, Bool, cond, ◌&&◌, ◌||◌, List, length, Some, None, Option, Result, ◌==◌, nat_lt}
use Rattle.table.specs.Limits.{register_count}
use Rattle.table.specs.Tables.{Table}
use Rattle.table.specs.Wire.{refuse}
use Rattle.table.specs.declared.fault.Fault.{Fault}
use Rattle.table.specs.declared.fault.Reason.{Reason}
use Rattle.table.specs.declared.fault.Reason.TheVariants as why
use Rattle.step.specs.Nodes.{WordKind}
use Rattle.step.specs.Steps.{answer_of, send, set_register}
use Rattle.step.specs.declared.advance.Outcome.{Outcome}
use Rattle.carriers.specs.Meanings.{Meaning, last_number, retire_after, retire_answer}
use Rattle.carriers.specs.declared.carrier.Figures.{Figures}
use Rattle.history.specs.Calls as history
use Rattle.history.specs.Calls.{Fleet, after_call, call_refusal, fleet_of, receive_call, retire_call, send_call, set_call}
use Rattle.fleet.specs.Blocks.{Able, stuck_by, word_in}
use Rattle.fleet.specs.Shapes.{Sized, shaped}
use Rattle.fleet.specs.declared.call.Call.{Call}
use Rattle.fleet.specs.declared.call.Call.TheVariants.{Set, Send, Receive, Retire}
use Rattle.fleet.specs.declared.call.Known.{Known}
use Rattle.fleet.specs.declared.call.Reply.{Reply}

-- a call of the code
abbrev pub call_of : Call → history.Call
call_of (Set s g w) = set_call s g w
call_of (Send s) = send_call s
call_of (Receive s x) = receive_call s x
call_of (Retire x) = retire_call x

-- a reply as the code gives it
abbrev pub reply_of : history.Reply → Reply
reply_of r = record { count = r.count; broken = r.broken; number = r.number }

abbrev pub reply_with : Outcome → Option ℕ → Reply
reply_with o x = record { count = o.count; broken = o.broken; number = x }

-- the first reason, or else the next
abbrev pub or_else : Option Reason → Option Reason → Option Reason
or_else None more = more
or_else (Some why) more = Some why

-- why no call can be made: the fleet is shut, or something has the wrong shape
abbrev pub unready_by : Bool → ℕ → Table → Fleet → Option Reason
unready_by live code t f = cond live (cond (shaped code t f) None (Some why.Shape)) (Some why.Shut)

-- why a call is refused, what it answers, and the fleet after it; a refused call leaves everything

module _ (live : Bool) (code : ℕ) (k : WordKind) (t : Table) (f : Fleet) (c : history.Call) where
  abbrev pub fleet_refusal : Option Reason
  fleet_refusal = or_else (unready_by live code t f) (call_refusal k t f c)

  abbrev pub fleet_answer : Result Reply Fault
  fleet_answer = answer_of fleet_refusal (reply_of (history.reply k t f c))

  abbrev pub fleet_after : Fleet
  fleet_after = fleet_of k t fleet_refusal f (after_call k t f c)

-- What a call of a fleet does; kept is what the carrier keeps of its own
pub record Called (code : ℕ) (k : WordKind) (t : Table) (live : Bool) (before : Fleet) (live_after : Bool) (after : Fleet) (c : history.Call) (r : Result Reply Fault) (kept : Type 0) : Type 0 where
  pub answer : r ≡ fleet_answer live code k t before c
  pub fleet : after ≡ fleet_after live code k t before c
  pub stays : live_after ≡ live
  pub sound : kept

-- A retire is handed nothing but the number
pub record RetiredBy (live : Bool) (before : Meaning) (live_after : Bool) (after : Meaning) (x : ℕ) (r : Result (Unit {0}) Fault) (kept : Type 0) : Type 0 where
  pub answer : r ≡ cond live (retire_answer before x) (refuse why.Shut 0)
  pub carrier : after ≡ cond live (retire_after before x) before
  pub stays : live_after ≡ live
  pub sound : kept

-- What a look answers: count and word of record j at s

abbrev pub look_refusal : Table → ℕ → ℕ → ℕ → Option Reason
look_refusal t s j node =
    cond (nat_lt s t.switches && nat_lt j t.switches) (cond (nat_lt node (length t.nodes)) None (Some why.Operand)) (Some why.Switch)

abbrev pub known_in : Table → List ℕ → ℕ → ℕ → ℕ → Known
known_in t memory s j node = record { count = word_in t memory s j 0; word = word_in t memory s j (node + 1) }

abbrev pub look_answer : Bool → ℕ → Table → Fleet → ℕ → ℕ → ℕ → Result Known Fault
look_answer live code t f s j node =
    answer_of (or_else (unready_by live code t f) (look_refusal t s j node)) (known_in t f.memory s j node)

-- The tests of a call, in two parts: those that need no copy, and whether the copy is held

abbrev pub full_by : Figures → Bool
full_by g = g.held == g.capacity || g.next == last_number

abbrev pub early : Table → List ℕ → Figures → history.Call → Option Reason
early t memory g (set_call s r w) =
    cond (nat_lt s t.switches) (cond (nat_lt r register_count) (stuck_by t memory s) (Some why.Operand)) (Some why.Switch)
early t memory g (send_call s) = or_else (stuck_by t memory s) (cond (full_by g) (Some why.Full) None)
early t memory g (receive_call s x) = stuck_by t memory s
early t memory g (retire_call x) = None

-- what holds after the first part
abbrev pub Admits : Table → List ℕ → history.Call → Type 0
Admits t memory (set_call s g w) = Able t s (set_register g w) memory
Admits t memory (send_call s) = Able t s send memory
Admits t memory (receive_call s x) = Able t s send memory
Admits t memory (retire_call x) = Unit {0}

pub record Admitted (t : Table) (memory hand : List ℕ) (c : history.Call) : Type 0 where
  pub lengths : Sized t memory hand
  pub able : Admits t memory c
