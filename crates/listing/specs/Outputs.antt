-- What is printed of a whole input. Assumes nothing.
use Rattle.std.specs.Prelude.{◌≡◌, ℕ, Bool, true, false, cond, List, ◌++◌, Ok, Err, String, string_bytes, Result, ◌==◌}
use Rattle.std.specs.declared.alloc.Global.{Global}
use Rattle.readings.specs.Numbers.{number_code, numbers}
use Rattle.readings.specs.Ports.{port_sets}
use Rattle.table.specs.Delivered.{delivered_front}
use Rattle.table.specs.Tables.{Table, table_length}
use Rattle.table.specs.Wire.{and_then}
use Rattle.table.specs.declared.fault.Fault.{Fault}
use Rattle.step.specs.Nodes.{WordKind, on_words}
use Rattle.fleet.specs.declared.call.Call.{Call}
use Rattle.fleet.specs.declared.call.Reply.{Reply}
use Rattle.listing.specs.Events.{events_at}
use Rattle.listing.specs.Knowledge.{knowledge_text}
use Rattle.listing.specs.Rehearsals.{known_after, rehearsal, rehearsed}
use Rattle.listing.specs.Texts.{listing_text, newline, refusal_text}
use Rattle.listing.specs.declared.stop.Stop.{Stop}
use Rattle.listing.specs.declared.stop.Stop.TheVariants.{Refused, Memory}
use Rattle.listing.specs.declared.text.Refusal.{Refusal}
use Rattle.listing.specs.declared.text.Refusal.TheVariants as refused

-- what the delivered kind with this code makes of words
abbrev pub code_words : ℕ → WordKind
code_words code =
    cond (code == number_code) (on_words numbers) (on_words port_sets)

-- what is printed of calls, of what they answer, and of what the switches know then, where that is asked for
abbrev pub run_text : ℕ → WordKind → Table → Bool → List Call → List (Result Reply Fault) → List ℕ
run_text code words t knows cs rs =
    cond knows
    (listing_text cs rs ++ knowledge_text t (known_after code words t cs knows))
    (listing_text cs rs)

-- where a fleet of the kind with this code runs them
abbrev pub rendered : ℕ → WordKind → Table → Bool → Result (List Call) Fault → Result (List ℕ) Fault
rendered code words t knows calls =
    and_then calls (λ cs.
    and_then (rehearsal code words t cs) (λ rs.
    Ok (run_text code words t knows cs rs)))

-- and where the table's own kind does
abbrev pub calls_text : Table → Bool → List Call → List ℕ
calls_text t knows cs = run_text t.code (code_words t.code) t knows cs (rehearsed (code_words t.code) t cs)

-- a text, and whether the input is accepted
pub record Printed : Type 0 where
  pub text : List ℕ
  pub accepted : Bool

abbrev pub printed_calls : Table → Bool → Result (List Call) Fault → Printed
printed_calls t knows (Ok cs) = record { text = calls_text t knows cs; accepted = true }
printed_calls t knows (Err e) = record { text = refusal_text (refused.Events e) ++ newline; accepted = false }

abbrev pub printed_table : List ℕ → Bool → Result Table Fault → Printed
printed_table bs knows (Ok t) = printed_calls t knows (events_at bs (table_length t))
printed_table bs knows (Err e) = record { text = refusal_text (refused.Table e) ++ newline; accepted = false }

-- of the bytes bs: first the table at the front is judged, then the calls after it, and then they run
abbrev pub printed : List ℕ → Bool → Printed
printed bs knows = printed_table bs knows (delivered_front bs)

-- a refusal of the calls of the input
abbrev pub events_refused : Stop Fault → Stop Refusal
events_refused (Refused e) = Refused (refused.Events e)
events_refused Memory = Memory

-- a listing is printed, and so is a refusal, on a line of its own; want of memory says nothing
abbrev pub Shows : Result (String Global) (Stop Refusal) → Printed → Type 0
Shows (Ok listing) p = p ≡ record { text = string_bytes listing; accepted = true }
Shows (Err (Refused r)) p = p ≡ record { text = refusal_text r ++ newline; accepted = false }
Shows (Err Memory) p = Unit {0}
