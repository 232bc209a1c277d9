-- What is printed of a rehearsal. Assumes nothing.
use Rattle.std.specs.Prelude.{ℕ, ◌+◌, List, [], ◌∷◌, ◌++◌, Some, None, Ok, Err, codes, decimal, Option, Result}
use Rattle.fleet.specs.declared.call.Call.{Call}
use Rattle.fleet.specs.declared.call.Call.TheVariants.{Set, Send, Receive, Retire}
use Rattle.fleet.specs.declared.call.Reply.{Reply}
use Rattle.listing.specs.declared.text.Refusal.{Refusal}
use Rattle.listing.specs.declared.text.Refusal.TheVariants.{Table, Events}
use Rattle.table.specs.Refusals.{number}
use Rattle.table.specs.declared.fault.Fault.{Fault}

abbrev pub newline : List ℕ
newline = 10 ∷ []

-- the number of a send's copy; other events have none
abbrev pub copy_text : Option ℕ → List ℕ
copy_text None = codes "-"
copy_text (Some copy) = decimal copy

abbrev pub event_text : ℕ → ℕ → Reply → List ℕ
event_text line switch r =
    decimal line ++ (codes " " ++ (decimal switch ++ (codes " " ++ (decimal r.count ++ (codes " " ++ (decimal r.broken ++ (codes " " ++ copy_text r.number)))))))

abbrev pub retired_text : ℕ → ℕ → List ℕ
retired_text line copy = decimal line ++ (codes " retired " ++ decimal copy)

abbrev pub refused_text : ℕ → Fault → List ℕ
refused_text line e = decimal line ++ (codes " refused " ++ decimal (number e.reason))

-- the line of an accepted call
abbrev pub accepted_text : ℕ → Call → Reply → List ℕ
accepted_text line (Set switch register word) r = event_text line switch r
accepted_text line (Send switch) r = event_text line switch r
accepted_text line (Receive switch copy) r = event_text line switch r
accepted_text line (Retire copy) r = retired_text line copy

abbrev pub line_text : ℕ → Call → Result Reply Fault → List ℕ
line_text line c (Ok r) = accepted_text line c r
line_text line c (Err e) = refused_text line e

-- the lines of calls with their answers, numbered from line on
abbrev pub lines_from : ℕ → List Call → List (Result Reply Fault) → List ℕ
lines_from line [] rs = []
lines_from line (c ∷ cs) [] = []
lines_from line (c ∷ cs) (r ∷ rs) = line_text line c r ++ (newline ++ lines_from (line + 1) cs rs)

abbrev pub heading : List ℕ
heading = codes "line switch count broken number"

abbrev pub listing_text : List Call → List (Result Reply Fault) → List ℕ
listing_text cs rs = (heading ++ newline) ++ lines_from 1 cs rs

-- what is printed of a part of the input that is refused
abbrev pub part_text : List ℕ → Fault → List ℕ
part_text part e = part ++ (codes " refused " ++ (decimal (number e.reason) ++ (codes " " ++ decimal e.place)))

abbrev pub refusal_text : Refusal → List ℕ
refusal_text (Table e) = part_text (codes "table") e
refusal_text (Events e) = part_text (codes "events") e
