-- The calls of a rehearsal file: their bytes, and what reading the bytes answers. Assumes nothing.
use Rattle.std.specs.Prelude.{ℕ, ◌+◌, ◌*◌, Bool, cond, ◌&&◌, List, [], ◌++◌, length, Ok, Result, ◌==◌, nat_le}
use Rattle.fleet.specs.declared.call.Call.{Call}
use Rattle.fleet.specs.declared.call.Call.TheVariants.{Set, Send, Receive, Retire}
use Rattle.table.specs.Tables.{array_bytes, is_word, items_from}
use Rattle.table.specs.Wire.{and_then, field, refuse, word_bytes}
use Rattle.table.specs.declared.fault.Fault.{Fault}
use Rattle.table.specs.declared.fault.Reason.TheVariants as why

abbrev pub most_calls : ℕ
most_calls = 1024

-- the length of a call's bytes
abbrev pub call_size : ℕ
call_size = 16

-- The bytes of calls

abbrev pub call_words : ℕ → ℕ → ℕ → ℕ → List ℕ
call_words operation switch a b = word_bytes operation ++ (word_bytes switch ++ (word_bytes a ++ word_bytes b))

-- operation, switch, a and b; an unused word is 0
abbrev pub call_bytes : Call → List ℕ
call_bytes (Set switch register word) = call_words 1 switch register word
call_bytes (Send switch) = call_words 2 switch 0 0
call_bytes (Receive switch number) = call_words 3 switch number 0
call_bytes (Retire number) = call_words 4 0 number 0

unfoldable pub events_bytes : List Call → List ℕ
events_bytes cs = array_bytes call_bytes cs

-- every number of the call is a word
abbrev pub call_sound : Call → Bool
call_sound (Set switch register word) = is_word switch && (is_word register && is_word word)
call_sound (Send switch) = is_word switch
call_sound (Receive switch number) = is_word switch && is_word number
call_sound (Retire number) = is_word number

-- Reading the bytes, field by field

abbrev pub word_there : List ℕ → ℕ → Result ℕ Fault
word_there bs at = field why.Events bs at

-- a word that has to be 0
unfoldable pub unused_at : List ℕ → ℕ → Result (Unit {0}) Fault
unused_at bs at = and_then (word_there bs at) (λ w. cond (w == 0) (Ok tt) (refuse why.Events at))

-- what follows the operation
abbrev pub set_at : List ℕ → ℕ → Result Call Fault
set_at bs at =
    and_then (word_there bs at) (λ switch.
    and_then (word_there bs (at + 4)) (λ register.
    and_then (word_there bs (at + 4 + 4)) (λ word.
    Ok (Set switch register word))))

abbrev pub send_at : List ℕ → ℕ → Result Call Fault
send_at bs at =
    and_then (word_there bs at) (λ switch.
    and_then (unused_at bs (at + 4)) (λ _.
    and_then (unused_at bs (at + 4 + 4)) (λ _.
    Ok (Send switch))))

abbrev pub receive_at : List ℕ → ℕ → Result Call Fault
receive_at bs at =
    and_then (word_there bs at) (λ switch.
    and_then (word_there bs (at + 4)) (λ number.
    and_then (unused_at bs (at + 4 + 4)) (λ _.
    Ok (Receive switch number))))

abbrev pub retire_at : List ℕ → ℕ → Result Call Fault
retire_at bs at =
    and_then (unused_at bs at) (λ _.
    and_then (word_there bs (at + 4)) (λ number.
    and_then (unused_at bs (at + 4 + 4)) (λ _.
    Ok (Retire number))))

-- the rest of the call at an offset, by its operation
abbrev pub rest_at : ℕ → List ℕ → ℕ → Result Call Fault
rest_at operation bs at =
    cond (operation == 1) (set_at bs (at + 4))
    (cond (operation == 2) (send_at bs (at + 4))
    (cond (operation == 3) (receive_at bs (at + 4))
    (cond (operation == 4) (retire_at bs (at + 4))
    (refuse why.Events at))))

unfoldable pub call_at : List ℕ → ℕ → Result Call Fault
call_at bs at = and_then (word_there bs at) (λ operation. rest_at operation bs at)

unfoldable pub count_at : List ℕ → ℕ → Result ℕ Fault
count_at bs at = and_then (word_there bs at) (λ w. cond (nat_le w most_calls) (Ok w) (refuse why.Events at))

-- count calls more, after those of earlier
abbrev pub calls_from : List ℕ → ℕ → ℕ → List Call → Result (List Call) Fault
calls_from bs = items_from (λ at earlier. call_at bs at) call_size

-- where the calls at an offset end
abbrev pub calls_end : ℕ → ℕ → ℕ
calls_end at count = at + 4 + count * call_size

-- the calls from an offset to the end of the input
unfoldable pub events_at : List ℕ → ℕ → Result (List Call) Fault
events_at bs at =
    and_then (count_at bs at) (λ count.
    and_then (calls_from bs (at + 4) count []) (λ cs.
    cond (calls_end at count == length bs) (Ok cs) (refuse why.Events (calls_end at count))))
