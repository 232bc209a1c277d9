-- Fields of 4 bytes, high byte first, and reading one field after another. Assumes nothing.
use Rattle.std.specs.Prelude.{ℕ, ◌+◌, ◌*◌, ◌/◌, ◌%◌, Bool, cond, ◌&&◌, List, [], ◌∷◌, length, Ok, Err, Result, nat_le, slice_index}
use Rattle.table.specs.declared.fault.Fault.{Fault}
use Rattle.table.specs.declared.fault.Reason.{Reason}

-- the word at offset i
unfoldable pub word_at : List ℕ → ℕ → ℕ
word_at bs i = slice_index bs i * 16777216 + slice_index bs (i + 1) * 65536 + slice_index bs (i + 2) * 256 + slice_index bs (i + 3)

-- the 4 bytes of a word
abbrev pub word_bytes : ℕ → List ℕ
word_bytes w = w / 16777216 ∷ (w / 65536 % 256) ∷ (w / 256 % 256) ∷ (w % 256) ∷ []

abbrev pub fault : Reason → ℕ → Fault
fault why place = record { reason = why; place = place }

abbrev pub refuse : {A : Type 0} → Reason → ℕ → Result A Fault
refuse why place = Err (fault why place)

-- the field at offset i, or the offset where it is missing
unfoldable pub field : Reason → List ℕ → ℕ → Result ℕ Fault
field why bs i = cond (nat_le (i + 4) (length bs)) (Ok (word_at bs i)) (refuse why i)

-- what follows an answer; a refusal stays as it is
abbrev pub and_then : {A B : Type 0} → Result A Fault → (A → Result B Fault) → Result B Fault
and_then (Ok x) f = f x
and_then (Err e) f = Err e

-- an answer that says only whether it went well, with the value that was filled in
abbrev pub filled : {A : Type 0} → Result (Unit {0}) Fault → A → Result A Fault
filled (Ok u) x = Ok x
filled (Err e) x = Err e

-- an answer that says how many, with the value that was filled in
abbrev pub counted : {C A : Type 0} → Result C Fault → (C → A) → Result A Fault
counted (Ok c) f = Ok (f c)
counted (Err e) f = Err e

-- a field whose value has to pass a test, and else is refused as wrong
unfoldable pub tested_field : Reason → Reason → (ℕ → Bool) → List ℕ → ℕ → Result ℕ Fault
tested_field short wrong ok bs i = and_then (field short bs i) (λ w. cond (ok w) (Ok w) (refuse wrong i))

-- x lies between two numbers
abbrev pub between : ℕ → ℕ → ℕ → Bool
between low high x = nat_le low x && nat_le x high
