-- What a carrier means: copies held under numbers. Assumes nothing.
use Rattle.std.specs.Prelude.{◌≡◌, ℕ, ◌+◌, Bool, cond, ◌&&◌, ◌||◌, List, [], ◌∷◌, ◌++◌, length, Some, None, Ok, Option, Result, ◌==◌, nat_lt, slice_index}
use Rattle.step.specs.Records.{hand_length}
use Rattle.table.specs.Wire.{refuse}
use Rattle.table.specs.declared.fault.Fault.{Fault}
use Rattle.table.specs.declared.fault.Reason.TheVariants.{Shape, Full, NotHeld}

-- a number and the copy that is held under it, as a hand's words
abbrev pub Held : Type 0
Held = ℕ × List ℕ

pub record Meaning : Type 0 where
  pub code : ℕ
  pub switches : ℕ
  pub nodes : ℕ
  pub capacity : ℕ
  -- the number of the next copy
  pub next : ℕ
  -- rising by number
  pub held : List Held

-- no copy has this number: next grows no further
abbrev pub last_number : ℕ
last_number = 4294967295

-- the hand has a sender and one record for each switch
abbrev pub whole_hand : Meaning → List ℕ → Bool
whole_hand c hand = length hand == hand_length c.switches c.nodes

abbrev pub sender : List ℕ → ℕ
sender hand = slice_index hand 0

-- a hand that may be put: whole, from a switch that there is
abbrev pub sendable : Meaning → List ℕ → Bool
sendable c hand = whole_hand c hand && nat_lt (sender hand) c.switches

-- as many copies as there is space for, or no number left
abbrev pub no_space : Meaning → Bool
no_space c = length c.held == c.capacity || c.next == last_number

abbrev pub with_copy : Meaning → List ℕ → Meaning
with_copy c hand = record {
  code = c.code;
  switches = c.switches;
  nodes = c.nodes;
  capacity = c.capacity;
  next = c.next + 1;
  held = c.held ++ (c.next, hand) ∷ [];
}

abbrev pub put_answer : Meaning → List ℕ → Result ℕ Fault
put_answer c hand = cond (sendable c hand) (cond (no_space c) (refuse Full 0) (Ok c.next)) (refuse Shape 0)

abbrev pub put_after : Meaning → List ℕ → Meaning
put_after c hand = cond (sendable c hand) (cond (no_space c) c (with_copy c hand)) c

-- the copy with this number
unfoldable pub copy_under : ℕ → List Held → Option (List ℕ)
copy_under number [] = None
copy_under number (h ∷ hs) = cond (h.0 == number) (Some h.1) (copy_under number hs)

abbrev pub found_answer : Option (List ℕ) → Result (Unit {0}) Fault
found_answer None = refuse NotHeld 0
found_answer (Some copy) = Ok tt

abbrev pub found_hand : Option (List ℕ) → List ℕ → List ℕ
found_hand None hand = hand
found_hand (Some copy) hand = copy

abbrev pub fetch_answer : Meaning → ℕ → List ℕ → Result (Unit {0}) Fault
fetch_answer c number hand = cond (whole_hand c hand) (found_answer (copy_under number c.held)) (refuse Shape 0)

abbrev pub fetch_hand : Meaning → ℕ → List ℕ → List ℕ
fetch_hand c number hand = cond (whole_hand c hand) (found_hand (copy_under number c.held) hand) hand

-- the other copies
unfoldable pub copies_but : ℕ → List Held → List Held
copies_but number [] = []
copies_but number (h ∷ hs) = cond (h.0 == number) (copies_but number hs) (h ∷ copies_but number hs)

abbrev pub without_copy : Meaning → ℕ → Meaning
without_copy c number = record {
  code = c.code;
  switches = c.switches;
  nodes = c.nodes;
  capacity = c.capacity;
  next = c.next;
  held = copies_but number c.held;
}

abbrev pub retire_answer : Meaning → ℕ → Result (Unit {0}) Fault
retire_answer c number = found_answer (copy_under number c.held)

abbrev pub retired_or_same : Option (List ℕ) → Meaning → ℕ → Meaning
retired_or_same None c number = c
retired_or_same (Some copy) c number = without_copy c number

abbrev pub retire_after : Meaning → ℕ → Meaning
retire_after c number = retired_or_same (copy_under number c.held) c number

-- What a call of a carrier does, between the meanings before and after it; kept is what the carrier keeps of its own.

pub record Put (before after : Meaning) (hand : List ℕ) (r : Result ℕ Fault) (kept : Type 0) : Type 0 where
  pub answer : r ≡ put_answer before hand
  pub meaning : after ≡ put_after before hand
  pub sound : kept

pub record Fetched (of : Meaning) (number : ℕ) (hand hand_after : List ℕ) (r : Result (Unit {0}) Fault) : Type 0 where
  pub answer : r ≡ fetch_answer of number hand
  pub hand_is : hand_after ≡ fetch_hand of number hand

pub record Retired (before after : Meaning) (number : ℕ) (r : Result (Unit {0}) Fault) (kept : Type 0) : Type 0 where
  pub answer : r ≡ retire_answer before number
  pub meaning : after ≡ retire_after before number
  pub sound : kept
