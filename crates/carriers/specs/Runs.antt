-- Carriers that are given the same calls. Assumes nothing.
use Rattle.std.specs.Prelude.{◌≡◌, ℕ, ◌<◌, List, [], ◌∷◌, length, Result}
use Rattle.std.specs.List.{AllByRecursion}
use Rattle.table.specs.Worked.{worked_table}
use Rattle.table.specs.declared.fault.Fault.{Fault}
use Rattle.step.specs.Records.{hand_length}
use Rattle.carriers.specs.Copies.{copy_length}
use Rattle.carriers.specs.FramePlaces.{frame_capacity}
use Rattle.carriers.specs.Meanings.{Fetched, Held, Meaning, Put, Retired, put_after, retire_after}

pub data Call : Type 0 where
  put : List ℕ → Call
  fetch : ℕ → List ℕ → Call
  retire : ℕ → Call

pub data Answer : Type 0 where
  numbered : Result ℕ Fault → Answer
  -- with what the hand holds
  fetched : Result (Unit {0}) Fault → List ℕ → Answer
  retired : Result (Unit {0}) Fault → Answer

-- a call of some carrier, by what a carrier promises of it
pub data Step : Meaning → Call → Answer → Meaning → Type 0 where
  puts : {a b : Meaning} {hand : List ℕ} {r : Result ℕ Fault} → Put a b hand r (Unit {0}) → Step a (put hand) (numbered r) b
  fetches : {a : Meaning} {number : ℕ} {hand hand' : List ℕ} {r : Result (Unit {0}) Fault} → Fetched a number hand hand' r → Step a (fetch number hand) (fetched r hand') a
  retires : {a b : Meaning} {number : ℕ} {r : Result (Unit {0}) Fault} → Retired a b number r (Unit {0}) → Step a (retire number) (retired r) b

pub data Run : Meaning → List Call → List Answer → Meaning → Type 0 where
  done : {a : Meaning} → Run a [] [] a
  more : {a b d : Meaning} {c : Call} {x : Answer} {cs : List Call} {xs : List Answer} → Step a c x b → Run b cs xs d → Run a (c ∷ cs) (x ∷ xs) d

-- Two carriers, of whatever make, with equal meanings: given the same calls they answer the same and have equal meanings again.
abbrev pub CarriersAgree : Type 0
CarriersAgree = (a a' b b' : Meaning) (cs : List Call) (xs xs' : List Answer) → a ≡ a' → Run a cs xs b → Run a' cs xs' b' → (xs ≡ xs') × (b ≡ b')

-- the numbers of the held copies rise, and are below next
abbrev pub Rising : List Held → Type 0
Rising [] = Unit {0}
Rising (h ∷ hs) = AllByRecursion (λ k. h.0 < k.0) hs × Rising hs

abbrev pub InOrder : Meaning → Type 0
InOrder c = Rising c.held × AllByRecursion (λ h. h.0 < c.next) c.held

-- Every call keeps them so; a new carrier holds none.
abbrev pub StaysInOrder : Type 0
StaysInOrder = (c : Meaning) → InOrder c → ((hand : List ℕ) → InOrder (put_after c hand)) × ((number : ℕ) → InOrder (retire_after c number))

-- A hand and a copy for the worked table, and the least frame pool for one.
abbrev pub WorkedPools : Type 0
WorkedPools =
    (hand_length worked_table.switches (length worked_table.nodes) ≡ 16)
    × (copy_length worked_table.switches (length worked_table.nodes) ≡ 84)
    × (frame_capacity worked_table.switches (length worked_table.nodes) 87 ≡ 0)
    × (frame_capacity worked_table.switches (length worked_table.nodes) 88 ≡ 1)
