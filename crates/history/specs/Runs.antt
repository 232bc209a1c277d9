-- The events of a list of calls, and which happens before which. Assumes nothing.
use Rattle.std.specs.Prelude.{◌≡◌, ℕ, zero, suc, ◌+◌, ◌^◌, ◌<◌, ◌≤◌, Bool, true, false, cond, ◌&&◌, ◌⊎◌, List, length, take, is_ok, Some, None, Ok, Err, Option, Result, ◌==◌, nat_lt, slice_index, slice_index_or}
use Rattle.table.specs.Tables.{Table}
use Rattle.table.specs.declared.fault.Fault.{Fault}
use Rattle.step.specs.Nodes.{WordKind}
use Rattle.step.specs.Opening.{start_registers}
use Rattle.history.specs.Calls.{Call, set_call, send_call, receive_call, retire_call, Fleet, Reply, answer, ran}

-- the switch that a call is at; a retire is at none
abbrev pub is_at : Call → ℕ → Bool
is_at (set_call s g w) j = s == j
is_at (send_call s) j = s == j
is_at (receive_call s x) j = s == j
is_at (retire_call x) j = false

abbrev pub is_retire : Call → Bool
is_retire (set_call s g w) = false
is_retire (send_call s) = false
is_retire (receive_call s x) = false
is_retire (retire_call x) = true

-- the word of a set is a word
abbrev pub WordCall : Call → Type 0
WordCall (set_call s g w) = w < 2 ^ 32
WordCall (send_call s) = Unit {0}
WordCall (receive_call s x) = Unit {0}
WordCall (retire_call x) = Unit {0}

-- a call past the end of a list
abbrev pub no_call : Call
no_call = retire_call 0

module _ (k : WordKind) (t : Table) (f : Fleet) (calls : List Call) where
  unfoldable pub call_at : ℕ → Call
  call_at i = slice_index_or calls i no_call

  -- the fleet before call i
  unfoldable pub fleet_at : ℕ → Fleet
  fleet_at i = ran k t f (take i calls)

  unfoldable pub answer_at : ℕ → Result Reply Fault
  answer_at i = answer k t (fleet_at i) (call_at i)

  -- call i is an event: an accepted set, send or receive
  unfoldable pub event : ℕ → Bool
  event i = nat_lt i (length calls) && (is_ok (answer_at i) && cond (is_retire (call_at i)) false true)

  unfoldable pub event_of : ℕ → ℕ → Bool
  event_of s i = event i && is_at (call_at i) s

  -- how many of the first i calls are events of s
  unfoldable pub events_of : ℕ → ℕ → ℕ
  events_of s zero = 0
  events_of s (suc i) = events_of s i + cond (event_of s i) 1 0

  -- call i is the n-th event of s, counted from 1: it makes state n of s
  pub record Nth (s n i : ℕ) : Type 0 where
    pub is : event_of s i ≡ true
    pub place : suc (events_of s i) ≡ n

  -- the number that a send answered
  abbrev pub answered : Result Reply Fault → Option ℕ
  answered (Ok r) = r.number
  answered (Err e) = None

  -- Direct precedence: the next state of the same switch, or from a send to each receive of the number that it answered
  pub data Precedes : ℕ → ℕ → Type 0 where
    next : (s n i j : ℕ) → Nth s n i → Nth s (suc n) j → Precedes i j
    heard : (s r x i j : ℕ) → event i ≡ true → event j ≡ true → call_at i ≡ send_call s → answered (answer_at i) ≡ Some x → call_at j ≡ receive_call r x → Precedes i j

  -- Happens before: any chain of one or more such steps
  pub data Before : ℕ → ℕ → Type 0 where
    step : (i j : ℕ) → Precedes i j → Before i j
    chain : (i j l : ℕ) → Before i j → Precedes j l → Before i l

  abbrev pub Until : ℕ → ℕ → Type 0
  Until i e = (i ≡ e) ⊎ Before i e

  -- some n-th event of s is e or happens before it
  abbrev pub Heard : ℕ → ℕ → ℕ → Type 0
  Heard s n e = (i : ℕ) × Nth s n i × Until i e

  -- state n is the latest state of s that is e's or happens before it; state 0 where there is none
  pub record Latest (s e n : ℕ) : Type 0 where
    pub reached : (n ≡ 0) ⊎ Heard s n e
    pub last : (l : ℕ) → Heard s l e → l ≤ n

  -- the word that register g of s holds after the first i calls
  abbrev pub written : Call → ℕ → ℕ → ℕ → ℕ
  written (set_call s g w) j h old = cond (s == j && g == h) w old
  written (send_call s) j h old = old
  written (receive_call s x) j h old = old
  written (retire_call x) j h old = old

  unfoldable pub register_at : ℕ → ℕ → ℕ → ℕ
  register_at s g zero = slice_index (start_registers t s) g
  register_at s g (suc i) = cond (event i) (written (call_at i) s g (register_at s g i)) (register_at s g i)
