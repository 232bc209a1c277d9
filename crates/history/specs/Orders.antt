-- The allowed orders of a list's events, and how one runs. Assumes nothing.
use Rattle.std.specs.Prelude.{◌≡◌, ℕ, ◌+◌, ◌≤◌, Bool, true, false, cond, ◌&&◌, List, [], ◌∷◌, ◌++◌, map, length, Some, None, Option, ◌==◌}
use Rattle.table.specs.Tables.{Table}
use Rattle.step.specs.Nodes.{WordKind}
use Rattle.step.specs.Records.{hand_length}
use Rattle.history.specs.Calls.{Call, set_call, send_call, receive_call, retire_call, Fleet, first_memory}
use Rattle.history.specs.Runs.{answer_at, answered, call_at, event, Precedes}

-- a new live fleet of the table, on any carrier that fits it
pub record New (k : WordKind) (t : Table) (f : Fleet) : Type 0 where
  pub memory : f.memory ≡ first_memory k t
  pub hand : length f.hand ≡ hand_length t.switches (length t.nodes)
  pub code : f.carrier.code ≡ t.code
  pub switches : f.carrier.switches ≡ t.switches
  pub nodes : f.carrier.nodes ≡ length t.nodes
  pub some : 1 ≤ f.carrier.capacity
  pub next : f.carrier.next ≡ 0
  pub held : f.carrier.held ≡ []

-- how often i stands in a list
unfoldable pub times : ℕ → List ℕ → ℕ
times i [] = 0
times i (x ∷ xs) = cond (x == i) 1 0 + times i xs

-- i stands in a list, and j after it
abbrev pub StandsBefore : ℕ → ℕ → List ℕ → Type 0
StandsBefore i j order = (p : List ℕ) × (q : List ℕ) × (r : List ℕ) × (order ≡ p ++ (i ∷ (q ++ (j ∷ r))))

abbrev pub is_send : Call → Bool
is_send (set_call s g w) = false
is_send (send_call s) = true
is_send (receive_call s x) = false
is_send (retire_call x) = false

abbrev pub answers_number : Option ℕ → ℕ → Bool
answers_number None x = false
answers_number (Some y) x = y == x

module _ (k : WordKind) (t : Table) (f : Fleet) (calls : List Call) where
  -- An allowed order, by the places of the events in the list: each event once, each switch's events in their order, and
  -- every receive after its send
  pub record Allowed (order : List ℕ) : Type 0 where
    pub once : (i : ℕ) → times i order ≡ cond (event k t f calls i) 1 0
    pub keeps : (i j : ℕ) → Precedes k t f calls i j → StandsBefore i j order

  -- call i is the send that answered the number x
  abbrev pub sent_as : ℕ → ℕ → Bool
  sent_as x i = event k t f calls i && (is_send (call_at k t f calls i) && answers_number (answered k t f calls (answer_at k t f calls i)) x)

  -- the number that the send which answered x has in an order on a new carrier: how many sends stand before it
  unfoldable pub new_number : List ℕ → ℕ → ℕ
  new_number [] x = 0
  new_number (i ∷ order) x = cond (sent_as x i) 0 (cond (is_send (call_at k t f calls i)) 1 0 + new_number order x)

  -- a call as the order makes it: a receive names its send's new number
  abbrev pub renamed : List ℕ → Call → Call
  renamed order (set_call s g w) = set_call s g w
  renamed order (send_call s) = send_call s
  renamed order (receive_call s x) = receive_call s (new_number order x)
  renamed order (retire_call x) = retire_call x

  -- the calls that an order makes
  abbrev pub calls_of : List ℕ → List Call
  calls_of order = map (λ i. renamed order (call_at k t f calls i)) order

  -- how many sends an order has
  unfoldable pub sends : List ℕ → ℕ
  sends [] = 0
  sends (i ∷ order) = cond (is_send (call_at k t f calls i)) 1 0 + sends order
