-- Places of a pool's memory, each with a flag and a copy, and the copies held there. The flag is a copy's number
-- plus 1, or 0 where the place is free. Assumes nothing.
use Rattle.std.specs.Prelude.{◌≡◌, ℕ, zero, suc, ◌+◌, ◌-◌, ◌<◌, ◌≤◌, Bool, cond, List, [], ◌∷◌, Some, None, Option, ◌==◌, nat_lt}
use Rattle.carriers.specs.Meanings.{Held, Meaning}

-- a copy put into a list that rises by number
unfoldable pub inserted_by_number : Held → List Held → List Held
inserted_by_number h [] = h ∷ []
inserted_by_number h (x ∷ xs) = cond (nat_lt x.0 h.0) (x ∷ inserted_by_number h xs) (h ∷ x ∷ xs)

abbrev pub with_place : ℕ → List ℕ → List Held → List Held
with_place flag copy hs = cond (flag == 0) hs (inserted_by_number (flag - 1, copy) hs)

-- the copies of the first k places
unfoldable pub held_below : (ℕ → ℕ) → (ℕ → List ℕ) → ℕ → List Held
held_below flag copy zero = []
held_below flag copy (suc k) = with_place (flag k) (copy k) (held_below flag copy k)

-- how many of the first k places hold a copy
unfoldable pub used_below : (ℕ → ℕ) → ℕ → ℕ
used_below flag zero = 0
used_below flag (suc k) = cond (flag k == 0) (used_below flag k) (used_below flag k + 1)

abbrev pub or_this : Option ℕ → Bool → ℕ → Option ℕ
or_this None here k = cond here (Some k) None
or_this (Some p) here k = Some p

-- the lowest of the first k places with this flag
unfoldable pub lowest_below : (ℕ → ℕ) → ℕ → ℕ → Option ℕ
lowest_below flag wanted zero = None
lowest_below flag wanted (suc k) = or_this (lowest_below flag wanted k) (flag k == wanted) k

-- what a pool with these places means
abbrev pub pool_meaning : ℕ → ℕ → ℕ → ℕ → ℕ → (ℕ → ℕ) → (ℕ → List ℕ) → Meaning
pool_meaning code n m capacity next flag copy = record {
  code = code;
  switches = n;
  nodes = m;
  capacity = capacity;
  next = next;
  held = held_below flag copy capacity;
}

-- no number was given out that next has not passed
abbrev pub Numbered : (ℕ → ℕ) → ℕ → ℕ → Type 0
Numbered flag capacity next = (k : ℕ) → k < capacity → flag k ≤ next

-- no two places hold copies with the same number
abbrev pub Distinct : (ℕ → ℕ) → ℕ → Type 0
Distinct flag capacity = (i j : ℕ) → (i < j) × (j < capacity) × (flag i ≡ flag j) → flag i ≡ 0
