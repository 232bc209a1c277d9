-- What a pool means, by its shape and its places. Assumes nothing.
use Rattle.std.specs.Prelude.{ℕ, ◌/◌, Bool, cond, List, []}
use Rattle.carriers.specs.Meanings.{Meaning}
use Rattle.carriers.specs.Places.{pool_meaning}
use Rattle.carriers.specs.declared.shape.Shape.{Shape}

abbrev pub meaning_of : Shape → ℕ → (ℕ → ℕ) → (ℕ → List ℕ) → Meaning
meaning_of s next flag copy = pool_meaning s.code s.switches s.nodes s.capacity next flag copy

-- how many places of this width a memory of this size has, where it has any
abbrev pub places_in : Bool → ℕ → ℕ → ℕ
places_in any width size = cond any (size / width) 0

-- a new carrier
abbrev pub opened : ℕ → ℕ → ℕ → ℕ → Meaning
opened code n m capacity = record { code = code; switches = n; nodes = m; capacity = capacity; next = 0; held = [] }
