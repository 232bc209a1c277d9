-- A part of memory that is written over. Assumes nothing.
use Rattle.std.specs.Prelude.{ℕ, ◌+◌, ◌*◌, Bool, cond, List, ◌++◌, length, take, drop, replicate}

-- what d holds once xs is written over it from `at` on
unfoldable pub placed : {X : Type 0} → List X → ℕ → List X → List X
placed d at xs = take at d ++ (xs ++ drop (at + length xs) d)

-- part k of a row of parts that are w long
abbrev pub part : {X : Type 0} → ℕ → List X → ℕ → List X
part w memory k = take w (drop (k * w) memory)

-- all of memory is zero, where it is written at all
abbrev pub zeroed : {X : Type 0} → X → Bool → List X → List X
zeroed zero written memory = cond written (replicate (length memory) zero) memory
