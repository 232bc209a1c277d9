-- Truths, and the words that stand for them. Assumes nothing.
use Rattle.std.specs.Prelude.{ℕ, Bool, cond, not, ◌||◌, ◌==◌}
use Rattle.std.specs.Bool.{beq}

-- a word other than 0 reads as true
abbrev pub truth : ℕ → Bool
truth w = not (w == 0)

-- true is written as 1
abbrev pub truth_word : Bool → ℕ
truth_word b = cond b 1 0

abbrev pub implied : Bool → Bool → Bool
implied a b = not a || b

abbrev pub iff : Bool → Bool → Bool
iff a b = beq a b
