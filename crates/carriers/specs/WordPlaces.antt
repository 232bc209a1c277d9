-- Places of words: the flag, and then the hand. Assumes nothing.
use Rattle.std.specs.Prelude.{ℕ, ◌+◌, ◌*◌, List, take, drop, slice_index}
use Rattle.step.specs.Records.{hand_length}
use Rattle.carriers.specs.CopyCalls.{in_range}
use Rattle.carriers.specs.Pools.{places_in}
use Rattle.carriers.specs.declared.shape.Shape.{Shape}

abbrev pub word_place : ℕ → ℕ → ℕ
word_place n m = 1 + hand_length n m

unfoldable pub word_flag : Shape → List ℕ → ℕ → ℕ
word_flag s memory k = slice_index memory (k * word_place s.switches s.nodes)

unfoldable pub word_copy : Shape → List ℕ → ℕ → List ℕ
word_copy s memory k = take (hand_length s.switches s.nodes) (drop (k * word_place s.switches s.nodes + 1) memory)

-- the copy in what one place holds
abbrev pub word_copied : ℕ → ℕ → List ℕ → List ℕ
word_copied n m place = drop 1 place

-- how many places a memory of this size has
abbrev pub word_capacity : ℕ → ℕ → ℕ → ℕ
word_capacity n m size = places_in (in_range n m) (word_place n m) size
