-- Places of bytes: the flag as a field, and then the copy. Assumes nothing.
use Rattle.std.specs.Prelude.{ℕ, ◌+◌, ◌*◌, List, take, drop}
use Rattle.table.specs.Wire.{word_at}
use Rattle.carriers.specs.Copies.{copy_length, hand_in}
use Rattle.carriers.specs.CopyCalls.{in_range}
use Rattle.carriers.specs.Pools.{places_in}
use Rattle.carriers.specs.declared.shape.Shape.{Shape}

abbrev pub frame_place : ℕ → ℕ → ℕ
frame_place n m = 4 + copy_length n m

unfoldable pub frame_flag : Shape → List ℕ → ℕ → ℕ
frame_flag s memory k = word_at memory (k * frame_place s.switches s.nodes)

unfoldable pub frame_copy : Shape → List ℕ → ℕ → List ℕ
frame_copy s memory k = hand_in s.switches s.nodes (take (copy_length s.switches s.nodes) (drop (k * frame_place s.switches s.nodes + 4) memory))

-- the copy in what one place holds
abbrev pub frame_copied : ℕ → ℕ → List ℕ → List ℕ
frame_copied n m place = hand_in n m (drop 4 place)

-- how many places a memory of this size has
abbrev pub frame_capacity : ℕ → ℕ → ℕ → ℕ
frame_capacity n m size = places_in (in_range n m) (frame_place n m) size
