-- What holds of reading and writing copies, in the format's own words. Assumes nothing.
use Rattle.std.specs.Prelude.{◌≡◌, ℕ, true, List, length, Ok}
use Rattle.carriers.specs.Copies.{copy_alone, copy_bytes, copy_length, sound_copy}

-- Reading accepts exactly the bytes that encode some copy, and encoding and decoding undo each other.
pub record CopyLaws (code n m : ℕ) (bs : List ℕ) : Type 0 where
  -- what is accepted is the encoding of a copy, and that copy is the answer
  pub only : (hand : List ℕ) → copy_alone code n m bs ≡ Ok hand → (sound_copy n m hand ≡ true) × (copy_bytes code n m hand ≡ bs)
  -- every copy's encoding is accepted, and decodes to it
  pub all : (hand : List ℕ) → sound_copy n m hand ≡ true → copy_bytes code n m hand ≡ bs → copy_alone code n m bs ≡ Ok hand
  -- and is as long as copies are
  pub sized : (hand : List ℕ) → copy_alone code n m bs ≡ Ok hand → length bs ≡ copy_length n m
