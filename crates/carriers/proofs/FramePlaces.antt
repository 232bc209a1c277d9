-- What a place of bytes holds once it is written. Assumes nothing.
use Rattle.std.proofs.Common.{◌≡◌, ℕ, List, ◌++◌, length, drop, refl, ap, ◌∙◌, arith, length-append}
use Rattle.step.specs.Records.{hand_length}
use Rattle.table.proofs.Words.{stands_front, word_read}
use Rattle.table.specs.Wire.{word_at, word_bytes}
use Rattle.carriers.specs.Copies.{copy_bytes}
use Rattle.carriers.specs.FramePlaces.{frame_copied, frame_place}
use Rattle.carriers.specs.Memory.{placed}
use Rattle.carriers.proofs.CopyCodec.{hand_back}
use Rattle.carriers.proofs.CopyWrites.{length_copy_bytes}
use Rattle.carriers.proofs.Placing.{placed_all, placed_more}

-- a whole place, written over
pub frame_written : (d y hand : List ℕ) (code n m f : ℕ) → length d ≡ frame_place n m → length hand ≡ hand_length n m → y ≡ placed (placed d 0 (word_bytes f)) 4 (copy_bytes code n m hand) → y ≡ word_bytes f ++ copy_bytes code n m hand
frame_written d y hand code n m f whole long e =
    let size = length_copy_bytes code n m hand long in
    e ∙ placed_more d 0 4 (word_bytes f) (copy_bytes code n m hand) refl (omega arith) ∙ placed_all d (word_bytes f ++ copy_bytes code n m hand) (length-append (word_bytes f) (copy_bytes code n m hand) ∙ omega arith)

pub frame_flagged : (y rest : List ℕ) (f : ℕ) → y ≡ word_bytes f ++ rest → word_at y 0 ≡ f
frame_flagged y rest f e = ap (λ b. word_at b 0) e ∙ word_read (word_bytes f ++ rest) 0 f (stands_front (word_bytes f) rest)

pub frame_holds : (y hand : List ℕ) (code n m f : ℕ) → length hand ≡ hand_length n m → y ≡ word_bytes f ++ copy_bytes code n m hand → frame_copied n m y ≡ hand
frame_holds y hand code n m f long e = ap (frame_copied n m) e ∙ hand_back code n m hand (copy_bytes code n m hand) long refl

pub frame_freed : (d y : List ℕ) → y ≡ placed d 0 (word_bytes 0) → word_at y 0 ≡ 0
unfolding placed
frame_freed d y e = frame_flagged y (drop 4 d) 0 e
