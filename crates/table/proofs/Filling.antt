-- The bytes that a checked table is left with. Assumes nothing.
use Rattle.std.proofs.Common.{ℕ, suc, List, [], ◌∷◌, get_or, w8, Fits}
use Rattle.table.specs.TableLaws.{Bytes}

-- the bytes of a slice are bytes
pub slice_bytes : (bs : List ℕ) → ((i : ℕ) → Fits w8 (get_or bs i 0)) → Bytes bs
slice_bytes [] h = tt
slice_bytes (b ∷ bs) h = ((h 0).fits, slice_bytes bs (λ i. h (suc i)))
