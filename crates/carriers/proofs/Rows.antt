-- Parts of one width that lie in a row. Assumes nothing.
use Rattle.std.proofs.Common.{ℕ, zero, suc, ◌+◌, ◌*◌, ◌<◌, ◌≤◌, ap, inl, inr, suc-mul, arith}
use Rattle.std.proofs.lemmas.Bool.{cases_eq}

-- part j of n lies within the row
pub row_room : (j n w : ℕ) → j < n → j * w + w ≤ n * w
row_room j zero w lt = let z : ⊥ = omega arith in elim z [ ]
row_room j (suc n) w lt = elim (cases_eq j n) [
  | inl e ↦ omega (arith, suc-mul n w, ap (λ k. k * w) e)
  | inr e ↦ omega (arith, suc-mul n w, row_room j n w (omega arith))
]

-- a row is as long as a longer one at most
pub row_most : (n a w : ℕ) → n ≤ a → n * w ≤ a * w
row_most n a w le = elim (cases_eq n a) [
  | inl e ↦ omega (arith, ap (λ k. k * w) e)
  | inr e ↦ omega (arith, row_room n a w (omega arith))
]
