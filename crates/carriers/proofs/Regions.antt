-- Memory that is written in one part of a row and kept in the others. Assumes nothing.
use Rattle.std.proofs.Common.{◌≡◌, ℕ, ◌+◌, ◌-◌, ◌*◌, ◌<◌, ◌≤◌, List, ◌++◌, length, take, drop, sym, ap, ◌∙◌, inl, inr, append_assoc, arith, length-append, length-drop}
use Rattle.std.proofs.lemmas.List.{drop-append-le, drop-drop, drop-take, drop_at, length-take-le, take-append-le, take-take, take_at}
use Rattle.std.proofs.lemmas.Bool.{cases_lt}
use Rattle.carriers.specs.Memory.{part, placed}
use Rattle.carriers.proofs.Rows.{row_room}

-- part p of c parts of width w is written over
module _ {X : Type 0} (x ys : List X) (c p w : ℕ) (wide : length ys ≡ w) (room : c * w ≤ length x) (within : p < c) where
  front : length (take (p * w) x) ≡ p * w
  front = length-take-le (p * w) x (let r = row_room p c w within in omega arith)

  pub part_written : part w (placed x (p * w) ys) p ≡ ys
  unfolding placed
  part_written = ap (take w) (drop_at (take (p * w) x) _ (p * w) front) ∙ take_at ys _ w wide

  pub part_before : (k : ℕ) → k < p → part w (placed x (p * w) ys) k ≡ part w x k
  unfolding placed
  part_before k lt =
      let r : k * w + w ≤ p * w = row_room k p w lt in
      let gap : p * w ≡ k * w + (p * w - k * w) = omega arith in
      let cut : drop (k * w) (take (p * w) x) ≡ take (p * w - k * w) (drop (k * w) x) =
      ap (λ n. drop (k * w) (take n x)) gap ∙ drop-take (k * w) (p * w - k * w) x in
      let long : w ≤ length (drop (k * w) (take (p * w) x)) = omega (arith, front, length-drop (k * w) (take (p * w) x)) in
      ap (take w) (drop-append-le (k * w) (take (p * w) x) _ (omega (arith, front)))
      ∙ take-append-le w (drop (k * w) (take (p * w) x)) _ long
      ∙ ap (take w) cut
      ∙ take-take w (p * w - k * w) (drop (k * w) x) (omega arith)

  pub part_after : (k : ℕ) → p < k → part w (placed x (p * w) ys) k ≡ part w x k
  unfolding placed
  part_after k lt =
      let r : p * w + w ≤ k * w = row_room p k w lt in
      let past = p * w + length ys in
      let head : length (take (p * w) x ++ ys) ≡ past = length-append (take (p * w) x) ys ∙ omega (arith, front) in
      let gap : k * w ≡ past + (k * w - past) = omega arith in
      ap (take w)
      (ap (drop (k * w)) (sym (append_assoc (take (p * w) x) ys (drop past x)))
      ∙ ap (λ n. drop n ((take (p * w) x ++ ys) ++ drop past x)) gap
      ∙ sym (drop-drop (k * w - past) past ((take (p * w) x ++ ys) ++ drop past x))
      ∙ ap (drop (k * w - past)) (drop_at (take (p * w) x ++ ys) (drop past x) past head)
      ∙ drop-drop (k * w - past) past x
      ∙ ap (λ n. drop n x) (sym gap))

  pub part_kept : (k : ℕ) → (k ≡ p → ⊥) → part w (placed x (p * w) ys) k ≡ part w x k
  part_kept k ne = elim (cases_lt k p) [ inl lt ↦ part_before k lt | inr le ↦ part_after k (above le ne) ]
    where
      above : p ≤ k → (k ≡ p → ⊥) → p < k
      above le ne = omega (arith, λ (e : p ≡ k). ne (sym e))
