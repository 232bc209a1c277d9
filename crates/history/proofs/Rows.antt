-- Rows of one width that follow one another. Assumes nothing.
use Rattle.std.proofs.Common.{◌≡◌, ℕ, zero, suc, ◌+◌, ◌-◌, ◌*◌, ◌<◌, ◌≤◌, ◌≢◌, List, ◌++◌, length, take, drop, sym, ap, ◌∙◌, ⊎_elim, suc-mul, arith}
use lib.Seq.{paste}
use Rattle.std.proofs.lemmas.List.Edits.{length-paste}
use Rattle.std.proofs.lemmas.List.{length-take-le, length-drop, take_all, take-append-drop, take-take, drop-take}
use Rattle.std.proofs.lemmas.Bool.{cases_lt}
use Rattle.step.proofs.RecordLaws.{part_below, part_above, part_same}
use Rattle.step.proofs.Rows.{row_inside}

abbrev pub row : ℕ → List ℕ → ℕ → List ℕ
row w xs j = take w (drop (j * w) xs)

pub row_length : (w n : ℕ) (xs : List ℕ) → n * w ≤ length xs → (j : ℕ) → j < n → length (row w xs j) ≡ w
row_length w n xs room j below = length-take-le w (drop (j * w) xs) (omega (arith, length-drop (j * w) xs, row_inside j w n below))

-- a row of the first words
pub row_front : (w n : ℕ) (xs : List ℕ) (j : ℕ) → j < n → row w (take (n * w) xs) j ≡ row w xs j
row_front w n xs j below =
    let inside = row_inside j w n below in
    let split : j * w + (n * w - j * w) ≡ n * w = omega arith in
    ap (λ z. take w (drop (j * w) (take z xs))) (sym split)
    ∙ ap (take w) (drop-take (j * w) (n * w - j * w) xs)
    ∙ take-take w (n * w - j * w) (drop (j * w) xs) (omega arith)

-- A row replaced

module _ (w n : ℕ) (xs : List ℕ) (room : n * w ≤ length xs) (s : ℕ) (below : s < n) (r : List ℕ) (long : length r ≡ w) where
  inside : s * w + w ≤ length xs
  inside = omega (arith, row_inside s w n below, room)

  pub put_length : length (paste xs (s * w) r w) ≡ length xs
  put_length = length-paste xs (s * w) r w inside (omega (arith, long))

  pub put_same : row w (paste xs (s * w) r w) s ≡ r
  put_same = part_same xs r (s * w) w (omega (arith, inside)) (omega (arith, long)) ∙ take_all w r (omega (arith, long))

  pub put_other : (j : ℕ) → j ≢ s → row w (paste xs (s * w) r w) j ≡ row w xs j
  put_other j differ =
      ⊎_elim
      (λ before. part_below xs r (s * w) w (j * w) w (row_inside j w s before) (omega (arith, inside)))
      (λ after. part_above xs r (s * w) w (j * w) w (row_inside s w j (omega (arith, after, differ))) (omega (arith, inside)) (omega (arith, long)))
      (cases_lt j s)

-- The same rows are the same words

front_more : (a w : ℕ) (xs : List ℕ) → take (a + w) xs ≡ take a xs ++ take w (drop a xs)
front_more a w xs =
    sym (take-append-drop a (take (a + w) xs))
    ∙ ap (λ z. z ++ drop a (take (a + w) xs)) (take-take a (a + w) xs (omega arith))
    ∙ ap (λ z. take a xs ++ z) (drop-take a w xs)

pub rows_same : (w n : ℕ) (xs ys : List ℕ) → ((j : ℕ) → j < n → row w xs j ≡ row w ys j) → take (n * w) xs ≡ take (n * w) ys
rows_same w zero xs ys same =
    let none : 0 * w ≡ 0 = omega arith in
    ap (λ z. take z xs) none ∙ sym (ap (λ z. take z ys) none)
rows_same w (suc n) xs ys same =
    let size : suc n * w ≡ n * w + w = omega (arith, suc-mul n w) in
    let before = rows_same w n xs ys (λ j lt. same j (omega arith)) in
    let last = same n (omega arith) in
    ap (λ z. take z xs) size
    ∙ front_more (n * w) w xs
    ∙ (λ i. before i ++ last i)
    ∙ sym (front_more (n * w) w ys)
    ∙ sym (ap (λ z. take z ys) size)
