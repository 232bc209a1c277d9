-- Records, and what a write to one leaves of the others. Assumes nothing.
use Rattle.std.proofs.Common.{◌≡◌, ℕ, zero, suc, ◌+◌, ◌-◌, ◌<◌, ◌≤◌, Bool, true, false, cond, not, ◌&&◌, eqb, ◌≢◌, List, [], ◌∷◌, ◌++◌, length, take, drop, set, sym, refl, ap, ◌∙◌, ⊎_elim, add-one, arith}
use lib.Seq.{paste}
use borrow.Author.Tests.{eqb-false}
use Rattle.std.proofs.lemmas.List.Edits.{length-paste, drop-paste}
use Rattle.std.proofs.lemmas.List.{append_assoc, length-append, length-take-le, length-drop, drop-append-le, take-append-le, drop-take, take-take, drop-drop, drop_at, take_at, set_split}
use Rattle.std.proofs.str.Laws.{order}
use Rattle.table.specs.Limits.{register_count}
use Rattle.step.specs.Records.{record_length, record_start, records_length, record_of, put_record, registers_of, newer}
use Rattle.step.specs.Steps.{taken, taken_one}
use Rattle.step.proofs.Rows.{row_inside}

-- A part before the place that is written, one after it, and the place itself

pub part_below : (xs r : List ℕ) (at n k w : ℕ) → k + w ≤ at → at ≤ length xs → take w (drop k (paste xs at r n)) ≡ take w (drop k xs)
part_below xs r at n k w below inside =
    let front : length (take at xs) ≡ at = length-take-le at xs inside in
    let more = length-append (take at xs) (take n r) in
    let rest : length (drop k (take at xs)) ≡ at - k = length-drop k (take at xs) ∙ ap (λ z. z - k) front in
    let both = length-append (drop k (take at xs)) (take n r) in
    let split : k + (at - k) ≡ at = omega arith in
    ap (take w) (drop-append-le k (take at xs ++ take n r) (drop (at + n) xs) (omega (arith, more, front)) ∙ ap (λ z. z ++ drop (at + n) xs) (drop-append-le k (take at xs) (take n r) (omega (arith, front))))
    ∙ take-append-le w (drop k (take at xs) ++ take n r) (drop (at + n) xs) (omega (arith, both, rest))
    ∙ take-append-le w (drop k (take at xs)) (take n r) (omega (arith, rest))
    ∙ ap (λ z. take w (drop k (take z xs))) (sym split)
    ∙ ap (take w) (drop-take k (at - k) xs)
    ∙ take-take w (at - k) (drop k xs) (omega arith)

pub part_above : (xs r : List ℕ) (at n k w : ℕ) → at + n ≤ k → at ≤ length xs → n ≤ length r → take w (drop k (paste xs at r n)) ≡ take w (drop k xs)
part_above xs r at n k w above inside long =
    let split : at + n + (k - (at + n)) ≡ k = omega arith in
    ap (λ z. take w (drop z (paste xs at r n))) (sym split)
    ∙ ap (take w) (sym (drop-drop (k - (at + n)) (at + n) (paste xs at r n)) ∙ ap (drop (k - (at + n))) (drop-paste xs at r n inside long) ∙ drop-drop (k - (at + n)) (at + n) xs)
    ∙ ap (λ z. take w (drop z xs)) split

pub part_same : (xs r : List ℕ) (at n : ℕ) → at ≤ length xs → n ≤ length r → take n (drop at (paste xs at r n)) ≡ take n r
part_same xs r at n inside long =
    ap (λ z. take n (drop at z)) (append_assoc (take at xs) (take n r) (drop (at + n) xs))
    ∙ ap (take n) (drop_at (take at xs) (take n r ++ drop (at + n) xs) at (length-take-le at xs inside))
    ∙ take_at (take n r) (drop (at + n) xs) n (length-take-le n r long)

module _ (n m : ℕ) (block : List ℕ) (room : records_length n m ≤ length block) (j : ℕ) (below : j < n) (r : List ℕ) (long : record_length m ≤ length r) where
  inside : record_start m j + record_length m ≤ length block
  inside = omega (arith, row_inside j (record_length m) n below, room)

  pub put_length : length (put_record m block j r) ≡ length block
  put_length = length-paste block (record_start m j) r (record_length m) inside long

  pub put_same : record_of m (put_record m block j r) j ≡ take (record_length m) r
  put_same = part_same block r (record_start m j) (record_length m) (omega (arith, inside)) long

  pub put_other : (s : ℕ) → s ≢ j → record_of m (put_record m block j r) s ≡ record_of m block s
  put_other s differ =
      ⊎_elim
      (λ before. part_below block r (record_start m j) (record_length m) (record_start m s) (record_length m) (row_inside s (record_length m) j before) (omega (arith, inside)))
      (λ after. part_above block r (record_start m j) (record_length m) (record_start m s) (record_length m) (row_inside j (record_length m) s (omega (arith, after, differ))) (omega (arith, inside)) long)
      (order s j)

  pub put_registers : registers_of n m (put_record m block j r) ≡ registers_of n m block
  put_registers = part_above block r (record_start m j) (record_length m) (records_length n m) register_count (row_inside j (record_length m) n below) (omega (arith, inside)) long

-- A write of one element

set_paste : (xs : List ℕ) (i v : ℕ) → i < length xs → set xs i v ≡ paste xs i (v ∷ []) 1
set_paste xs i v inside =
    set_split xs i v inside
    ∙ ap (λ k. take i xs ++ (v ∷ drop k xs)) (sym (add-one i))
    ∙ sym (append_assoc (take i xs) (v ∷ []) (drop (i + 1) xs))

-- a register's write leaves the records
pub set_record : (n m : ℕ) (block : List ℕ) (g v : ℕ) → records_length n m + g < length block → (s : ℕ) → s < n → record_of m (set block (records_length n m + g) v) s ≡ record_of m block s
set_record n m block g v inside s below =
    ap (λ b. record_of m b s) (set_paste block (records_length n m + g) v inside)
    ∙ part_below block (v ∷ []) (records_length n m + g) 1 (record_start m s) (record_length m) (omega (arith, row_inside s (record_length m) n below)) (omega arith)

-- A takeover

module _ (n m s : ℕ) (copy : List ℕ) (full : records_length n m ≤ length copy) where
  pub full_record : (j : ℕ) → j < n → record_length m ≤ length (record_of m copy j)
  full_record j below =
      let inside : record_length m ≤ length (drop (record_start m j) copy) = omega (arith, length-drop (record_start m j) copy, row_inside j (record_length m) n below) in
      omega (arith, length-take-le (record_length m) (drop (record_start m j) copy) inside)

  -- either the block stays, or record j is put
  pub one_way : (P : List ℕ → Type 0) (block : List ℕ) (j : ℕ) → P block → (eqb j s ≡ false → P (put_record m block j (record_of m copy j))) → P (taken_one m s copy block j)
  one_way P block j stays puts = ways (eqb j s) (newer (record_of m copy j) (record_of m block j)) puts
    where
      ways : (own new : Bool) → (own ≡ false → P (put_record m block j (record_of m copy j))) → P (cond (not own && new) (put_record m block j (record_of m copy j)) block)
      ways true new p = stays
      ways false true p = p refl
      ways false false p = stays

  pub taken_length : (block : List ℕ) → records_length n m ≤ length block → (j : ℕ) → j ≤ n → length (taken m s copy block j) ≡ length block
  unfolding taken
  taken_length block room zero le = refl
  taken_length block room (suc j) le =
      let sofar = taken_length block room j (omega arith) in
      one_way (λ b. length b ≡ length block) (taken m s copy block j) j sofar
      (λ _. put_length n m (taken m s copy block j) (omega (arith, sofar, room)) j (omega arith) (record_of m copy j) (full_record j (omega arith)) ∙ sofar)

  -- the own record stays
  pub taken_own : (block : List ℕ) → records_length n m ≤ length block → (j : ℕ) → j ≤ n → record_of m (taken m s copy block j) s ≡ record_of m block s
  unfolding taken
  taken_own block room zero le = refl
  taken_own block room (suc j) le =
      let long = taken_length block room j (omega arith) in
      let sofar = taken_own block room j (omega arith) in
      one_way (λ b. record_of m b s ≡ record_of m block s) (taken m s copy block j) j sofar
      (λ other. put_other n m (taken m s copy block j) (omega (arith, long, room)) j (omega arith) (record_of m copy j) (full_record j (omega arith)) s (λ e. eqb-false j s other (sym e)) ∙ sofar)
