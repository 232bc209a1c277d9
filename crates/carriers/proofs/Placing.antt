-- Parts of memory that are written over, one after another. Assumes nothing.
use Rattle.std.proofs.Common.{◌≡◌, ℕ, suc, ◌+◌, ◌<◌, ◌≤◌, List, [], ◌∷◌, ◌++◌, length, take, drop, set, sym, ap, ◌∙◌, append_assoc, append-nil, arith, length-append, length-drop}
use borrow.Rule.Slice.PartMut.{put_mid}
use Rattle.std.proofs.lemmas.List.{drop_all, drop_at, drop-drop, length-take-le, set_split, take-append-drop, take_at}
use Rattle.carriers.specs.Memory.{placed}

pub length_placed : {X : Type 0} (d : List X) (at : ℕ) (xs : List X) → at + length xs ≤ length d → length (placed d at xs) ≡ length d
unfolding placed
length_placed d at xs room =
    length-append (take at d) (xs ++ drop (at + length xs) d)
    ∙ omega (arith, length-take-le at d (omega arith), length-append xs (drop (at + length xs) d), length-drop (at + length xs) d)

-- all of d is written over
pub placed_all : {X : Type 0} (d xs : List X) → length xs ≡ length d → placed d 0 xs ≡ xs
unfolding placed
placed_all d xs same = ap (λ r. xs ++ r) (drop_all (0 + length xs) d (omega arith)) ∙ append-nil xs

pub placed_none : {X : Type 0} (d : List X) (at : ℕ) → placed d at [] ≡ d
unfolding placed
placed_none d at = ap (λ k. take at d ++ drop k d) (omega arith) ∙ take-append-drop at d

-- one part right after another
pub placed_more : {X : Type 0} (d : List X) (at to : ℕ) (xs ys : List X) → at + length xs ≡ to → to + length ys ≤ length d → placed (placed d at xs) to ys ≡ placed d at (xs ++ ys)
unfolding placed
placed_more d at to xs ys e room =
    let front : length (take at d ++ xs) ≡ to = length-append (take at d) xs ∙ omega (arith, length-take-le at d (omega arith)) in
    let whole : take at d ++ (xs ++ drop (at + length xs) d) ≡ (take at d ++ xs) ++ drop (at + length xs) d = sym (append_assoc (take at d) xs (drop (at + length xs) d)) in
    let left : take to (take at d ++ (xs ++ drop (at + length xs) d)) ≡ take at d ++ xs = ap (take to) whole ∙ take_at (take at d ++ xs) _ to front in
    let right : drop (to + length ys) (take at d ++ (xs ++ drop (at + length xs) d)) ≡ drop (at + length (xs ++ ys)) d =
    ap (drop (to + length ys)) whole
    ∙ sym (drop-drop (length ys) to ((take at d ++ xs) ++ drop (at + length xs) d))
    ∙ ap (drop (length ys)) (drop_at (take at d ++ xs) _ to front)
    ∙ drop-drop (length ys) (at + length xs) d
    ∙ ap (λ k. drop k d) (omega (arith, length-append xs ys)) in
    (λ i. left i ++ (ys ++ right i)) ∙ append_assoc (take at d) xs (ys ++ drop (at + length (xs ++ ys)) d) ∙ ap (λ r. take at d ++ r) (sym (append_assoc xs ys (drop (at + length (xs ++ ys)) d)))

-- one element right after a part
pub set_placed : {X : Type 0} (d : List X) (i : ℕ) (y : X) → i < length d → set d i y ≡ placed d i (y ∷ [])
unfolding placed
set_placed d i y lt = let e : suc i ≡ i + 1 = omega arith in set_split d i y lt ∙ ap (λ k. take i d ++ y ∷ drop k d) e

pub placed_set : {X : Type 0} (d : List X) (at to : ℕ) (xs : List X) (y : X) → at + length xs ≡ to → to < length d → set (placed d at xs) to y ≡ placed d at (xs ++ y ∷ [])
placed_set d at to xs y e room = set_placed (placed d at xs) to y (omega (arith, length_placed d at xs (omega arith))) ∙ placed_more d at to xs (y ∷ []) e (omega arith)

-- a write to a part of memory as the checker has it
pub putMid_placed : {X : Type 0} (a k : ℕ) (xs ys : List X) → length ys ≡ k → put_mid a k xs ys ≡ placed xs a ys
unfolding placed
putMid_placed a k xs ys e = ap (λ r. take a xs ++ (ys ++ r)) (drop-drop k a xs ∙ ap (λ j. drop (a + j) xs) (sym e))
