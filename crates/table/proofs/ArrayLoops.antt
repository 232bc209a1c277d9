-- Reading the elements of an array one after another. Assumes nothing.
use Rattle.std.proofs.Common.{◌≡◌, ℕ, suc, ◌+◌, ◌-◌, ◌<◌, ◌≤◌, List, [], ◌∷◌, ◌++◌, Ok, Err, Result, sym, ap, ◌∙◌, arith}
use Rattle.table.specs.Tables.{items_from}
use Rattle.table.specs.Wire.{and_then}
use Rattle.table.specs.declared.fault.Fault.{Fault}

module _ {X : Type 0} (read : ℕ → List X → Result X Fault) (size : ℕ) where
  -- one element more
  pub items_more : (at i count : ℕ) (earlier : List X) (x : X) → i < count → read at earlier ≡ Ok x → items_from read size at (count - i) earlier ≡ items_from read size (at + size) (count - (i + 1)) (earlier ++ x ∷ [])
  unfolding items_from
  items_more at i count earlier x lt reads =
      let left : count - i ≡ suc (count - (i + 1)) = omega arith in
      ap (λ k. items_from read size at k earlier) left ∙ ap (λ r. and_then r (λ y. items_from read size (at + size) (count - (i + 1)) (earlier ++ y ∷ []))) reads

  -- an element that is refused
  pub items_stop : (at i count : ℕ) (earlier : List X) (e : Fault) → i < count → read at earlier ≡ Err e → items_from read size at (count - i) earlier ≡ Err e
  unfolding items_from
  items_stop at i count earlier e lt reads =
      let left : count - i ≡ suc (count - (i + 1)) = omega arith in
      ap (λ k. items_from read size at k earlier) left ∙ ap (λ r. and_then r (λ y. items_from read size (at + size) (count - (i + 1)) (earlier ++ y ∷ []))) reads

  -- no element is left
  pub items_done : (at i count : ℕ) (earlier : List X) → count ≤ i → items_from read size at (count - i) earlier ≡ Ok earlier
  unfolding items_from
  items_done at i count earlier none =
      let left : count - i ≡ 0 = omega arith in
      ap (λ k. items_from read size at k earlier) left

  -- the element is pushed
  pub pushed_more : (at at' i count : ℕ) (earlier later : List X) (x : X) (all : Result (List X) Fault) → i < count → read at earlier ≡ Ok x → at' ≡ at + size → later ≡ earlier ++ x ∷ [] → items_from read size at (count - i) earlier ≡ all → items_from read size at' (count - (i + 1)) later ≡ all
  pushed_more at at' i count earlier later x all lt reads moved pushed sofar =
      rw (moved, pushed) (sym (items_more at i count earlier x lt reads) ∙ sofar)

-- what a call read of the bytes b, which are bs, and of y, which is x
pub read_there : {A X : Type 0} (read : List ℕ → ℕ → A → Result X Fault) (b bs : List ℕ) (at : ℕ) (x y : A) (r z : Result X Fault) → b ≡ bs → y ≡ x → r ≡ read b at y → r ≡ z → read bs at x ≡ z
read_there read b bs at x y r z same item said was =
    ap (λ c. read c at x) (sym same) ∙ ap (read b at) (sym item) ∙ sym said ∙ was
