-- Lists of places: how often a place stands in one. Assumes nothing.
use Rattle.std.proofs.Common.{◌≡◌, ℕ, suc, ◌+◌, ◌≤◌, eqb, ◌≢◌, List, [], ◌∷◌, ◌++◌, sym, refl, ap, ◌∙◌, inl, inr, arith}
use Rattle.std.proofs.lemmas.Bool.{cases_eq, cond-false, cond-true, eq-eqb, ne_eqb}
use Rattle.std.proofs.lemmas.List.{append_assoc}
use Rattle.history.specs.Orders.{StandsBefore, times}

pub times_same : (i : ℕ) (xs : List ℕ) → times i (i ∷ xs) ≡ suc (times i xs)
unfolding times
times_same i xs = omega (arith, cond-true {A = ℕ} (eqb i i) 1 0 (eq-eqb i i refl))

pub times_other : (i x : ℕ) (xs : List ℕ) → x ≢ i → times i (x ∷ xs) ≡ times i xs
unfolding times
times_other i x xs differ = omega (arith, cond-false {A = ℕ} (eqb x i) 1 0 (ne_eqb x i differ))

pub times_none : (i : ℕ) → times i [] ≡ 0
unfolding times
times_none i = refl

pub times_append : (i : ℕ) (xs ys : List ℕ) → times i (xs ++ ys) ≡ times i xs + times i ys
unfolding times
times_append i [] ys = omega arith
times_append i (x ∷ xs) ys = omega (arith, times_append i xs ys)

pub times_push : (i : ℕ) (xs : List ℕ) → times i (xs ++ i ∷ []) ≡ suc (times i xs)
times_push i xs = omega (arith, times_append i xs (i ∷ []), times_same i [], times_none i)

pub times_push_other : (i x : ℕ) (xs : List ℕ) → x ≢ i → times i (xs ++ x ∷ []) ≡ times i xs
times_push_other i x xs differ = omega (arith, times_append i xs (x ∷ []), times_other i x [] differ, times_none i)

-- what stands in a list stands between two parts of it
pub record Split (i : ℕ) (xs : List ℕ) : Type 0 where
  pub front : List ℕ
  pub rest : List ℕ
  pub is : xs ≡ front ++ (i ∷ rest)

pub split : (i : ℕ) (xs : List ℕ) → 1 ≤ times i xs → Split i xs
split i [] some = let z : ⊥ = omega (arith, times_none i) in absurd z
split i (x ∷ xs) some = elim (cases_eq x i) [
  | inl same ↦ record { front = []; rest = xs; is = ap (λ z. z ∷ xs) same }
  | inr differ ↦ more (split i xs (omega (arith, times_other i x xs differ)))
]
  where
    more : Split i xs → Split i (x ∷ xs)
    more p = record { front = x ∷ p.front; rest = p.rest; is = ap (λ z. x ∷ z) p.is }

-- wherever j stands in a list, i stands before it
abbrev pub AlwaysAfter : ℕ → ℕ → List ℕ → Type 0
AlwaysAfter i j order = (front rest : List ℕ) → order ≡ front ++ (j ∷ rest) → 1 ≤ times i front

-- A list of two parts, cut at a place

pub data Cut (a b front rest : List ℕ) (j : ℕ) : Type 0 where
  left : (r : List ℕ) → a ≡ front ++ (j ∷ r) → Cut a b front rest j
  right : (m : List ℕ) → front ≡ a ++ m → b ≡ m ++ (j ∷ rest) → Cut a b front rest j

cons_parts : (x y : ℕ) (xs ys : List ℕ) → x ∷ xs ≡ y ∷ ys → (x ≡ y) × (xs ≡ ys)
cons_parts x y xs ys e = (cc e, cc e)

pub cut : (a b front rest : List ℕ) (j : ℕ) → a ++ b ≡ front ++ (j ∷ rest) → Cut a b front rest j
cut [] b front rest j is = right front refl is
cut (x ∷ a) b [] rest j is =
    let p = cons_parts x j (a ++ b) rest is in
    left a (ap (λ z. z ∷ a) p.0)
cut (x ∷ a) b (y ∷ front) rest j is =
    let p = cons_parts x y (a ++ b) (front ++ (j ∷ rest)) is in
    more p.0 (cut a b front rest j p.1)
  where
    more : x ≡ y → Cut a b front rest j → Cut (x ∷ a) b (y ∷ front) rest j
    more e (left r q) = left r (λ i. e i ∷ q i)
    more e (right m q b-is) = right m (λ i. sym e i ∷ q i) b-is

-- where i stands in a list and j after it, and j stands there once, i stands before j wherever j stands
pub always_after : (i j : ℕ) (order : List ℕ) → times j order ≤ 1 → StandsBefore i j order → AlwaysAfter i j order
always_after i j order few stands front rest is = way (cut a b front rest j (sym whole ∙ is))
  where
    p : List ℕ
    p = stands.0

    q : List ℕ
    q = stands.1

    a : List ℕ
    a = p ++ (i ∷ q)

    b : List ℕ
    b = j ∷ stands.2

    whole : order ≡ a ++ b
    whole = stands.3 ∙ sym (append_assoc p (i ∷ q) b)

    way : Cut a b front rest j → 1 ≤ times i front
    way (left r e) =
        let z : ⊥ = omega (arith, few, ap (times j) whole, times_append j a b, times_same j stands.2, ap (times j) e, times_append j front (j ∷ r), times_same j r) in
        absurd z
    way (right m e b_is) = omega (arith, ap (times i) e, times_append i a m, times_append i p (i ∷ q), times_same i q)

-- and the other way round, where j stands in the list
pub stands_from : (i j : ℕ) (order : List ℕ) → times j order ≡ 1 → AlwaysAfter i j order → StandsBefore i j order
stands_from i j order once after =
    let at = split j order (omega (arith, once)) in
    let early = split i at.front (after at.front at.rest at.is) in
    (early.front, early.rest, at.rest, at.is ∙ ap (λ z. z ++ (j ∷ at.rest)) early.is ∙ append_assoc early.front (i ∷ early.rest) (j ∷ at.rest))
