-- What a pool in new memory holds. Assumes nothing.
use Rattle.std.proofs.Common.{◌≡◌, ℕ, zero, suc, List, [], sym, refl, ap, ◌∙◌, arith}
use Rattle.std.proofs.lemmas.Bool.{cond-true, eq-eqb}
use Rattle.carriers.specs.Places.{Distinct, Numbered, held_below, pool_meaning}
use Rattle.carriers.specs.Pools.{opened}

pub held_none : (flag : ℕ → ℕ) (copy : ℕ → List ℕ) (k : ℕ) → ((j : ℕ) → flag j ≡ 0) → held_below flag copy k ≡ []
unfolding held_below
held_none flag copy zero all = refl
held_none flag copy (suc k) all = cond-true _ _ _ (eq-eqb (flag k) 0 (all k)) ∙ held_none flag copy k all

pub opened_meaning : (code n m c : ℕ) (flag : ℕ → ℕ) (copy : ℕ → List ℕ) (capacity : ℕ) → c ≡ capacity → ((j : ℕ) → flag j ≡ 0) → pool_meaning code n m c 0 flag copy ≡ opened code n m capacity
opened_meaning code n m c flag copy capacity e all = (λ i. record {
  code = code;
  switches = n;
  nodes = m;
  capacity = e i;
  next = 0;
  held = held_none flag copy c all i;
})

-- with no places, whatever the memory holds
pub closed_meaning : (code n m c : ℕ) (flag : ℕ → ℕ) (copy : ℕ → List ℕ) (capacity : ℕ) → c ≡ 0 → capacity ≡ 0 → pool_meaning code n m c 0 flag copy ≡ opened code n m capacity
unfolding held_below
closed_meaning code n m c flag copy capacity e f = (λ i. record {
  code = code;
  switches = n;
  nodes = m;
  capacity = (e ∙ sym f) i;
  next = 0;
  held = ap (held_below flag copy) e i;
})

pub numbered_zero : (flag : ℕ → ℕ) (c : ℕ) → ((j : ℕ) → flag j ≡ 0) → Numbered flag c 0
numbered_zero flag c all k lt = omega (arith, all k)

pub distinct_zero : (flag : ℕ → ℕ) (c : ℕ) → ((j : ℕ) → flag j ≡ 0) → Distinct flag c
distinct_zero flag c all i j h = all i
