-- Parts read one after another. Assumes nothing.
use Rattle.std.proofs.Common.{◌≡◌, ℕ, zero, suc, ◌+◌, ◌<◌, ◌≤◌, Ok, Err, Result, sym, refl, ap, ◌∙◌, inl, inr, arith}
use Rattle.std.proofs.lemmas.Bool.{cases_eq}
use Rattle.table.proofs.Words.{and_then_parts}
use Rattle.table.specs.Wire.{and_then}
use Rattle.table.specs.declared.fault.Fault.{Fault}
use Rattle.carriers.specs.Copies.{each_read}

module _ {X : Type 0} (part : ℕ → Result X Fault) where
  pub each_none : each_read part 0 ≡ Ok tt
  unfolding each_read
  each_none = refl

  pub each_more : (i : ℕ) (x : X) → each_read part i ≡ Ok tt → part i ≡ Ok x → each_read part (i + 1) ≡ Ok tt
  unfolding each_read
  each_more i x before here =
      let next : i + 1 ≡ suc i = omega arith in
      ap (each_read part) next ∙ ap (λ r. and_then r (λ _. and_then (part i) (λ _. Ok tt))) before ∙ ap (λ r. and_then {B = Unit {0}} r (λ _. Ok tt)) here

  pub each_stop : (i n : ℕ) (e : Fault) → i < n → each_read part i ≡ Ok tt → part i ≡ Err e → each_read part n ≡ Err e
  unfolding each_read
  each_stop i zero e lt before here = let z : ⊥ = omega arith in elim z [ ]
  each_stop i (suc n) e lt before here = elim (cases_eq i n) [
    | inl s ↦
        ap (λ r. and_then r (λ _. and_then (part n) (λ _. Ok tt))) (ap (each_read part) (sym s) ∙ before)
        ∙ ap (λ r. and_then {B = Unit {0}} r (λ _. Ok tt)) (ap part (sym s) ∙ here)
    | inr s ↦ ap (λ r. and_then r (λ _. and_then (part n) (λ _. Ok tt))) (each_stop i n e (omega arith) before here)
  ]

  pub each_end : (i n : ℕ) → n ≤ i → i ≤ n → each_read part i ≡ Ok tt → Ok tt ≡ each_read part n
  each_end i n all most before = let end : i ≡ n = omega arith in sym before ∙ ap (each_read part) end

  -- all parts were read
  pub each_parts : (n j : ℕ) → each_read part n ≡ Ok tt → j < n → (x : X) × (part j ≡ Ok x)
  unfolding each_read
  each_parts zero j all lt = let z : ⊥ = omega arith in elim z [ ]
  each_parts (suc n) j all lt =
      let p = and_then_parts (each_read part n) _ tt all in
      let q = and_then_parts (part n) _ tt p.2 in
      elim (cases_eq j n) [
        | inl s ↦ (q.0, ap part s ∙ q.1)
        | inr s ↦ each_parts n j p.1 (omega arith)
      ]

  pub each_from : (f : ℕ → X) (n : ℕ) → ((j : ℕ) → j < n → part j ≡ Ok (f j)) → each_read part n ≡ Ok tt
  unfolding each_read
  each_from f zero all = refl
  each_from f (suc n) all =
      ap (λ r. and_then r (λ _. and_then (part n) (λ _. Ok tt))) (each_from f n (λ j lt. all j (omega arith)))
      ∙ ap (λ r. and_then {B = Unit {0}} r (λ _. Ok tt)) (all n (omega arith))
