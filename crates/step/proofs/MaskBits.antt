-- The broken mask, bit by bit. Assumes nothing.
use Rattle.std.proofs.Common.{◌≡◌, ℕ, zero, suc, ◌+◌, ◌*◌, ◌/◌, ◌%◌, Bool, true, false, cond, ◌&&◌, eqb, ltb, List, [], ◌∷◌, length, get_or, sym, refl, ap, ◌∙◌, arith}
use lib.Dec.{leb-zero, leb-suc-zero, leb-suc-suc}
use Rattle.readings.specs.Ports.{has}
use Rattle.table.specs.declared.node.Rule.{Rule}
use Rattle.step.specs.Steps.{hit, mask}

-- the lowest bit, and the others
lowest : (b : Bool) (n : ℕ) → eqb ((cond b 1 0 + 2 * n) % 2) 1 ≡ b
lowest true n = let e : (1 + 2 * n) % 2 ≡ 1 = omega arith in ap (λ (x : ℕ). eqb x 1) e
lowest false n = let e : (0 + 2 * n) % 2 ≡ 0 = omega arith in ap (λ (x : ℕ). eqb x 1) e

others : (b : Bool) (n : ℕ) → (cond b 1 0 + 2 * n) / 2 ≡ n
others true n = omega arith
others false n = omega arith

has_none : (r : ℕ) → has 0 r ≡ false
unfolding has
has_none zero = refl
has_none (suc r) = has_none r

-- bit r is set where there is a rule r, and it is broken
pub mask_has : (s : ℕ) (words : List ℕ) (rs : List Rule) (d : Rule) (r : ℕ) → has (mask s words rs) r ≡ (ltb r (length rs) && hit s words (get_or rs r d))
unfolding mask has
mask_has s words [] d zero = refl
mask_has s words [] d (suc r) = has_none r ∙ sym (ap (λ q. q && hit s words d) (leb-suc-zero (suc r)))
mask_has s words (x ∷ rs) d zero =
    lowest (hit s words x) (mask s words rs)
    ∙ sym (ap (λ q. q && hit s words x) (leb-suc-suc 0 (length rs) ∙ leb-zero (length rs)))
mask_has s words (x ∷ rs) d (suc r) =
    ap (λ (w : ℕ). has w r) (others (hit s words x) (mask s words rs))
    ∙ mask_has s words rs d r
    ∙ sym (ap (λ q. q && hit s words (get_or rs r d)) (leb-suc-suc (suc r) (length rs)))
