-- The broken mask. Assumes nothing.
use Rattle.std.proofs.Common.{◌≡◌, ℕ, ◌+◌, ◌*◌, ◌^◌, ◌<◌, ◌≤◌, Bool, true, false, cond, List, [], ◌∷◌, ◌++◌, length, drop, sym, refl, ap, ◌∙◌, pow-suc, arith, length-drop, pow_mono, ltb-true}
use Rattle.std.proofs.lemmas.Bool.{and_parts}
use mir.Val.{bool_byte}
use Rattle.std.proofs.lemmas.List.{append_assoc, append-nil, drop_all, drop_at, length_push}
use Rattle.table.specs.declared.node.Rule.{Rule}
use Rattle.step.specs.Names.{rules_below}
use Rattle.step.specs.Steps.{hit, mask}

pub bit_small : (b : Bool) → cond b 1 0 ≤ 1
bit_small true = omega arith
bit_small false = omega arith

pub byte_bit : (b : Bool) → bool_byte b ≡ cond b 1 0
byte_bit true = refl
byte_bit false = refl

-- one bit for each rule
pub mask_lt : (s : ℕ) (words : List ℕ) (rs : List Rule) → mask s words rs < 2 ^ length rs
unfolding mask
mask_lt s words [] = omega arith
mask_lt s words (r ∷ rs) = omega (arith, mask_lt s words rs, bit_small (hit s words r), pow-suc 2 (length rs))

-- From the last rule to the first: rest are the rules that are left, and the mask is that of those after them

pub record Done (s : ℕ) (words : List ℕ) (all rest : List Rule) (m : ℕ) : Type 0 where
  pub split : all ≡ rest ++ drop (length rest) all
  pub value : m ≡ mask s words (drop (length rest) all)

pub done_none : (s : ℕ) (words : List ℕ) (all rest : List Rule) → rest ≡ all → Done s words all rest 0
unfolding mask
done_none s words all rest same =
    let end : drop (length rest) all ≡ [] = drop_all (length rest) all (omega (arith, ap length same)) in
    record {
      split = sym (ap (λ ys. rest ++ ys) end ∙ append-nil rest ∙ same);
      value = sym (ap (mask s words) end);
    }

-- what is left is one rule less
front : (all rest left : List Rule) (r : Rule) → rest ≡ left ++ r ∷ [] → all ≡ rest ++ drop (length rest) all → all ≡ left ++ r ∷ drop (length rest) all
front all rest left r last split = split ∙ ap (λ ys. ys ++ drop (length rest) all) last ∙ append_assoc left (r ∷ []) (drop (length rest) all)

more : (all rest left : List Rule) (r : Rule) → rest ≡ left ++ r ∷ [] → all ≡ rest ++ drop (length rest) all → drop (length left) all ≡ r ∷ drop (length rest) all
more all rest left r last split =
    ap (drop (length left)) (front all rest left r last split) ∙ drop_at left (r ∷ drop (length rest) all) (length left) refl

pub done_more : (s : ℕ) (words : List ℕ) (all rest left : List Rule) (r : Rule) (m bit : ℕ) (b : Bool) → Done s words all rest m → rest ≡ left ++ r ∷ [] → bit ≡ bool_byte b → b ≡ hit s words r → Done s words all left (2 * m + bit)
unfolding mask
done_more s words all rest left r m bit b done last one is =
    let next = more all rest left r last done.split in
    record {
      split = front all rest left r last done.split ∙ ap (λ ys. left ++ ys) (sym next);
      value = omega (arith, done.value, one ∙ ap bool_byte is ∙ byte_bit (hit s words r), ap (mask s words) next);
    }

pub done_all : (s : ℕ) (words : List ℕ) (all rest : List Rule) (m : ℕ) → Done s words all rest m → length rest ≡ 0 → m ≡ mask s words all
done_all s words all rest m done end = done.value ∙ ap (λ k. mask s words (drop k all)) end

within : (n : ℕ) (xs : List Rule) (x : Rule) (ys : List Rule) → rules_below n (xs ++ x ∷ ys) ≡ true → x.node < n
unfolding rules_below
within n [] x ys h = ltb-true _ _ (and_parts _ _ h).0
within n (z ∷ xs) x ys h = within n xs x ys (and_parts _ _ h).1

pub done_below : (s : ℕ) (words : List ℕ) (all rest left : List Rule) (r : Rule) (m : ℕ) → Done s words all rest m → rest ≡ left ++ r ∷ [] → rules_below (length words) all ≡ true → r.node < length words
done_below s words all rest left r m done last below =
    within (length words) left r (drop (length rest) all) (ap (rules_below (length words)) (sym (front all rest left r last done.split)) ∙ below)

-- the mask of the rules after the first is small
pub done_small : (s : ℕ) (words : List ℕ) (all rest left : List Rule) (r : Rule) (m : ℕ) → Done s words all rest m → rest ≡ left ++ r ∷ [] → length all ≤ 16 → m < 2 ^ 15
done_small s words all rest left r m done last few =
    let some : length rest ≡ length left + 1 = ap length last ∙ length_push left r in
    let short : length (drop (length rest) all) ≤ 15 = omega (arith, length-drop (length rest) all) in
    small m (length (drop (length rest) all)) short (omega (arith, done.value, mask_lt s words (drop (length rest) all)))
  where
    small : (x k : ℕ) → k ≤ 15 → x < 2 ^ k → x < 2 ^ 15
    small x k le lt = omega (arith, lt, pow_mono {i = k} {j = 15} le)
