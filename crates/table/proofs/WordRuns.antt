-- Words that lie one after another. Assumes nothing.
use Rattle.std.proofs.Common.{◌≡◌, ℕ, zero, suc, ◌+◌, ◌-◌, ◌*◌, ◌<◌, Bool, true, false, cond, leb, List, [], ◌∷◌, ◌++◌, length, Ok, Err, Result, sym, ap, ◌∙◌, arith}
use Rattle.table.specs.Tables.{words_at, words_from}
use Rattle.table.specs.Wire.{word_at, field, refuse}
use Rattle.table.specs.declared.fault.Fault.{Fault}
use Rattle.table.specs.declared.fault.Reason.{Reason}
use Rattle.table.specs.declared.fault.Reason.TheVariants.{TableLength}
use Rattle.table.proofs.ArrayLoops.{items_more, items_stop}

-- a field that was read is the word at its offset
pub field_word : (why : Reason) (bs : List ℕ) (at w : ℕ) → field why bs at ≡ Ok w → w ≡ word_at bs at
unfolding field
field_word why bs at w e = told (leb (at + 4) (length bs)) e
  where
    told : (b : Bool) → cond b (Ok (word_at bs at)) (refuse {A = ℕ} why at) ≡ Ok w → w ≡ word_at bs at
    told true e = cc
    told false e = cc

-- one word more
pub words_more : (bs : List ℕ) (at i : ℕ) → words_at bs at (i + 1) ≡ words_at bs at i ++ word_at bs (at + i * 4) ∷ []
unfolding words_at
words_more bs at zero = ap (λ k. word_at bs k ∷ []) (omega arith)
words_more bs at (suc i) =
    let count : suc i + 1 ≡ suc (i + 1) = omega arith in
    let place : at + 4 + i * 4 ≡ at + suc i * 4 = omega arith in
    ap (words_at bs at) count ∙ ap (λ ws. word_at bs at ∷ ws) (words_more bs (at + 4) i ∙ ap (λ k. words_at bs (at + 4) i ++ word_at bs k ∷ []) place)

module _ (bs : List ℕ) (start at i count : ℕ) (all : Result (List ℕ) Fault) (more : i < count) (place : at ≡ start + i * 4) (sofar : words_from bs at (count - i) (words_at bs start i) ≡ all) where
  -- a word that was read
  pub words_turn : (w : ℕ) → field TableLength bs at ≡ Ok w → words_from bs (at + 4) (count - (i + 1)) (words_at bs start (i + 1)) ≡ all
  words_turn w reads =
      let word : w ≡ word_at bs (start + i * 4) = field_word TableLength bs at w reads ∙ ap (word_at bs) place in
      let longer : words_at bs start (i + 1) ≡ words_at bs start i ++ w ∷ [] = words_more bs start i ∙ ap (λ x. words_at bs start i ++ x ∷ []) (sym word) in
      ap (words_from bs (at + 4) (count - (i + 1))) longer ∙ sym (items_more _ 4 at i count (words_at bs start i) w more reads) ∙ sofar

  -- a word that is missing
  pub words_stop : (e : Fault) → field TableLength bs at ≡ Err e → Err e ≡ all
  words_stop e reads = sym (items_stop _ 4 at i count (words_at bs start i) e more reads) ∙ sofar
