-- A block in the middle of a memory. Assumes nothing.
use Rattle.std.proofs.Common.{◌≡◌, ℕ, ◌+◌, ◌-◌, ◌*◌, ◌<◌, ◌≤◌, true, false, eqb, List, [], ◌∷◌, ◌++◌, length, get_or, take, drop, set, None, sym, ap, ◌∙◌, add_assoc, arith}
use borrow.Rule.Slice.PartMut.{put_mid}
use lib.Seq.{paste}
use Rattle.std.proofs.lemmas.List.{append-nil, drop_all, get_or-drop, get_or-take, take-take}
use Rattle.std.proofs.lemmas.Slice.{put_mid-paste}
use Rattle.std.proofs.lemmas.Bool.{eq-eqb, lt-ltb}
use Rattle.table.specs.Tables.{Table}
use Rattle.step.specs.Nodes.{WordKind}
use Rattle.step.specs.Records.{block_length, hand_length, records_length}
use Rattle.step.specs.Steps.{Act, Fitting, acted_block, advanced, block_of, hand_fits, max_count, own_count, register_fits, step_block, step_refusal}
use Rattle.step.proofs.Rows.{row_inside}
use Rattle.history.proofs.Rows.{row_length}
use Rattle.fleet.specs.Blocks.{Able, Inside, block_in, word_in}

-- a step can be made in a block of the table's shape
pub can_step : (t : Table) (s : ℕ) (a : Act) (block : List ℕ) → Fitting t s block
    → hand_fits (hand_length t.switches (length t.nodes)) a ≡ true → register_fits a ≡ true
    → eqb (own_count (length t.nodes) s block) max_count ≡ false → step_refusal t s a block ≡ None
can_step t s a block fits hand register count =
    let shape = eq-eqb (length block) (block_length t.switches (length t.nodes)) fits.shape in
    let there = lt-ltb s t.switches fits.there in
    simp (shape, hand, there, register, count)

-- the sender, and then a copy of as many words as the hand has left
pub copied : (hand ys : List ℕ) (s k e : ℕ) → length hand ≡ 1 + k → e ≡ k → put_mid 1 e (set hand 0 s) ys ≡ s ∷ ys
copied [] ys s k e long same = absurd (omega (arith, long))
copied (h ∷ hs) ys s k e long same =
    ap (λ z. s ∷ (ys ++ z)) (drop_all e hs (omega (arith, long, same))) ∙ ap (λ z. s ∷ z) (append-nil ys)

module _ (t : Table) (s : ℕ) (memory : List ℕ) (inside : Inside t s memory) where
  pub block_inside : s * block_length t.switches (length t.nodes) + block_length t.switches (length t.nodes) ≤ length memory
  block_inside = omega (arith, row_inside s (block_length t.switches (length t.nodes)) t.switches inside.there, inside.room)

  pub fitting : Fitting t s (block_in t memory s)
  fitting = record {
    there = inside.there;
    shape = row_length (block_length t.switches (length t.nodes)) t.switches memory (omega (arith, inside.room)) s inside.there;
  }

  module _ (at size : ℕ) (place : at ≡ s * block_length t.switches (length t.nodes)) (wide : size ≡ block_length t.switches (length t.nodes)) where
    -- the part of the memory that the code lends is the block
    pub part_there : take (at + size - at) (drop at memory) ≡ block_in t memory s
    part_there =
        let long : at + size - at ≡ size = omega arith in
        (λ i. take ((long ∙ wide) i) (drop (place i) memory))

    pub part_long : length (take (at + size - at) (drop at memory)) ≡ at + size - at
    part_long =
        let long : size ≡ at + size - at = omega arith in
        ap length part_there ∙ fitting.shape ∙ sym wide ∙ long

    module _ (a : Act) (able : Able t s a memory) where
      can_step_there : step_refusal t s a (take (at + size - at) (drop at memory)) ≡ None
      can_step_there =
          ap (step_refusal t s a) part_there
          ∙ can_step t s a (block_in t memory s) fitting able.hand able.register able.count

      pub stepped_there : (k : WordKind) (ys : List ℕ) → ys ≡ step_block k t s a (take (at + size - at) (drop at memory)) → ys ≡ advanced k t s (acted_block t s a (block_in t memory s))
      stepped_there k ys is =
          is
          ∙ ap (λ o. block_of o (take (at + size - at) (drop at memory)) (advanced k t s (acted_block t s a (take (at + size - at) (drop at memory))))) can_step_there
          ∙ ap (λ p. advanced k t s (acted_block t s a p)) part_there

    -- what is written there
    pub put_there : (ys zs : List ℕ) → ys ≡ zs → length ys ≡ at + size - at
        → put_mid at (at + size - at) memory ys ≡ paste memory (s * block_length t.switches (length t.nodes)) zs (block_length t.switches (length t.nodes))
    put_there ys zs same long =
        let wide' : size ≡ at + size - at = omega arith in
        put_mid-paste at (at + size - at) memory ys zs size same wide' (wide' ∙ sym long ∙ ap length same)
        ∙ (λ i. paste memory (place i) zs (wide i))

  -- a word of a record
  pub word_there : (j i : ℕ) → j < t.switches → i ≤ length t.nodes → word_in t memory s j i ≡ get_or memory (s * block_length t.switches (length t.nodes) + j * (length t.nodes + 1) + i) 0
  word_there j i there within =
      let m = length t.nodes in
      let size = block_length t.switches m in
      let front = row_inside j (m + 1) t.switches there in
      get_or-take (m + 1) (drop (j * (m + 1)) (block_in t memory s)) i 0 (omega arith)
      ∙ get_or-drop (j * (m + 1)) (block_in t memory s) i 0
      ∙ get_or-take size (drop (s * size) memory) (j * (m + 1) + i) 0 (omega (arith, front))
      ∙ get_or-drop (s * size) memory (j * (m + 1) + i) 0
      ∙ ap (λ z. get_or memory z 0) (sym (add_assoc (s * size) (j * (m + 1)) i))

  -- the front of the block, without its registers
  pub front_there : (at k : ℕ) → at ≡ s * block_length t.switches (length t.nodes) → k ≡ records_length t.switches (length t.nodes) → take (at + k - at) (drop at memory) ≡ take (records_length t.switches (length t.nodes)) (block_in t memory s)
  front_there at k place wide =
      let long : at + k - at ≡ k = omega arith in
      (λ i. take ((long ∙ wide) i) (drop (place i) memory))
      ∙ sym (take-take (records_length t.switches (length t.nodes)) (block_length t.switches (length t.nodes)) (drop (s * block_length t.switches (length t.nodes)) memory) (omega arith))
