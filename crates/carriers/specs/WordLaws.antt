-- What holds of places of words. Assumes nothing.
use Rattle.std.specs.Prelude.{◌≡◌, ℕ, ◌+◌, ◌*◌, ◌<◌, ◌≤◌, List, get_or, take, drop, replicate}
use Rattle.std.proofs.Common.{sym, ap, ◌∙◌, inl, inr, arith}
use Rattle.std.proofs.lemmas.Bool.{cases_lt}
use Rattle.std.proofs.lemmas.List.{drop-drop, drop-take, get_or-drop, get_or-replicate, get_or-take, get_or_past, length-replicate}
use Rattle.step.specs.Records.{hand_length}
use Rattle.carriers.specs.Memory.{part}
use Rattle.carriers.specs.WordPlaces.{word_copied, word_copy, word_flag, word_place}
use Rattle.carriers.specs.declared.shape.Shape.{Shape}

pub zero_everywhere : (n i : ℕ) → get_or (replicate {A = ℕ} n 0) i 0 ≡ 0
zero_everywhere n i = elim (cases_lt i n) [
  | inl lt ↦ get_or-replicate n i 0 0 lt
  | inr le ↦ get_or_past (replicate n 0) i 0 (omega (arith, length-replicate {A = ℕ} n 0))
]

pub word_some : 0 < word_place 0 0
word_some = omega arith

pub word_least : (n m : ℕ) → word_place 0 0 ≤ word_place n m
word_least n m = omega arith

pub word_zeros : (s : Shape) (memory : List ℕ) (size k : ℕ) → memory ≡ replicate size 0 → word_flag s memory k ≡ 0
unfolding word_flag
word_zeros s memory size k e = ap (λ m. get_or m (k * word_place s.switches s.nodes) 0) e ∙ zero_everywhere size (k * word_place s.switches s.nodes)

pub word_flag_there : (s : Shape) (memory : List ℕ) (k : ℕ) → word_flag s memory k ≡ get_or (part (word_place s.switches s.nodes) memory k) 0 0
unfolding word_flag
word_flag_there s memory k =
    let w = word_place s.switches s.nodes in
    let none : k * w ≡ k * w + 0 = omega arith in
    ap (λ j. get_or memory j 0) none ∙ sym (get_or-take w (drop (k * w) memory) 0 0 (omega arith) ∙ get_or-drop (k * w) memory 0 0)

pub word_copy_there : (s : Shape) (memory : List ℕ) (k : ℕ) → word_copy s memory k ≡ word_copied s.switches s.nodes (part (word_place s.switches s.nodes) memory k)
unfolding word_copy
word_copy_there s memory k =
    let size = hand_length s.switches s.nodes in
    let at = k * word_place s.switches s.nodes in
    sym (drop-take 1 size (drop at memory) ∙ ap (take size) (drop-drop 1 at memory))
