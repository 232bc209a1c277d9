-- What holds of places of bytes. Assumes nothing.
use Rattle.std.specs.Prelude.{◌≡◌, ℕ, ◌+◌, ◌*◌, ◌<◌, ◌≤◌, List, get_or, take, drop, replicate}
use Rattle.std.proofs.Common.{sym, ap, ◌∙◌, arith}
use Rattle.std.proofs.lemmas.List.{drop-drop, drop-take, get_or-drop, get_or-take}
use Rattle.table.specs.Wire.{word_at}
use Rattle.carriers.specs.Copies.{copy_length, hand_in}
use Rattle.carriers.specs.FramePlaces.{frame_copied, frame_copy, frame_flag, frame_place}
use Rattle.carriers.specs.Memory.{part}
use Rattle.carriers.specs.WordLaws.{zero_everywhere}
use Rattle.carriers.specs.declared.shape.Shape.{Shape}

pub frame_some : 0 < frame_place 0 0
frame_some = omega arith

pub frame_least : (n m : ℕ) → frame_place 0 0 ≤ frame_place n m
frame_least n m = omega arith

pub frame_zeros : (s : Shape) (memory : List ℕ) (size k : ℕ) → memory ≡ replicate size 0 → frame_flag s memory k ≡ 0
unfolding frame_flag word_at
frame_zeros s memory size k e =
    let at = k * frame_place s.switches s.nodes in
    let all : (i : ℕ) → get_or memory i 0 ≡ 0 = λ i. ap (λ m. get_or m i 0) e ∙ zero_everywhere size i in
    (λ i. all at i * 16777216 + all (at + 1) i * 65536 + all (at + 2) i * 256 + all (at + 3) i)

pub frame_flag_there : (s : Shape) (memory : List ℕ) (k : ℕ) → frame_flag s memory k ≡ word_at (part (frame_place s.switches s.nodes) memory k) 0
unfolding frame_flag word_at
frame_flag_there s memory k =
    let w = frame_place s.switches s.nodes in
    let same : (j : ℕ) → j < w → get_or memory (k * w + j) 0 ≡ get_or (part w memory k) j 0 = λ j lt. sym (get_or-take w (drop (k * w) memory) j 0 lt ∙ get_or-drop (k * w) memory j 0) in
    let none : k * w ≡ k * w + 0 = omega arith in
    let a = ap (λ j. get_or memory j 0) none ∙ same 0 (omega arith) in
    let b = same 1 (omega arith) in
    let c = same 2 (omega arith) in
    let d = same 3 (omega arith) in
    (λ i. a i * 16777216 + b i * 65536 + c i * 256 + d i)

pub frame_copy_there : (s : Shape) (memory : List ℕ) (k : ℕ) → frame_copy s memory k ≡ frame_copied s.switches s.nodes (part (frame_place s.switches s.nodes) memory k)
unfolding frame_copy
frame_copy_there s memory k =
    let size = copy_length s.switches s.nodes in
    let at = k * frame_place s.switches s.nodes in
    ap (hand_in s.switches s.nodes) (sym (drop-take 4 size (drop at memory) ∙ ap (take size) (drop-drop 4 at memory)))
