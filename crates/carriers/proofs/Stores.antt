-- What a write over one place does to all of them, for places of any make. Assumes nothing.
use Rattle.std.proofs.Common.{◌≡◌, ℕ, ◌+◌, ◌-◌, ◌*◌, ◌<◌, ◌≤◌, List, length, ap, ◌∙◌, sym, arith}
use borrow.Rule.Slice.PartMut.{put_mid}
use Rattle.carriers.specs.Memory.{part, placed}
use Rattle.carriers.specs.Stores.{Others, Released, Stored}
use Rattle.carriers.specs.declared.shape.Shape.{Shape}
use Rattle.carriers.proofs.Placing.{length_placed, putMid_placed}
use Rattle.carriers.proofs.Regions.{part_kept, part_written}
use Rattle.carriers.proofs.Rows.{row_room}

module _ {X : Type 0} (width : ℕ → ℕ → ℕ) (flag : List X → ℕ) (copy : ℕ → ℕ → List X → List ℕ) (flags : Shape → List X → ℕ → ℕ) (copies : Shape → List X → ℕ → List ℕ)
    (flag_there : (s : Shape) (memory : List X) (k : ℕ) → flags s memory k ≡ flag (part (width s.switches s.nodes) memory k))
    (copy_there : (s : Shape) (memory : List X) (k : ℕ) → copies s memory k ≡ copy s.switches s.nodes (part (width s.switches s.nodes) memory k))
    (s : Shape) (x y place : List X) (p : ℕ) (within : p < s.capacity) (room : s.capacity * width s.switches s.nodes ≤ length x)
    (wide : length place ≡ width s.switches s.nodes) (is : y ≡ placed x (p * width s.switches s.nodes) place) where
  here : part (width s.switches s.nodes) y p ≡ place
  here = ap (λ m. part (width s.switches s.nodes) m p) is ∙ part_written x place s.capacity p (width s.switches s.nodes) wide room within

  flag_here : flags s y p ≡ flag place
  flag_here = flag_there s y p ∙ ap flag here

  others : Others (flags s x) (flags s y) (copies s x) (copies s y) s.capacity p
  others k lt ne =
      let w = width s.switches s.nodes in
      let same : part w y k ≡ part w x k = ap (λ m. part w m k) is ∙ part_kept x place s.capacity p w wide room within k ne in (
        flag_there s y k ∙ ap flag same ∙ sym (flag_there s x k),
        copy_there s y k ∙ ap (copy s.switches s.nodes) same ∙ sym (copy_there s x k),
      )

  pub place_fits : s.capacity * width s.switches s.nodes ≤ length y
  place_fits =
      let w = width s.switches s.nodes in
      let r : p * w + w ≤ s.capacity * w = row_room p s.capacity w within in
      omega (arith, room, ap length is ∙ length_placed x (p * w) place (omega (arith, room, wide)))

  pub place_stored : (f : ℕ) (hand : List ℕ) → flag place ≡ f → copy s.switches s.nodes place ≡ hand → Stored (flags s x) (flags s y) (copies s x) (copies s y) s.capacity p f hand
  place_stored f hand flagged copied = record {
    flagged = flag_here ∙ flagged;
    copied = copy_there s y p ∙ ap (copy s.switches s.nodes) here ∙ copied;
    others = others;
  }

  pub place_released : flag place ≡ 0 → Released (flags s x) (flags s y) (copies s x) (copies s y) s.capacity p
  place_released freed = record { freed = flag_here ∙ freed; others = others }

-- a part that was handed out to be written, as the checker has it
pub written_over : {X : Type 0} (x place : List X) (at from k w : ℕ) → at ≡ from → k ≡ w → length place ≡ w → put_mid at (at + k - at) x place ≡ placed x from place
written_over x place at from k w start way wide = putMid_placed at (at + k - at) x place (omega arith) ∙ ap (λ a. placed x a place) start
