-- The laws of steps and openings, together. Assumes nothing.
use Rattle.std.proofs.Common.{◌≡◌, ℕ, suc, ◌<◌, Bool, true, false, not, ◌&&◌, eqb, ltb, List, [], ◌∷◌, length, get_or, refl, ap, ◌∙◌, w32, Fits}
use Rattle.readings.specs.Ports.{has}
use Rattle.table.specs.Tables.{Table, sound}
use Rattle.readings.specs.Kinds.{Kind, Lawful}
use Rattle.step.specs.Nodes.{on_words}
use Rattle.step.specs.StepLaws.{Words, StepLaw, OpeningLaw}
use Rattle.step.specs.Steps.{Fitting, own_mask, own_words}
use Rattle.step.proofs.MaskBits.{mask_has}
use Rattle.step.proofs.OpeningMeaning.{opening_meaning, opened_count, opened_registers}
use Rattle.step.proofs.StepMeaning.{step_meaning}

-- the words of a slice are words
pub slice_words : (ws : List ℕ) → ((i : ℕ) → Fits w32 (get_or ws i 0)) → Words ws
slice_words [] h = tt
slice_words (w ∷ ws) h = ((h 0).fits, slice_words ws (λ i. h (suc i)))

twice_not : (b : Bool) → b ≡ not (not b)
twice_not true = refl
twice_not false = refl

module _ {R : Type 0} (k : Kind R) (held : R → Type 0) (law : Lawful k held) (t : Table) (is_sound : sound t ≡ true) (s : ℕ) where
  pub step_law : (block : List ℕ) (mask : ℕ) → Fitting t s block → Words block → mask ≡ own_mask (on_words k) t s block → StepLaw k t s block mask
  step_law block mask fitting words is = record {
    state = step_meaning k held law t is_sound s block fitting words;
    broken = λ i d.
        let r = get_or t.rules i d in
        let ws = own_words (on_words k) t s block in
        ap (λ z. has z i) is
        ∙ mask_has s ws t.rules d i
        ∙ ap (λ b. ltb i (length t.rules) && (eqb r.switch s && b)) (twice_not (eqb (get_or ws r.node 0) 0));
  }

  pub opening_law : s < t.switches → OpeningLaw k t s
  opening_law below = record {
    states = opening_meaning k held law t is_sound s below;
    counts = λ j lt. opened_count (on_words k) t s j lt;
    registers = opened_registers (on_words k) t is_sound s below;
  }
