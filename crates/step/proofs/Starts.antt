-- The words that registers start with. Assumes nothing.
use Rattle.std.proofs.Common.{◌≡◌, ℕ, ◌+◌, ◌*◌, ◌<◌, ◌≤◌, true, cond, ◌&&◌, List, length, get_or, drop, Some, None, unwrap_or, sym, ◌∙◌, arith, lt-ltb}
use Rattle.std.proofs.lemmas.List.{ext_get_or, get_or-take, get_or-drop, length-take-le, length-drop}
use Rattle.table.specs.Limits.{register_count}
use Rattle.table.specs.Tables.{Table, sound, start_word}
use Rattle.table.proofs.Soundness.{sound_parts, sound_limits}
use Rattle.step.specs.Opening.{start_registers}

module _ (t : Table) (is_sound : sound t ≡ true) (s : ℕ) (below : s < t.switches) where
  pub starts_length : length (start_registers t s) ≡ register_count
  starts_length =
      let count = (sound_limits t (sound_parts t is_sound)).start_count in
      let room : register_count ≤ length (drop (s * register_count) t.starts) = omega (arith, length-drop (s * register_count) t.starts, count) in
      length-take-le register_count (drop (s * register_count) t.starts) room

  pub starts_are : (ws : List ℕ) → length ws ≡ register_count → ((k : ℕ) → k < register_count → get_or ws k 0 ≡ get_or t.starts (s * register_count + k) 0) → ws ≡ start_registers t s
  starts_are ws long each =
      ext_get_or 0 ws (start_registers t s) (long ∙ sym starts_length)
      (λ k lt. let small : k < register_count = omega (arith, lt, long) in each k small ∙ sym (get_or-take register_count (drop (s * register_count) t.starts) k 0 small ∙ get_or-drop (s * register_count) t.starts k 0))

pub start_value : (t : Table) (s g : ℕ) → s < t.switches → g < register_count → unwrap_or (start_word t s g) 0 ≡ get_or t.starts (s * register_count + g) 0
start_value t s g below small =
    let one = lt-ltb s t.switches below in
    let two = lt-ltb g register_count small in
    (λ i. unwrap_or (cond (one i && two i) (Some (get_or t.starts (s * register_count + g) 0)) None) 0)
