-- The blocks of a fleet's memory. Assumes nothing.
use Rattle.std.proofs.Common.{◌≡◌, ℕ, zero, suc, ◌*◌, ◌<◌, ◌≤◌, true, ◌≢◌, List, ◌++◌, length, take, drop, replicate, sym, ap, ◌∙◌, inl, inr, suc-mul, arith}
use Rattle.std.proofs.lemmas.List.{length-append, length-replicate, drop-append-le, drop_at, length-drop, take_all, take-append-le}
use Rattle.std.proofs.lemmas.Bool.{cases_eq}
use Rattle.table.specs.Limits.{register_count}
use Rattle.table.specs.Tables.{Table, sound}
use Rattle.step.specs.Nodes.{WordKind}
use Rattle.step.specs.Opening.{columns, opened, start_registers}
use Rattle.step.specs.Records.{record_length, record_of, record_start, records_length}
use Rattle.step.specs.Steps.{Fitting}
use Rattle.step.proofs.FirstWords.{columns_kept}
use Rattle.step.proofs.OpeningMeaning.{opened_length}
use Rattle.step.proofs.RecordLaws.{part_below}
use Rattle.step.proofs.Rows.{row_inside}
use Rattle.history.specs.Calls.{block_at, block_size, first_blocks, first_memory, put_block}
use Rattle.history.proofs.Rows as rows

module _ (k : WordKind) (t : Table) where
  -- A block replaced

  module _ (memory : List ℕ) (room : t.switches * block_size k t ≤ length memory) (s : ℕ) (below : s < t.switches) where
    pub block_long : length (block_at k t memory s) ≡ block_size k t
    block_long = rows.row_length (block_size k t) t.switches memory room s below

    pub block_fits : Fitting t s (block_at k t memory s)
    block_fits = record { there = below; shape = block_long }

    module _ (block : List ℕ) (long : length block ≡ block_size k t) where
      pub put_long : length (put_block k t memory s block) ≡ length memory
      put_long = rows.put_length (block_size k t) t.switches memory room s below block long

      pub put_own : block_at k t (put_block k t memory s block) s ≡ block
      put_own = rows.put_same (block_size k t) t.switches memory room s below block long

      pub put_others : (j : ℕ) → j ≢ s → block_at k t (put_block k t memory s block) j ≡ block_at k t memory j
      put_others j differ = rows.put_other (block_size k t) t.switches memory room s below block long j differ

  -- memories with the same blocks are the same
  pub same_memory : (one two : List ℕ) → length one ≡ t.switches * block_size k t → length two ≡ t.switches * block_size k t → ((s : ℕ) → s < t.switches → block_at k t one s ≡ block_at k t two s) → one ≡ two
  same_memory one two long long' same =
      sym (take_all (t.switches * block_size k t) one (omega (arith, long)))
      ∙ rows.rows_same (block_size k t) t.switches one two same
      ∙ take_all (t.switches * block_size k t) two (omega (arith, long'))

  -- The memory of a new fleet

  module _ (is_sound : sound t ≡ true) where
    blocks_long : (i : ℕ) → i ≤ t.switches → length (first_blocks k t i) ≡ i * block_size k t
    unfolding first_blocks
    blocks_long zero le = omega arith
    blocks_long (suc i) le =
        let before = blocks_long i (omega arith) in
        let last = opened_length k t is_sound i (omega arith) in
        let more = suc-mul i (block_size k t) in
        omega (arith, length-append (first_blocks k t i) (opened k t i))

    block_first : (i : ℕ) → i ≤ t.switches → (s : ℕ) → s < i → block_at k t (first_blocks k t i) s ≡ opened k t s
    unfolding first_blocks
    block_first zero le s below = absurd (omega arith)
    block_first (suc i) le s below =
        let size : ℕ = block_size k t in
        let long = blocks_long i (omega arith) in
        elim (cases_eq s i) [
          | inl e ↦
              ap (λ z. take size (drop (z * size) (first_blocks k t i ++ opened k t i))) e
              ∙ ap (take size) (drop_at (first_blocks k t i) (opened k t i) (i * size) long)
              ∙ take_all size (opened k t i) (omega (arith, opened_length k t is_sound i (omega arith)))
              ∙ ap (opened k t) (sym e)
          | inr ne ↦
              let less : s < i = omega arith in
              let inside = row_inside s size i less in
              ap (take size) (drop-append-le (s * size) (first_blocks k t i) (opened k t i) (omega (arith, long)))
              ∙ take-append-le size (drop (s * size) (first_blocks k t i)) (opened k t i) (omega (arith, long, length-drop (s * size) (first_blocks k t i)))
              ∙ block_first i (omega arith) s less
        ]

    pub first_long : length (first_memory k t) ≡ t.switches * block_size k t
    first_long = blocks_long t.switches (omega arith)

    pub first_block : (s : ℕ) → s < t.switches → block_at k t (first_memory k t) s ≡ opened k t s
    first_block s below = block_first t.switches (omega arith) s below

  -- every switch starts with the same records
  pub first_records : (s i j : ℕ) → j < t.switches → record_of (length t.nodes) (opened k t s) j ≡ record_of (length t.nodes) (opened k t i) j
  first_records s i j below = same s ∙ sym (same i)
    where
      same : (s : ℕ) → record_of (length t.nodes) (opened k t s) j ≡ record_of (length t.nodes) (columns k t t.nodes 0 (replicate (block_size k t) 0)) j
      same s =
          let m = length t.nodes in
          let empty : List ℕ = replicate (block_size k t) 0 in
          let long : length (columns k t t.nodes 0 empty) ≡ block_size k t = (columns_kept k t t.nodes 0 empty (omega arith)).size ∙ length-replicate (block_size k t) 0 in
          part_below (columns k t t.nodes 0 empty) (start_registers t s) (records_length t.switches m) register_count (record_start m j) (record_length m) (row_inside j (record_length m) t.switches below) (omega (arith, long))
